use Rattle.oracle.proofs.ExportLaws.{compiled_few, compiled_shown, demand_exported}
use Rattle.oracle.proofs.oracle_compile.Goals as goal

pub file_answer-requires : goal.file_answer-requires
file_answer-requires c = compiled_few _ _ _ _ c.compile.ensures.result_value

pub returns : goal.returns
returns c =
    let e = c.compile.ensures in
    let r = c.file_answer.ensures in
    record { value = compiled_shown c.args.file.now c.args.grant c.args.sizes.now c.args.area.now e.result_value r; sizes_after = e.sizes_after; area_after = e.area_after; exported_demand3 = demand_exported c.compile.result e.demand3 r }
