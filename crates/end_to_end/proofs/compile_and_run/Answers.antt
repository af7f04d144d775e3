use native.Mathlib.Omega.{arith}
use mathlib.Core.Path.{◌≡◌, sym, ap, ◌∙◌}
use lib.Seq.{length-take-le}
use Rattle.std.specs.Prelude.{Err}
use Rattle.std.proofs.Common.{rules}
use Rattle.refusal.specs.Answers.{result, answer_of}
use Rattle.run.specs.RunCircuit.{ran}
use Rattle.compilation.specs.Compiling.{compile_of}
use Rattle.end_to_end.proofs.RunLaws.{compile_refused, gates_few, file_inside, compiled_run}
use Rattle.end_to_end.proofs.compile_and_run.Goals as goal

pub returns-in_err-head : goal.returns-in_err-head
returns-in_err-head c =
    let passed : c.from_residual.result ≡ Err c.in_err-head.field-0.0 = search rules in
    let k = c.compile.ensures in
    let o = compile_refused c.args.file.now c.args.grant c.args.sizes.now c.args.area.now c.args.lines.now _ _ (sym k.result_value ∙ ap answer_of c.in_err-head.was) in
    let r = ap ran passed in
    record { result_value = r ∙ o.answer; sizes_after = k.sizes_after; area_after = k.area_after; lines_after = o.lines_are; ends = rw r o.ends }

pub file_length-end-requires : goal.file_length-end-requires
file_length-end-requires c =
    let written : (compile_of c.args.file.now c.args.grant c.args.sizes.now c.args.area.now).answer ≡ result c.in_ok-head.head = sym c.compile.ensures.result_value ∙ ap answer_of c.in_ok-head.was in
    omega (arith, gates_few c.args.file.now c.args.grant c.args.sizes.now c.args.area.now c.args.lines.now _ written)

pub slice_bounds-run_forwards-end : goal.slice_bounds-run_forwards-end
slice_bounds-run_forwards-end c =
    let written : (compile_of c.args.file.now c.args.grant c.args.sizes.now c.args.area.now).answer ≡ result c.in_ok-head.head = sym c.compile.ensures.result_value ∙ ap answer_of c.in_ok-head.was in
    omega (arith, file_inside c.args.file.now c.args.grant c.args.sizes.now c.args.area.now c.args.lines.now _ written, c.compile.auto.area, c.file_length-end.ensures)

pub slice_bounds-run_forwards-end-2 : goal.slice_bounds-run_forwards-end-2
slice_bounds-run_forwards-end-2 c =
    let written : (compile_of c.args.file.now c.args.grant c.args.sizes.now c.args.area.now).answer ≡ result c.in_ok-head.head = sym c.compile.ensures.result_value ∙ ap answer_of c.in_ok-head.was in
    sym (length-take-le _ _ (omega (arith, file_inside c.args.file.now c.args.grant c.args.sizes.now c.args.area.now c.args.lines.now _ written, c.compile.auto.area, c.file_length-end.ensures)))

pub returns : goal.returns
returns c =
    let written : (compile_of c.args.file.now c.args.grant c.args.sizes.now c.args.area.now).answer ≡ result c.in_ok-head.head = sym c.compile.ensures.result_value ∙ ap answer_of c.in_ok-head.was in
    let k = c.compile.ensures in
    let end = c.file_length-end.ensures in
    let r = c.run_forwards.ensures in
    let o = compiled_run c.args.file.now c.args.grant c.args.sizes.now c.args.area.now c.args.lines.now c.in_ok-head.head written (rw (k.result_value, k.area_after) at k.demand3) (rw (end, k.area_after) at r.result_value) (rw (end, k.area_after) at r.lines_after) in
    record { result_value = o.answer; sizes_after = k.sizes_after; area_after = k.area_after; lines_after = o.lines_are; ends = o.ends }
