use native.Mathlib.Omega.{arith}
use mathlib.Core.Path.{◌∙◌}
use Rattle.program.proofs.AcceptedLaws.{Read, read, read_refused}
use Rattle.compile.proofs.CompileLaws.{reader_refuses, list_short, sizeable, listed, sized, sizes_stored, promises}
use Rattle.compile.proofs.compile.Goals as goal

pub returns-in_default : goal.returns-in_default
returns-in_default c =
    let o = reader_refuses c.args.file.now c.args.grant c.args.sizes.now c.args.area.now _ _ (read_refused c.args.file.now c.read_program-read.ensures c.unwrap_err.ensures) in
    let kept = promises c.args.file.now c.args.grant c.args.sizes.now c.args.area.now o.answer o.area_is in
    record { result_value = o.answer; sizes_after = o.sizes_are; area_after = o.area_is; demand3 = kept.0; marks_clean = kept.1 }

pub returns-then-sizes-head : goal.returns-then-sizes-head
returns-then-sizes-head c =
    let good : Read c.args.file.now c.in-Ok.head = read c.args.file.now c.read_program-read.ensures c.in-Ok.is in
    let o = list_short c.args.file.now c.args.grant c.args.sizes.now c.args.area.now good (omega (arith, c.if-sizes-head.true)) in
    let kept = promises c.args.file.now c.args.grant c.args.sizes.now c.args.area.now o.answer o.area_is in
    record { result_value = o.answer; sizes_after = o.sizes_are; area_after = o.area_is; demand3 = kept.0; marks_clean = kept.1 }

pub node_body-requires : goal.node_body-requires
node_body-requires c =
    let good : Read c.args.file.now c.in-Ok.head = read c.args.file.now c.read_program-read.ensures c.in-Ok.is in
    good.accepts.sized.laid

pub fill_sizes-requires : goal.fill_sizes-requires
fill_sizes-requires c =
    let good : Read c.args.file.now c.in-Ok.head = read c.args.file.now c.read_program-read.ensures c.in-Ok.is in
    rw c.node_body.ensures (sizeable good c.if-sizes-head.false)

pub compile_sized-requires : goal.compile_sized-requires
compile_sized-requires c =
    let good : Read c.args.file.now c.in-Ok.head = read c.args.file.now c.read_program-read.ensures c.in-Ok.is in
    listed good c.args.sizes.now (rw c.node_body.ensures at c.fill_sizes.ensures)

pub returns : goal.returns
returns c =
    let good : Read c.args.file.now c.in-Ok.head = read c.args.file.now c.read_program-read.ensures c.in-Ok.is in
    let o = sized c.args.file.now c.args.grant c.args.sizes.now c.args.area.now good c.if-sizes-head.false in
    let filled = rw c.node_body.ensures at c.fill_sizes.ensures in
    let answer = c.compile_sized.ensures.result_value ∙ o.answer in
    let area = c.compile_sized.ensures.area_after ∙ o.area_is in
    let kept = promises c.args.file.now c.args.grant c.args.sizes.now c.args.area.now answer area in
    record {
      result_value = answer;
      sizes_after = filled ∙ sizes_stored c.args.file.now c.args.grant c.args.sizes.now c.args.area.now good ∙ o.sizes_are;
      area_after = area;
      demand3 = kept.0;
      marks_clean = kept.1;
    }
