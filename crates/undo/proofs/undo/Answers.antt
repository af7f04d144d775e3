use native.Mathlib.Omega.{arith}
use mathlib.Core.Path.{◌≡◌, ap, ◌∙◌}
use Rattle.std.specs.Prelude.{Err}
use Rattle.std.proofs.Common.{rules}
use Rattle.refusal.specs.Answers.{answer_of}
use Rattle.undo.proofs.UndoLaws.{undo_passed, read_laid, read_range, counted_few, counted_room, counted_head, counted_length, counted_written}
use Rattle.undo.proofs.undo.Goals as goal

pub returns-in_err-head : goal.returns-in_err-head
returns-in_err-head c =
    let passed : c.from_residual.result ≡ Err c.in_err-head.field-0.0 = search rules in
    let o = undo_passed _ c.args.choices.now c.args.area.now c.read_with_lines.ensures c.in_err-head.was in
    record { result_value = ap answer_of passed ∙ o.answer; area_after = o.area_is }

pub gate_body-requires : goal.gate_body-requires
gate_body-requires c = read_laid _ c.args.choices.now c.args.area.now c.read_with_lines.ensures c.in_ok-head.was

pub invariant_of-undoing : goal.invariant_of-undoing
invariant_of-undoing c = record { in_range = read_range _ _ c.args.area.now c.read_with_lines.ensures c.in_ok-head.was c.gate_body.ensures }

pub file_length-requires : goal.file_length-requires
file_length-requires c =
    omega (arith, counted_few _ _ c.args.area.now c.read_with_lines.ensures c.in_ok-head.was c.gate_body.ensures c.count_kept-kept.ensures)

pub returns-then-area-file_length : goal.returns-then-area-file_length
returns-then-area-file_length c =
    let o = counted_room _ _ _ c.read_with_lines.ensures c.in_ok-head.was c.gate_body.ensures c.count_kept-kept.ensures c.file_length.ensures c.if-area-file_length.true in
    record { result_value = o.answer; area_after = c.fill.ensures.after (λ y e. search rules) ∙ o.area_is }

pub write_head-requires : goal.write_head-requires
write_head-requires c = (
  counted_head _ _ c.args.area.now c.read_with_lines.ensures c.in_ok-head.was c.gate_body.ensures c.count_kept-kept.ensures,
  omega (arith, c.file_length.ensures, c.if-area-file_length.false),
)

pub write-requires : goal.write-requires
write-requires c =
    omega (
      arith,
      counted_length _ _ c.args.area.now c.read_with_lines.ensures c.in_ok-head.was c.gate_body.ensures c.count_kept-kept.ensures,
      c.file_length.ensures,
      c.if-area-file_length.false,
      c.write_head.auto.area,
    )

pub returns : goal.returns
returns c =
    let o = counted_written _ _ c.args.area.now c.read_with_lines.ensures c.in_ok-head.was c.gate_body.ensures c.count_kept-kept.ensures c.file_length.ensures c.if-area-file_length.false c.write_head.ensures c.write.ensures in
    record { result_value = o.answer; area_after = o.area_is }
