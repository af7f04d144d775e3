use Rattle.formula.proofs.ParseLaws.{text_long, inputs_many, text_bad, made_few, body_long, body_few, text_read}
use mathlib.Core.Path.{◌≡◌, sym, ap, ◌∙◌}
use Rattle.std.specs.Prelude.{Err}
use Rattle.std.proofs.Common.{rules}
use Rattle.refusal.specs.Answers.{answer_of}
use native.Mathlib.Omega.{arith}
use Rattle.formula.proofs.parse.Goals as goal

pub returns-then-text-gt-MOST_TEXT : goal.returns-then-text-gt-MOST_TEXT
returns-then-text-gt-MOST_TEXT c = let o = text_long c.args.text.now c.args.inputs c.args.area.now (omega arith) in
    record { result_value = o.answer; area_after = o.area_is }

pub returns-then-inputs : goal.returns-then-inputs
returns-then-inputs c = let o = inputs_many c.args.text.now c.args.inputs c.args.area.now (omega arith) (omega arith) in
    record { result_value = o.answer; area_after = o.area_is }

pub returns-in_err-made : goal.returns-in_err-made
returns-in_err-made c =
    let passed : c.from_residual.result ≡ Err c.in_err-made.field-0.0 = search rules in
    let o = text_bad c.args.text.now c.args.inputs c.args.area.now (omega arith) (omega arith) _ _ _ c.in_err-made.ensures in
    record { result_value = ap answer_of passed ∙ o.answer; area_after = o.area_is }

pub overflow_mul-nodes : goal.overflow_mul-nodes
overflow_mul-nodes c = let h = made_few c.args.text.now c.args.inputs c.args.area.now (omega arith) (omega arith) _ _ c.in_ok-made.made c.in_ok-made.ensures in omega (arith, h)

pub slice_bounds-nodes-end : goal.slice_bounds-nodes-end
slice_bounds-nodes-end c = let h = made_few c.args.text.now c.args.inputs c.args.area.now (omega arith) (omega arith) _ _ c.in_ok-made.made c.in_ok-made.ensures in omega (arith, h)

pub slice_bounds-deliver-end : goal.slice_bounds-deliver-end
slice_bounds-deliver-end c =
    let h = made_few c.args.text.now c.args.inputs c.args.area.now (omega arith) (omega arith) _ _ c.in_ok-made.made c.in_ok-made.ensures in
    sym (body_long c.args.text.now c.args.inputs c.args.area.now (omega arith) (omega arith) _ _ c.in_ok-made.made c.in_ok-made.ensures (omega (arith, h, c.whole.auto.nodes)))

pub deliver-requires : goal.deliver-requires
deliver-requires c =
    let h = made_few c.args.text.now c.args.inputs c.args.area.now (omega arith) (omega arith) _ _ c.in_ok-made.made c.in_ok-made.ensures in
    body_few c.args.text.now c.args.inputs c.args.area.now (omega arith) (omega arith) _ _ c.in_ok-made.made c.in_ok-made.ensures (omega (arith, h, c.whole.auto.nodes))

pub returns : goal.returns
returns c =
    let h = made_few c.args.text.now c.args.inputs c.args.area.now (omega arith) (omega arith) _ _ c.in_ok-made.made c.in_ok-made.ensures in
    let o = text_read c.args.text.now c.args.inputs c.args.area.now (omega arith) (omega arith) _ _ c.in_ok-made.made c.in_ok-made.ensures (omega (arith, h)) c.deliver.ensures.result_value c.deliver.ensures.area_after in
    record { result_value = o.answer; area_after = o.area_is }
