use Rattle.scanner.proofs.DigitLaws.{digit_is, number_none, number_over, number_zero, number_alone, number_two_over, number_two}
use Rattle.std.proofs.Common.{refl, sym, ◌∙◌, ◌≡◌, arith, Err, None}
use Rattle.std.proofs.lemmas.Grind.{common_steps}
use Rattle.scanner.specs.Scanning.{digit_at}
use Rattle.refusal.specs.declared.causes.Refusal.TheVariants as cause
use Rattle.scanner.proofs.number.Goals as goal

pub returns-in_err-first : goal.returns-in_err-first
returns-in_err-first c =
    let none : None ≡ digit_at c.args.text.now.now c.args.at = sym c.in_err-first.ensures.ok_part ∙ c.digit_at.ensures in
    let passed : c.from_residual.result ≡ Err (cause.Text c.args.at) = grind (arith, common_steps, c.in_err-first.ensures.value) in
    rw passed (number_none c.args.inputs c.args.text.now.now c.args.at c.args.made (omega arith) none)

pub returns-then-inputs-first : goal.returns-then-inputs-first
returns-then-inputs-first c =
    number_over c.args.inputs c.args.text.now.now c.args.at c.args.made _ (sym c.in_ok-first.ensures.ok_part ∙ c.digit_at.ensures) (omega arith)

pub returns-then-first-eq0 : goal.returns-then-first-eq0
returns-then-first-eq0 c =
    rw c.number.ensures
    (number_zero c.args.inputs c.args.text.now.now c.args.at c.args.made _ (sym c.in_ok-first.ensures.ok_part ∙ c.digit_at.ensures) (omega arith) (omega arith))

pub returns-in_default : goal.returns-in_default
returns-in_default c =
    rw c.number.ensures
    (number_alone c.args.inputs c.args.text.now.now c.args.at c.args.made _ (sym c.in_ok-first.ensures.ok_part ∙ c.digit_at.ensures) (omega arith)
    (sym c.in_default.is ∙ c.digit_at-2.ensures))

pub overflow_mul-j : goal.overflow_mul-j
overflow_mul-j c =
    let d = digit_is _ _ (sym c.in_ok-first.ensures.ok_part ∙ c.digit_at.ensures) in
    let e = digit_is _ _ (sym c.in-Some.is ∙ c.digit_at-2.ensures) in
    omega (arith, d.small, e.small)

pub overflow_add-j : goal.overflow_add-j
overflow_add-j c =
    let d = digit_is _ _ (sym c.in_ok-first.ensures.ok_part ∙ c.digit_at.ensures) in
    let e = digit_is _ _ (sym c.in-Some.is ∙ c.digit_at-2.ensures) in
    omega (arith, d.small, e.small)

pub returns-then-inputs-j : goal.returns-then-inputs-j
returns-then-inputs-j c =
    number_two_over c.args.inputs c.args.text.now.now c.args.at c.args.made _ (sym c.in_ok-first.ensures.ok_part ∙ c.digit_at.ensures) (omega arith)
    (omega arith) _ _ (sym c.in-Some.is ∙ c.digit_at-2.ensures) refl (omega arith)

pub returns : goal.returns
returns c =
    rw c.number.ensures
    (number_two c.args.inputs c.args.text.now.now c.args.at c.args.made _ (sym c.in_ok-first.ensures.ok_part ∙ c.digit_at.ensures) (omega arith)
    (omega arith) _ _ (sym c.in-Some.is ∙ c.digit_at-2.ensures) refl (omega arith))
