-- Laws of the control of an operand of AND. Assumes nothing.
use Prim.Native.Nat.{ℕ}
use mathlib.Core.Path.{◌≡◌, sym, ap, ◌∙◌}
use mathlib.Core.Option.{Option, none, some}
use Rattle.node.specs.Exprs.{Expr}
use Rattle.construction.specs.Pools.{lowest_free, all_free}
use Rattle.construction.specs.Construction.{input_of}
use Rattle.construction.proofs.Numbers.{control_from}
use Rattle.construction.proofs.PoolLaws.{control_is, start_free}
use Rattle.controls.specs.Controls.{ControlIs}

-- the control of an operand, by what it is
pub control_input : {e : Expr} {f j : ℕ} → input_of e ≡ some j → ControlIs e f j
unfolding control_from
control_input {e} {f} {j} h = record { is = λ q low. sym (control_is (input_of e) _ q ∙ ap (λ (o : Option ℕ). control_from o (lowest_free q)) h) }

pub control_free : {e : Expr} {f : ℕ} → input_of e ≡ none → ControlIs e f f
unfolding control_from
control_free {e} {f} h = record { is = λ q low. sym (control_is (input_of e) _ q ∙ ap (λ (o : Option ℕ). control_from o (lowest_free q)) h ∙ low) }

-- its control, by numbers
pub control_at : {e : Expr} {f r : ℕ} → ControlIs e f r → r ≡ control_from (input_of e) f
control_at {e} {f} c = c.is (all_free f) (start_free f) ∙ control_is (input_of e) _ (all_free f) ∙ ap (control_from (input_of e)) (start_free f)
