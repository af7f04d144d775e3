-- The ways in which a byte is read, and that there are no others. Assumes nothing.
use Prim.Native.Nat.{ℕ, ◌+◌, ◌*◌, ◌-◌, ◌≤◌}
use native.Mathlib.Omega.{arith}
use mathlib.Core.Path.{◌≡◌, refl}
use mathlib.Core.Bool.{Bool, true, false, cond, ◌&&◌}
use lib.Dec.{leb, eqb}
use borrow.Author.Tests.{leb-true, eqb-true}
use Rattle.refusal.proofs.CheckLaws.{both_first, both_second}
use Rattle.grammar.specs.Characters.{caret, ampersand, exclamation, opening, closing, letter_x, digit0, digit1, digit9}
use Rattle.grammar.specs.Grammar.{Product, constant0, constant1, variable, brackets}
use Rattle.automaton.specs.States.{AroundSum, AroundProduct, AroundFactor, outermost, in_brackets, first_product, next_product, first_factor, next_factor, negated}
use Rattle.automaton.specs.States.{State, factor_next, digit_next, digits_read, product_read}
use Rattle.automaton.specs.Automaton.{product_with, outside_factor, after_factor, sum_with, outside_product, Next, stop, go, read_closing, read_behind, read_factor_byte, is_digit, longer, read_byte}
use Rattle.automaton.proofs.Following.{InputBelow}

pub data Step : State → ℕ → State → Type 0 where
  a_zero : {c : AroundFactor} → Step (factor_next c) digit0 (after_factor constant0 c)
  a_one : {c : AroundFactor} → Step (factor_next c) digit1 (after_factor constant1 c)
  a_letter : {c : AroundFactor} → Step (factor_next c) letter_x (digit_next c)
  a_bang : {c : AroundFactor} → Step (factor_next c) exclamation (factor_next (negated c))
  a_bracket : {c : AroundFactor} → Step (factor_next c) opening (factor_next (first_factor (first_product (in_brackets c))))
  a_digit : {c : AroundFactor} {b : ℕ} → digit0 ≤ b → b ≤ digit9 → Step (digit_next c) b (digits_read (b - digit0) c)
  a_second : {c : AroundFactor} {j b : ℕ} → digit0 ≤ b → b ≤ digit9 → 1 ≤ j → j ≤ 9 → Step (digits_read j c) b (digits_read (10 * j + (b - digit0)) c)
  behind : {c : AroundFactor} {j b : ℕ} {τ : State} → Step (after_factor (variable j) c) b τ → Step (digits_read j c) b τ
  an_and : {p : Product} {k : AroundProduct} → Step (product_read p k) ampersand (factor_next (next_factor p k))
  a_caret : {p : Product} {k : AroundProduct} → Step (product_read p k) caret (factor_next (first_factor (next_product (sum_with p k) (outside_product k))))
  a_close : {p : Product} {k : AroundProduct} {c : AroundFactor} → outside_product k ≡ in_brackets c → Step (product_read p k) closing (after_factor (brackets (sum_with p k)) c)

-- where a byte is read at all
data Each (P : State → Type 0) : Next → Type 0 where
  none : Each P stop
  some : {τ : State} → P τ → Each P (go τ)

each_test : {P : State → Type 0} (t : Bool) {x y : Next} → (t ≡ true → Each P x) → (t ≡ false → Each P y) → Each P (cond t x y)
each_test true f g = f refl
each_test false f g = g refl

each_map : {P Q : State → Type 0} → ((τ : State) → P τ → Q τ) → {x : Next} → Each P x → Each Q x
each_map f none = none
each_map f (some {τ} h) = some (f τ h)

module _ (b : ℕ) (q : is_digit b ≡ true) where
  digit_low : digit0 ≤ b
  digit_low = leb-true digit0 b (both_first (leb digit0 b) (leb b digit9) q)

  digit_high : b ≤ digit9
  digit_high = leb-true b digit9 (both_second (leb digit0 b) (leb b digit9) q)

steps_behind : (p : Product) (k : AroundProduct) (b : ℕ) → Each (Step (product_read p k) b) (read_behind p k b)
unfolding read_behind read_closing
steps_behind p k b =
    each_test (eqb b ampersand) (λ q. rw (eqb-true b ampersand q) (some an_and)) λ _.
    each_test (eqb b caret) (λ q. rw (eqb-true b caret q) (some a_caret)) λ _.
    each_test (eqb b closing) (λ q. rw (eqb-true b closing q) (ends (outside_product k) refl)) (λ _. none)
  where
    ends : (j : AroundSum) → outside_product k ≡ j → Each (Step (product_read p k) closing) (read_closing (sum_with p k) j)
    ends outermost e = none
    ends (in_brackets c) e = some (a_close e)

steps_factor : (c : AroundFactor) (b : ℕ) → Each (Step (factor_next c) b) (read_factor_byte c b)
unfolding read_factor_byte
steps_factor c b =
    each_test (eqb b digit0) (λ q. rw (eqb-true b digit0 q) (some a_zero)) λ _.
    each_test (eqb b digit1) (λ q. rw (eqb-true b digit1 q) (some a_one)) λ _.
    each_test (eqb b letter_x) (λ q. rw (eqb-true b letter_x q) (some a_letter)) λ _.
    each_test (eqb b exclamation) (λ q. rw (eqb-true b exclamation q) (some a_bang)) λ _.
    each_test (eqb b opening) (λ q. rw (eqb-true b opening q) (some a_bracket)) (λ _. none)

steps : (σ : State) (b : ℕ) → Each (Step σ b) (read_byte σ b)
unfolding read_byte longer after_factor
steps (factor_next c) b = steps_factor c b
steps (digit_next c) b = each_test (is_digit b) (λ q. some (a_digit (digit_low b q) (digit_high b q))) (λ _. none)
steps (digits_read j c) b =
    each_test (longer j b) (λ q.
    let d : is_digit b ≡ true = both_first (is_digit b) (leb 1 j && leb j 9) q in
    let r : leb 1 j && leb j 9 ≡ true = both_second (is_digit b) (leb 1 j && leb j 9) q in
    some (a_second (digit_low b d) (digit_high b d) (leb-true 1 j (both_first (leb 1 j) (leb j 9) r)) (leb-true j 9 (both_second (leb 1 j) (leb j 9) r))))
    (λ _. each_map (λ τ h. behind h) (steps_behind (product_with (variable j) c) (outside_factor c) b))
steps (product_read p k) b = steps_behind p k b

-- a byte that leads somewhere is read in one of these ways
pub step_to : {σ τ : State} {b : ℕ} → read_byte σ b ≡ go τ → Step σ b τ
step_to {σ} {τ} {b} e = taken (go τ) refl (rw e at (steps σ b))
  where
    taken : (x : Next) → x ≡ go τ → Each (Step σ b) x → Step σ b τ
    taken x q none = absurd (let z : ◌≡◌ {A = ℕ} 0 1 = cc in omega arith)
    taken x q (some {τ = υ} h) = let same : υ ≡ τ = cc in rw same at h

-- a number that is read has at most two digits
pub step_number : {σ τ : State} {b : ℕ} → Step σ b τ → InputBelow 100 τ
unfolding after_factor
step_number a_zero = tt
step_number a_one = tt
step_number a_letter = tt
step_number a_bang = tt
step_number a_bracket = tt
step_number (a_digit l u) = omega arith
step_number (a_second l u l' u') = omega arith
step_number (behind s) = step_number s
step_number an_and = tt
step_number a_caret = tt
step_number (a_close e) = tt
