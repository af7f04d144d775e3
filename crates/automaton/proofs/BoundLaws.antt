-- What is read stays within the bounds on what is open and on the numbers. Assumes nothing.
use Prim.Native.Nat.{ℕ, ◌+◌, ◌≤◌, ◌<◌}
use native.Mathlib.Omega.{arith}
use mathlib.Core.Path.{◌≡◌, refl, ap}
use mathlib.Core.List.{List}
use Rattle.grammar.specs.Grammar.{Sum, Product, Factor, constant0, constant1, variable, negation, brackets}
use Rattle.grammar.specs.Extent.{sum_depth, product_depth, factor_depth, SumBelow, ProductBelow, FactorBelow}
use Rattle.automaton.specs.States.{AroundSum, AroundProduct, AroundFactor, outermost, in_brackets, first_product, next_product, first_factor, next_factor, negated}
use Rattle.automaton.specs.States.{State, factor_next, digit_next, digits_read, product_read, opened, open_sum, open_product, open_factor, initial}
use Rattle.automaton.specs.Automaton.{product_with, outside_factor, after_factor, sum_with, outside_product}
use Rattle.automaton.proofs.Following.{InputBelow, Follows, stay, read}
use Rattle.automaton.proofs.Steps.{Step, a_zero, a_one, a_letter, a_bang, a_bracket, a_digit, a_second, behind, an_and, a_caret, a_close, step_to}

-- a factor that ends leaves no more open
pub open_outside : (c : AroundFactor) → open_product (outside_factor c) ≤ open_factor c
unfolding open_factor outside_factor
open_outside (first_factor k) = omega arith
open_outside (next_factor p k) = omega arith
open_outside (negated c) = omega (arith, open_outside c)

pub open_after : (f : Factor) (c : AroundFactor) → opened (after_factor f c) ≤ open_factor c
unfolding opened after_factor
open_after f c = open_outside c

-- nor does a product
open_summed : (k : AroundProduct) → open_sum (outside_product k) ≡ open_product k
unfolding outside_product open_sum
open_summed (first_product k) = refl
open_summed (next_product s k) = refl

-- a byte opens at most one more
pub step_opened : {σ τ : State} {b : ℕ} → Step σ b τ → opened τ ≤ opened σ + 1
unfolding opened open_sum
step_opened (a_zero {c}) = omega (arith, open_after constant0 c)
step_opened (a_one {c}) = omega (arith, open_after constant1 c)
step_opened a_letter = omega arith
step_opened a_bang = omega arith
step_opened a_bracket = omega arith
step_opened (a_digit l u) = omega arith
step_opened (a_second l u l' u') = omega arith
step_opened (behind {c} {j} s) = omega (arith, step_opened s, open_after (variable j) c)
step_opened an_and = omega arith
step_opened (a_caret {p} {k}) = omega (arith, open_summed k)
step_opened (a_close {p} {k} {c} e) =
    let q : open_sum (outside_product k) ≡ open_sum (in_brackets c) = ap open_sum e in
    omega (arith, q, open_summed k, open_after (brackets (sum_with p k)) c)

-- each sum and product read has its numbers below n, and at most d open at its place
unfoldable mutual
  pub BoundSum : ℕ → ℕ → AroundSum → Type 0
  BoundSum d n outermost = Unit {0}
  BoundSum d n (in_brackets c) = BoundFactor d n c

  pub BoundProduct : ℕ → ℕ → AroundProduct → Type 0
  BoundProduct d n (first_product k) = BoundSum d n k
  BoundProduct d n (next_product s k) = BoundSum d n k × SumBelow n s × (open_sum k + sum_depth s ≤ d)

  pub BoundFactor : ℕ → ℕ → AroundFactor → Type 0
  BoundFactor d n (first_factor k) = BoundProduct d n k
  BoundFactor d n (next_factor p k) = BoundProduct d n k × ProductBelow n p × (open_product k + product_depth p ≤ d)
  BoundFactor d n (negated c) = BoundFactor d n c

unfoldable pub Bound : ℕ → ℕ → State → Type 0
Bound d n (factor_next c) = BoundFactor d n c × (open_factor c ≤ d)
Bound d n (digit_next c) = BoundFactor d n c × (open_factor c ≤ d)
Bound d n (digits_read j c) = BoundFactor d n c × (open_factor c ≤ d) × (j < n)
Bound d n (product_read p k) = BoundProduct d n k × ProductBelow n p × (open_product k + product_depth p ≤ d)

pub record BoundSummed (d n : ℕ) (s : Sum) (j : AroundSum) : Type 0 where
  pub outside : BoundSum d n j
  pub below : SumBelow n s
  pub fits : open_sum j + sum_depth s ≤ d

module _ (d n : ℕ) where
  pub bound_after : (f : Factor) (c : AroundFactor) → BoundFactor d n c → FactorBelow n f → open_factor c + factor_depth f ≤ d → Bound d n (after_factor f c)
  unfolding Bound BoundFactor after_factor product_with outside_factor SumBelow sum_depth open_sum
  bound_after f (first_factor k) o h m = (o, h, m)
  bound_after f (next_factor p k) o h m = (o.0, (o.1, h), omega (arith, o.2))
  bound_after f (negated c) o h m = bound_after (negation f) c o h (omega arith)

  pub bound_summed : (p : Product) (k : AroundProduct) → BoundProduct d n k → ProductBelow n p → open_product k + product_depth p ≤ d → BoundSummed d n (sum_with p k) (outside_product k)
  unfolding BoundSum sum_with outside_product SumBelow sum_depth open_sum
  bound_summed p (first_product k) o h m = record { outside = o; below = h; fits = m }
  bound_summed p (next_product s k) o h m = record { outside = o.0; below = (o.1, h); fits = omega (arith, o.2) }

  pub bound_step : {σ τ : State} {b : ℕ} → Step σ b τ → Bound d n σ → opened τ ≤ d → InputBelow n τ → Bound d n τ
  unfolding Bound BoundSum opened SumBelow sum_depth open_sum
  bound_step (a_zero {c}) o m i = bound_after constant0 c o.0 tt (omega (arith, o.1))
  bound_step (a_one {c}) o m i = bound_after constant1 c o.0 tt (omega (arith, o.1))
  bound_step a_letter o m i = o
  bound_step a_bang o m i = (o.0, m)
  bound_step a_bracket o m i = (o.0, m)
  bound_step (a_digit l u) o m i = (o.0, m, i)
  bound_step (a_second l u l' u') o m i = (o.0, m, i)
  bound_step (behind {c} {j} s) o m i = bound_step s (bound_after (variable j) c o.0 o.2 (omega (arith, o.1))) m i
  bound_step (an_and {p} {k}) o m i = (o, m)
  bound_step (a_caret {p} {k}) o m i = let s = bound_summed p k o.0 o.1 o.2 in ((s.outside, s.below, s.fits), m)
  bound_step (a_close {p} {k} {c} e) o m i = ends (outside_product k) e (bound_summed p k o.0 o.1 o.2)
    where
      ends : (j : AroundSum) → j ≡ in_brackets c → BoundSummed d n (sum_with p k) j → Bound d n (after_factor (brackets (sum_with p k)) c)
      ends j q s =
          let s' : BoundSummed d n (sum_with p k) (in_brackets c) = rw q at s in
          bound_after (brackets (sum_with p k)) c s'.outside s'.below (omega (arith, s'.fits))

  -- also around a number that is not below n
  unfoldable pub BoundAround : State → Type 0
  BoundAround (factor_next c) = Unit {0}
  BoundAround (digit_next c) = Unit {0}
  BoundAround (digits_read j c) = BoundFactor d n c
  BoundAround (product_read p k) = Unit {0}

  pub bound_around : {σ τ : State} {b : ℕ} → Step σ b τ → Bound d n σ → BoundAround τ
  unfolding Bound BoundAround after_factor SumBelow sum_depth
  bound_around a_zero o = tt
  bound_around a_one o = tt
  bound_around a_letter o = tt
  bound_around a_bang o = tt
  bound_around a_bracket o = tt
  bound_around (a_digit l u) o = o.0
  bound_around (a_second l u l' u') o = o.0
  bound_around (behind {c} {j} s) o = bound_around s (bound_after (variable j) c o.0 o.2 (omega (arith, o.1)))
  bound_around an_and o = tt
  bound_around a_caret o = tt
  bound_around (a_close e) o = tt

  pub bound_initial : Bound d n initial
  unfolding Bound BoundSum open_sum
  bound_initial = (tt, omega arith)

  pub bound_follows : {σ τ : State} {bs : List ℕ} → Follows d n σ bs τ → Bound d n σ → Bound d n τ
  bound_follows stay o = o
  bound_follows (read e q i w) o = bound_follows w (bound_step (step_to e) o q i)

  pub bound_opened : (σ : State) → Bound d n σ → opened σ ≤ d
  unfolding Bound opened
  bound_opened (factor_next c) o = o.1
  bound_opened (digit_next c) o = o.1
  bound_opened (digits_read j c) o = o.1
  bound_opened (product_read p k) o = omega (arith, o.2)
