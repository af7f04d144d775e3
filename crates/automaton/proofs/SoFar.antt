-- The text that was read up to a state. Assumes nothing.
use Prim.Native.Nat.{ℕ}
use mathlib.Core.List.{List, [], ◌∷◌, ◌++◌}
use Rattle.grammar.specs.Characters.{caret, ampersand, exclamation, opening, letter_x}
use Rattle.grammar.specs.Grammar.{sum_text, product_text, number_text}
use Rattle.automaton.specs.States.{AroundSum, AroundProduct, AroundFactor, outermost, in_brackets, first_product, next_product, first_factor, next_factor, negated}
use Rattle.automaton.specs.States.{State, factor_next, digit_next, digits_read, product_read}

-- the text before a sum, a product and a factor
unfoldable mutual
  pub before_sum : AroundSum → List ℕ
  before_sum outermost = []
  before_sum (in_brackets c) = before_factor c ++ (opening ∷ [])

  pub before_product : AroundProduct → List ℕ
  before_product (first_product k) = before_sum k
  before_product (next_product s k) = before_sum k ++ (sum_text s ++ (caret ∷ []))

  pub before_factor : AroundFactor → List ℕ
  before_factor (first_factor k) = before_product k
  before_factor (next_factor p k) = before_product k ++ (product_text p ++ (ampersand ∷ []))
  before_factor (negated c) = before_factor c ++ (exclamation ∷ [])

-- the text that a state has read
unfoldable pub so_far : State → List ℕ
so_far (factor_next c) = before_factor c
so_far (digit_next c) = before_factor c ++ (letter_x ∷ [])
so_far (digits_read j c) = before_factor c ++ (letter_x ∷ number_text j)
so_far (product_read p k) = before_product k ++ product_text p
