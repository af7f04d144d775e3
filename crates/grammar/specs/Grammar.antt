-- The formulas that members type (02, A6): how sums, products and factors are built, how each is written, and what it means.
use Rattle.std.specs.Prelude.{ℕ, ◌+◌, ◌*◌, ◌/◌, ◌%◌, cond, List, [], ◌∷◌, ◌++◌, ltb}
use Rattle.wire.specs.Bits.{xor_bit, bit}
use Rattle.grammar.specs.Characters.{caret, ampersand, exclamation, opening, closing, letter_x, digit0, digit1}

-- A sum (02) is products joined by ^, and a product (02) factors joined by &; both group to the left.
-- A factor (02) is 0, 1, an input, ! and a factor, or a sum in brackets.
mutual
  pub data Sum : Type 0 where
    lone : Product → Sum
    plus : Sum → Product → Sum

  pub data Product : Type 0 where
    single : Factor → Product
    times : Product → Factor → Product

  pub data Factor : Type 0 where
    constant0 constant1 : Factor
    variable : ℕ → Factor
    negation : Factor → Factor
    brackets : Sum → Factor

-- how the number of an input is written: one digit, or two not starting with 0
abbrev pub number_text : ℕ → List ℕ
number_text j = cond (ltb j 10) ((digit0 + j) ∷ []) ((digit0 + j / 10) ∷ ((digit0 + j % 10) ∷ []))

-- how each is written
unfoldable mutual
  pub sum_text : Sum → List ℕ
  sum_text (lone p) = product_text p
  sum_text (plus s p) = sum_text s ++ (caret ∷ product_text p)

  pub product_text : Product → List ℕ
  product_text (single f) = factor_text f
  product_text (times p f) = product_text p ++ (ampersand ∷ factor_text f)

  pub factor_text : Factor → List ℕ
  factor_text constant0 = digit0 ∷ []
  factor_text constant1 = digit1 ∷ []
  factor_text (variable j) = letter_x ∷ number_text j
  factor_text (negation f) = exclamation ∷ factor_text f
  factor_text (brackets s) = opening ∷ (sum_text s ++ (closing ∷ []))

-- the truth value on the input bits x: ^ is XOR, & is AND, ! is NOT
unfoldable mutual
  pub sum_value : Sum → List ℕ → ℕ
  sum_value (lone p) x = product_value p x
  sum_value (plus s p) x = xor_bit (sum_value s x) (product_value p x)

  pub product_value : Product → List ℕ → ℕ
  product_value (single f) x = factor_value f x
  product_value (times p f) x = product_value p x * factor_value f x

  pub factor_value : Factor → List ℕ → ℕ
  factor_value constant0 x = 0
  factor_value constant1 x = 1
  factor_value (variable j) x = bit x j
  factor_value (negation f) x = xor_bit 1 (factor_value f x)
  factor_value (brackets s) x = sum_value s x
