-- How far reading a text has come between two bytes: a formula with a place in it that is still to be read.
use Rattle.std.specs.Prelude.{ℕ, ◌+◌}
use Rattle.grammar.specs.Grammar.{Sum, Product}
use Rattle.grammar.specs.FormulaNodes.{sum_count, product_count}

-- What stands around a sum, a product and a factor that is still to be read: nothing, or a bracket; nothing of its sum, or
-- a sum and ^; nothing of its product, or a product and &, or a !.
mutual
  pub data AroundSum : Type 0 where
    outermost : AroundSum
    in_brackets : AroundFactor → AroundSum

  pub data AroundProduct : Type 0 where
    first_product : AroundSum → AroundProduct
    next_product : Sum → AroundSum → AroundProduct

  pub data AroundFactor : Type 0 where
    first_factor : AroundProduct → AroundFactor
    next_factor : Product → AroundProduct → AroundFactor
    negated : AroundFactor → AroundFactor

-- A factor comes next; x was read; x and a number were read, which a digit may go on; a product was read, which & may go on.
pub data State : Type 0 where
  factor_next : AroundFactor → State
  digit_next : AroundFactor → State
  digits_read : ℕ → AroundFactor → State
  product_read : Product → AroundProduct → State

-- how many brackets are open and ! pending around a sum, a product and a factor
unfoldable mutual
  pub open_sum : AroundSum → ℕ
  open_sum outermost = 0
  open_sum (in_brackets c) = 1 + open_factor c

  pub open_product : AroundProduct → ℕ
  open_product (first_product k) = open_sum k
  open_product (next_product s k) = open_sum k

  pub open_factor : AroundFactor → ℕ
  open_factor (first_factor k) = open_product k
  open_factor (next_factor p k) = open_product k
  open_factor (negated c) = 1 + open_factor c

-- how many are open and pending in a state
unfoldable pub opened : State → ℕ
opened (factor_next c) = open_factor c
opened (digit_next c) = open_factor c
opened (digits_read j c) = open_factor c
opened (product_read p k) = open_product k

-- how many nodes are made before a sum, a product and a factor: those whose text has ended
unfoldable mutual
  pub made_sum : AroundSum → ℕ
  made_sum outermost = 0
  made_sum (in_brackets c) = made_factor c

  pub made_product : AroundProduct → ℕ
  made_product (first_product k) = made_sum k
  made_product (next_product s k) = made_sum k + sum_count s

  pub made_factor : AroundFactor → ℕ
  made_factor (first_factor k) = made_product k
  made_factor (next_factor p k) = made_product k + product_count p
  made_factor (negated c) = made_factor c

-- how many are made in a state
unfoldable pub made : State → ℕ
made (factor_next c) = made_factor c
made (digit_next c) = made_factor c
made (digits_read j c) = made_factor c
made (product_read p k) = made_product k + product_count p

-- before the first byte
abbrev pub initial : State
initial = factor_next (first_factor (first_product outermost))
