-- What is limited in a formula: how many brackets and ! are open together, and the numbers of its inputs.
use Rattle.std.specs.Prelude.{ℕ, ◌+◌, ◌<◌, max}
use Rattle.grammar.specs.Grammar.{Sum, Product, Factor, lone, plus, single, times, constant0, constant1, variable, negation, brackets}

-- the depth: the most brackets that are open and ! that are pending (02) at one place of the text
unfoldable mutual
  pub sum_depth : Sum → ℕ
  sum_depth (lone p) = product_depth p
  sum_depth (plus s p) = max (sum_depth s) (product_depth p)

  pub product_depth : Product → ℕ
  product_depth (single f) = factor_depth f
  product_depth (times p f) = max (product_depth p) (factor_depth f)

  pub factor_depth : Factor → ℕ
  factor_depth constant0 = 0
  factor_depth constant1 = 0
  factor_depth (variable j) = 0
  factor_depth (negation f) = 1 + factor_depth f
  factor_depth (brackets s) = 1 + sum_depth s

-- every input's number is below n
unfoldable mutual
  pub SumBelow : ℕ → Sum → Type 0
  SumBelow n (lone p) = ProductBelow n p
  SumBelow n (plus s p) = SumBelow n s × ProductBelow n p

  pub ProductBelow : ℕ → Product → Type 0
  ProductBelow n (single f) = FactorBelow n f
  ProductBelow n (times p f) = ProductBelow n p × FactorBelow n f

  pub FactorBelow : ℕ → Factor → Type 0
  FactorBelow n constant0 = Unit {0}
  FactorBelow n constant1 = Unit {0}
  FactorBelow n (variable j) = j < n
  FactorBelow n (negation f) = FactorBelow n f
  FactorBelow n (brackets s) = SumBelow n s
