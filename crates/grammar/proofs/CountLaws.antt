-- How many nodes a formula makes. Assumes nothing.
use Prim.Native.Nat.{ℕ, ◌+◌, ◌/◌, ◌%◌, ◌≤◌}
use native.Mathlib.Omega.{arith}
use mathlib.Core.Path.{◌≡◌, refl}
use mathlib.Core.Bool.{Bool, true, false, cond}
use mathlib.Core.List.{[], ◌∷◌}
use lib.ListN.{length, length-append}
use lib.Dec.{ltb}
use Rattle.grammar.specs.Characters.{caret, ampersand, closing}
use Rattle.grammar.specs.Grammar.{Sum, Product, Factor, lone, plus, single, times, constant0, constant1, variable, negation, brackets, sum_text, product_text, factor_text, number_text}
use Rattle.grammar.specs.FormulaNodes.{sum_count, product_count, factor_count, sum_nodes, product_nodes, factor_nodes}

-- the nodes are as many as are counted
mutual
  unfolding sum_nodes sum_count

  pub sum_nodes_lem : (s : Sum) (i : ℕ) → length (sum_nodes s i) ≡ sum_count s
  sum_nodes_lem (lone p) i = product_nodes_lem p i
  sum_nodes_lem (plus s p) i = simp length-append (omega (arith, sum_nodes_lem s i, product_nodes_lem p (i + sum_count s)))

  pub product_nodes_lem : (p : Product) (i : ℕ) → length (product_nodes p i) ≡ product_count p
  product_nodes_lem (single f) i = factor_nodes_lem f i
  product_nodes_lem (times p f) i = simp length-append (omega (arith, product_nodes_lem p i, factor_nodes_lem f (i + product_count p)))

  pub factor_nodes_lem : (f : Factor) (i : ℕ) → length (factor_nodes f i) ≡ factor_count f
  factor_nodes_lem constant0 i = refl
  factor_nodes_lem constant1 i = refl
  factor_nodes_lem (variable j) i = refl
  factor_nodes_lem (negation f) i = simp length-append (omega (arith, factor_nodes_lem f i))
  factor_nodes_lem (brackets s) i = sum_nodes_lem s i

-- at least one
mutual
  unfolding sum_count

  pub some_sum : (s : Sum) → 1 ≤ sum_count s
  some_sum (lone p) = some_product p
  some_sum (plus s p) = omega arith

  pub some_product : (p : Product) → 1 ≤ product_count p
  some_product (single f) = some_factor f
  some_product (times p f) = omega arith

  pub some_factor : (f : Factor) → 1 ≤ factor_count f
  some_factor constant0 = omega arith
  some_factor constant1 = omega arith
  some_factor (variable j) = omega arith
  some_factor (negation f) = omega arith
  some_factor (brackets s) = some_sum s

-- a number has a digit
number_some : (j : ℕ) → 1 ≤ length (number_text j)
number_some j = by (ltb j 10)
  where
    by : (t : Bool) → 1 ≤ length (cond t ((48 + j) ∷ []) ((48 + j / 10) ∷ ((48 + j % 10) ∷ [])))
    by true = omega arith
    by false = omega arith

-- and no more than the text has bytes
mutual
  unfolding sum_count sum_text

  pub sum_short : (s : Sum) → sum_count s ≤ length (sum_text s)
  sum_short (lone p) = product_short p
  sum_short (plus s p) = omega (arith, sum_short s, product_short p, length-append (sum_text s) (caret ∷ product_text p))

  pub product_short : (p : Product) → product_count p ≤ length (product_text p)
  product_short (single f) = factor_short f
  product_short (times p f) = omega (arith, product_short p, factor_short f, length-append (product_text p) (ampersand ∷ factor_text f))

  pub factor_short : (f : Factor) → factor_count f ≤ length (factor_text f)
  factor_short constant0 = omega arith
  factor_short constant1 = omega arith
  factor_short (variable j) = omega arith
  factor_short (negation f) = omega (arith, factor_short f)
  factor_short (brackets s) = omega (arith, sum_short s, length-append (sum_text s) (closing ∷ []))
