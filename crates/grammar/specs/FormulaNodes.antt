-- The program of a formula: its nodes in the order in which they are made.
use Rattle.std.specs.Prelude.{ℕ, ◌+◌, ◌-◌, false, List, [], ◌∷◌, ◌++◌}
use Rattle.node.specs.declared.nodes.Node.{Node}
use Rattle.node.specs.declared.nodes.Node.TheVariants.{Zero, One, Input, Not, Xor, And}
use Rattle.program.specs.Programs.{Program}
use Rattle.grammar.specs.Grammar.{Sum, Product, Factor, lone, plus, single, times, constant0, constant1, variable, negation, brackets}

-- how many nodes are made: one for each ^, &, !, 0, 1 and input; brackets make none
unfoldable mutual
  pub sum_count : Sum → ℕ
  sum_count (lone p) = product_count p
  sum_count (plus s p) = sum_count s + product_count p + 1

  pub product_count : Product → ℕ
  product_count (single f) = factor_count f
  product_count (times p f) = product_count p + factor_count f + 1

  pub factor_count : Factor → ℕ
  factor_count constant0 = 1
  factor_count constant1 = 1
  factor_count (variable j) = 1
  factor_count (negation f) = factor_count f + 1
  factor_count (brackets s) = sum_count s

-- the nodes, behind i nodes that are there already: each is made when its text ends (02), so behind its operands, and left before right; none is marked
unfoldable mutual
  pub sum_nodes : Sum → ℕ → List Node
  sum_nodes (lone p) i = product_nodes p i
  sum_nodes (plus s p) i =
      sum_nodes s i ++ (product_nodes p (i + sum_count s)
      ++ (Xor (i + sum_count s - 1) (i + sum_count s + product_count p - 1) ∷ []))

  pub product_nodes : Product → ℕ → List Node
  product_nodes (single f) i = factor_nodes f i
  product_nodes (times p f) i =
      product_nodes p i ++ (factor_nodes f (i + product_count p)
      ++ (And false (i + product_count p - 1) (i + product_count p + factor_count f - 1) ∷ []))

  pub factor_nodes : Factor → ℕ → List Node
  factor_nodes constant0 i = Zero ∷ []
  factor_nodes constant1 i = One ∷ []
  factor_nodes (variable j) i = Input j ∷ []
  factor_nodes (negation f) i = factor_nodes f i ++ (Not (i + factor_count f - 1) ∷ [])
  factor_nodes (brackets s) i = sum_nodes s i

-- the program of a formula over n inputs: its one output is the last node
abbrev pub formula_program : ℕ → Sum → Program
formula_program n s = record { inputs = n; nodes = sum_nodes s 0; outputs = (sum_count s - 1) ∷ [] }
