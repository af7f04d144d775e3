-- The trees of the nodes and outputs that the bodies of a program file hold.
use Rattle.std.specs.Prelude.{ℕ, ◌/◌, ◌<◌, List, length, get_or}
use Rattle.wire.specs.Lists.{tabulate}
use Rattle.node.specs.Exprs.{Expr, ZERO}
use Rattle.node.specs.Nodes.{nodes_in, TableOk}
use Rattle.program.specs.Reading.{output_at}
use Rattle.node.specs.Trees.{trees}

-- the tree of node i of a node body
unfoldable pub tree_in : List ℕ → ℕ → Expr
tree_in nodes i = get_or (trees (nodes_in nodes)) i ZERO

-- the trees of the outputs that an output body names
unfoldable pub trees_in : List ℕ → List ℕ → List Expr
trees_in nodes outputs = tabulate (λ k. tree_in nodes (output_at outputs k)) (length outputs / 2)

-- i is a node of a table that is in order over some number of inputs
pub record Valid (nodes : List ℕ) (i : ℕ) : Type 0 where
  pub inputs : ℕ
  pub ordered : TableOk inputs (nodes_in nodes)
  pub inside : i < length nodes / 6
