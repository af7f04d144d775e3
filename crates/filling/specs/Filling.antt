-- What a step of filling a list asks of its caller, and what it answers.
use Rattle.std.specs.Prelude.{ℕ, ◌≡◌, List, map, length}
use Rattle.node.specs.declared.nodes.Node.{Node}
use Rattle.node.specs.Exprs.{Expr}
use Rattle.node.specs.Nodes.{NodeOk}
use Rattle.node.specs.Trees.{tree_of}

-- a node over n inputs, in order behind a list of what f says of some trees
pub record Listed {A : Type 0} (f : Expr → A) (n : ℕ) (list : List A) (node : Node) : Type 0 where
  pub trees : List Expr
  pub listed : list ≡ map f trees
  pub ordered : NodeOk n (length list) node

-- the item is what f says of the node's tree, where the list is what it says of the trees before it
abbrev pub ItemOf : {A : Type 0} → (Expr → A) → List A → Node → A → Type 0
ItemOf f list node item = (ts : List Expr) → list ≡ map f ts → item ≡ f (tree_of ts node)
