-- What is known of a node by its kind: its operands are lower, and its tree is made of theirs. And the trees of the outputs, one by one. Assumes nothing.
use Prim.Native.Nat.{ℕ, ◌+◌, ◌*◌, ◌/◌, ◌<◌, ◌≤◌}
use native.Mathlib.Omega.{arith}
use mathlib.Core.Path.{◌≡◌, ap, subst, ◌∙◌}
use mathlib.Core.Bool.{Bool}
use mathlib.Core.List.{List}
use lib.ListN.{length, get_or}
use Rattle.wire.proofs.ListLaws.{tabulate_length, tabulate_at}
use Rattle.node.specs.declared.nodes.Node.{Node}
use Rattle.node.specs.declared.nodes.Node.TheVariants.{Zero, Not, Xor, And}
use Rattle.node.specs.Exprs.{Expr, ZERO, NOT, XOR, AND, size}
use Rattle.node.specs.Nodes.{node_at, nodes_in, NodeOk}
use Rattle.program.specs.Reading.{output_at}
use Rattle.node.specs.Trees.{trees, tree_of}
use Rattle.node.proofs.NodeLaws.{not_operand, xor_operands, and_operands}
use Rattle.node.proofs.TreeLaws.{trees_at, node_in, node_inside}
use Rattle.program.specs.Tables.{tree_in, trees_in, Valid}

-- an operand of node i: lower, and no larger when it is unfolded
pub record Operand (nodes : List ℕ) (i a : ℕ) : Type 0 where
  pub low : a < i
  pub valid : Valid nodes a
  pub smaller : size (tree_in nodes a) ≤ size (tree_in nodes i)

-- node i has one operand
pub record Unary (join : Expr → Expr) (nodes : List ℕ) (i a : ℕ) : Type 0 where
  pub only : Operand nodes i a
  pub is : tree_in nodes i ≡ join (tree_in nodes a)

-- node i has two
pub record Binary (join : Expr → Expr → Expr) (nodes : List ℕ) (i a b : ℕ) : Type 0 where
  pub first : Operand nodes i a
  pub second : Operand nodes i b
  pub is : tree_in nodes i ≡ join (tree_in nodes a) (tree_in nodes b)

module _ {nodes : List ℕ} {i : ℕ} (v : Valid nodes i) where
  there : get_or (nodes_in nodes) i Zero ≡ node_at nodes i
  there = node_in nodes i v.inside

  inside : i < length (nodes_in nodes)
  inside = node_inside nodes i v.inside

  -- its six bytes are there
  pub node_there : 6 * (i + 1) ≤ length nodes
  node_there = omega (arith, v.inside)

  -- it is in order
  ok : NodeOk v.inputs i (node_at nodes i)
  ok = subst (NodeOk v.inputs i) there (v.ordered i inside)

  operand : (a : ℕ) → a < i → size (tree_in nodes a) ≤ size (tree_in nodes i) → Operand nodes i a
  operand a h s = record { low = h; valid = record { inputs = v.inputs; ordered = v.ordered; inside = omega (arith, v.inside) }; smaller = s }

  -- its tree is made of the trees of the table
  pub tree_is : (node : Node) → node_at nodes i ≡ node → tree_in nodes i ≡ tree_of (trees (nodes_in nodes)) node
  unfolding tree_in
  tree_is node e = trees_at v.inputs (nodes_in nodes) v.ordered i inside ∙ ap (tree_of (trees (nodes_in nodes))) (there ∙ e)

  pub is_not : {a : ℕ} → node_at nodes i ≡ Not a → Unary NOT nodes i a
  unfolding tree_in tree_of size
  is_not {a} e =
      let is : tree_in nodes i ≡ NOT (tree_in nodes a) = tree_is (Not a) e in
      record { only = operand a (not_operand v.inputs i ok e) (omega (arith, ap size is)); is = is }

  pub is_xor : {a b : ℕ} → node_at nodes i ≡ Xor a b → Binary XOR nodes i a b
  unfolding tree_in tree_of size
  is_xor {a} {b} e =
      let is : tree_in nodes i ≡ XOR (tree_in nodes a) (tree_in nodes b) = tree_is (Xor a b) e in
      let low = xor_operands v.inputs i ok e in
      record { first = operand a low.0 (omega (arith, ap size is)); second = operand b low.1 (omega (arith, ap size is)); is = is }

  pub is_and : {m : Bool} {a b : ℕ} → node_at nodes i ≡ And m a b → Binary (AND m) nodes i a b
  unfolding tree_in tree_of size
  is_and {m} {a} {b} e =
      let is : tree_in nodes i ≡ AND m (tree_in nodes a) (tree_in nodes b) = tree_is (And m a b) e in
      let low = and_operands v.inputs i ok e in
      record { first = operand a low.0 (omega (arith, ap size is)); second = operand b low.1 (omega (arith, ap size is)); is = is }

-- the outputs' trees, one by one
module _ (nodes outputs : List ℕ) where
  pub trees_length : length (trees_in nodes outputs) ≡ length outputs / 2
  unfolding trees_in
  trees_length = tabulate_length (λ (k : ℕ). tree_in nodes (output_at outputs k)) (length outputs / 2)

  pub tree_at : (k : ℕ) → k < length outputs / 2 → get_or (trees_in nodes outputs) k ZERO ≡ tree_in nodes (output_at outputs k)
  unfolding trees_in
  tree_at k h = tabulate_at (λ (j : ℕ). tree_in nodes (output_at outputs j)) (length outputs / 2) k ZERO h
