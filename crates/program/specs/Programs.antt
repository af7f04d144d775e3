-- A program: its inputs, its table of nodes and the node that each output names.
use Rattle.std.specs.Prelude.{ℕ, ◌≤◌, ◌<◌, List, length, get_or}
use Rattle.wire.specs.Limits.{most_inputs, most_outputs, most_nodes}
use Rattle.node.specs.declared.nodes.Node.{Node}
use Rattle.node.specs.Nodes.{TableOk}
use Rattle.program.specs.declared.reader.Head.{Head}
use Rattle.node.specs.Exprs.{Expr, ZERO, value}
use Rattle.node.specs.Trees.{trees}

-- how many inputs there are, the nodes in order, and for each output the index of its node
pub record Program : Type 0 where
  pub inputs : ℕ
  pub nodes : List Node
  pub outputs : List ℕ

-- how many inputs, outputs and nodes a program has
abbrev pub head_of : Program → Head
head_of p = record { inputs = p.inputs; outputs = length p.outputs; nodes = length p.nodes }

-- the tree of the node that output k names
unfoldable pub output_tree : Program → ℕ → Expr
output_tree p k = get_or (trees p.nodes) (get_or p.outputs k 0) ZERO

-- the value (01) of output k on the input bits x: its node's
unfoldable pub output_value : Program → List ℕ → ℕ → ℕ
output_value p x k = value (output_tree p k) x

-- a program that a file can hold: its numbers are in range, every node is in order, and every output names one of the nodes
pub record LegalProgram (p : Program) : Type 0 where
  pub inputs_most : p.inputs ≤ most_inputs
  pub outputs_some : 1 ≤ length p.outputs
  pub outputs_most : length p.outputs ≤ most_outputs
  pub nodes_some : 1 ≤ length p.nodes
  pub nodes_most : length p.nodes ≤ most_nodes
  pub ordered : TableOk p.inputs p.nodes
  pub named : (k : ℕ) → k < length p.outputs → get_or p.outputs k 0 < length p.nodes
