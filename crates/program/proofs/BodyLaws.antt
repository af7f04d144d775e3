-- Laws of the bodies of an accepted program file: how many nodes and outputs they hold, that these are in order, and whose trees they have. Assumes nothing.
use Prim.Native.Nat.{ℕ, ◌/◌, ◌<◌, ◌≤◌}
use native.Mathlib.Omega.{arith}
use mathlib.Core.Path.{◌≡◌, sym, ap, ap₂, ◌∙◌}
use mathlib.Core.List.{List}
use lib.ListN.{length, get_or}
use Rattle.contents.specs.Contents.{body_of}
use Rattle.contents.specs.Arity.{inputs_of}
use Rattle.node.specs.declared.nodes.Node.{Node}
use Rattle.node.specs.Exprs.{ZERO}
use Rattle.node.specs.Nodes.{nodes_in, TableOk}
use Rattle.node.specs.Steps.{Fillable}
use Rattle.node.specs.Trees.{trees}
use Rattle.program.specs.declared.reader.Head.{Head}
use Rattle.program.specs.Programs.{output_tree}
use Rattle.program.specs.Reading.{output_at, program_of}
use Rattle.program.proofs.AcceptedLaws.{Accepted, Read, nodes_length, same_nodes, outputs_length, output_is, table_ok}
use Rattle.program.proofs.ReadingLaws.{nodes_counted, outputs_counted}

module _ (f : List ℕ) (a : Accepted f) where
  pub body_nodes : length (body_of f 1) / 6 ≡ length (program_of f).nodes
  body_nodes = nodes_counted f a.sized ∙ sym (nodes_length f a)

  pub body_outputs : length (body_of f 2) / 2 ≡ length (program_of f).outputs
  body_outputs = outputs_counted f a.sized ∙ sym (outputs_length f a)

  -- every output names one of the nodes
  pub names_node : (k : ℕ) → k < length (body_of f 2) / 2 → output_at (body_of f 2) k < length (body_of f 1) / 6
  names_node k h = omega (arith, a.outputs_fit k (omega (arith, outputs_counted f a.sized)), nodes_counted f a.sized)

  pub nodes_ordered : TableOk (inputs_of f) (nodes_in (body_of f 1))
  nodes_ordered = rw (same_nodes f a) (table_ok f a)

  -- the node that an output names has the output's tree
  pub named_tree : (k : ℕ) → k < length (body_of f 2) / 2 → get_or (trees (nodes_in (body_of f 1))) (output_at (body_of f 2) k) ZERO ≡ output_tree (program_of f) k
  unfolding output_tree
  named_tree k h =
      ap₂ (λ (ns : List Node) (i : ℕ). get_or (trees ns) i ZERO) (same_nodes f a) (sym (output_is f a k (omega (arith, outputs_counted f a.sized))))

-- the numbers that the reader answered
module _ {f : List ℕ} {h : Head} (r : Read f h) where
  pub head_inputs : h.inputs ≡ (program_of f).inputs
  head_inputs = ap (λ (t : Head). t.inputs) r.head

  pub head_outputs : h.outputs ≡ length (program_of f).outputs
  head_outputs = ap (λ (t : Head). t.outputs) r.head

  pub head_nodes : h.nodes ≡ length (program_of f).nodes
  head_nodes = ap (λ (t : Head). t.nodes) r.head

  -- a list with an entry for each node can be filled
  pub fillable : (entries : ℕ) → h.nodes ≤ entries → Fillable (inputs_of f) (body_of f 1) entries
  fillable entries s = record { ordered = nodes_ordered f r.accepts; fits = omega (arith, body_nodes f r.accepts, head_nodes) }
