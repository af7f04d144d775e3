-- Laws of the bodies of an accepted program file: their trees are the program's, and so are the counts. Assumes nothing.
use Prim.Native.Nat.{ℕ, ◌/◌, ◌<◌, ◌≤◌}
use native.Mathlib.Omega.{arith}
use mathlib.Core.Path.{◌≡◌, sym, ap, ap₂, ◌∙◌}
use mathlib.Core.List.{List}
use lib.ListN.{length}
use Rattle.wire.specs.Limits.{most_gates, most_outputs, most_size, most_work}
use Rattle.contents.specs.Contents.{body_of}
use Rattle.contents.specs.Arity.{inputs_of}
use Rattle.wire.specs.Lists.{tabulate}
use Rattle.wire.proofs.ListLaws.{tabulate_same}
use Rattle.circuit.specs.declared.reader.CircuitHead.{CircuitHead}
use Rattle.circuit.specs.Circuits.{InRange}
use Rattle.circuit.specs.Format.{file_length}
use Rattle.node.specs.Exprs.{Expr, size}
use Rattle.program.specs.Programs.{output_tree}
use Rattle.program.specs.Reading.{output_at, program_of}
use Rattle.program.proofs.AcceptedLaws.{Accepted, inputs_is}
use Rattle.program.proofs.BodyLaws.{body_outputs, names_node, nodes_ordered, named_tree}
use Rattle.program.proofs.ReadingLaws.{outputs_counted}
use Rattle.construction.specs.Construction.{circuit_gates, lines_needed}
use Rattle.construction.specs.Counting.{gates_shown}
use Rattle.construction.specs.Steps.{shares_count}
use Rattle.construction.proofs.CountLaws.{circuit_length}
use Rattle.counting.specs.declared.Needs.{Needs}
use Rattle.counting.specs.Counters.{AllCountable, Needed}
use Rattle.program.specs.Tables.{tree_in, trees_in}
use Rattle.shares.specs.Sharing.{CircuitRoom}
use Rattle.compilation.specs.Compiling.{output_trees, program_circuit}

module _ (f : List ℕ) (a : Accepted f) where
  pub tree_same : (k : ℕ) → k < length (body_of f 2) / 2 → tree_in (body_of f 1) (output_at (body_of f 2) k) ≡ output_tree (program_of f) k
  unfolding tree_in
  tree_same k h = named_tree f a k h

  pub trees_same : trees_in (body_of f 1) (body_of f 2) ≡ output_trees (program_of f)
  unfolding trees_in output_trees
  trees_same =
      tabulate_same (λ k. tree_in (body_of f 1) (output_at (body_of f 2) k)) (output_tree (program_of f)) (length (body_of f 2) / 2) tree_same
      ∙ ap (tabulate (output_tree (program_of f))) (body_outputs f a)

  -- where no output is too large the shares can be counted
  pub countable : ((k : ℕ) → k < length (program_of f).outputs → size (output_tree (program_of f) k) ≤ most_size) → AllCountable (body_of f 1) (body_of f 2)
  countable small =
      record {
        each = λ k h.
            record {
              valid = record { inputs = inputs_of f; ordered = nodes_ordered f a; inside = names_node f a k h };
              small = rw (tree_same k h) (small k (omega (arith, body_outputs f a)));
            };
        outputs_most = omega (arith, outputs_counted f a.sized, a.outputs_most);
      }

  -- what was counted is the circuit's
  module _ {r : Needs} (n : Needed (trees_in (body_of f 1) (body_of f 2)) r) where
    pub lines_counted : r.lines ≡ (program_circuit (program_of f)).work
    unfolding program_circuit
    lines_counted = n.lines_are (program_of f).inputs ∙ ap (lines_needed (program_of f).inputs) trees_same

    pub gates_counted : r.gates ≡ gates_shown (length (program_circuit (program_of f)).gates)
    unfolding program_circuit
    gates_counted =
        n.gates_are
        ∙ ap (λ (es : List Expr). gates_shown (shares_count es)) trees_same
        ∙ ap gates_shown (sym (circuit_length (program_of f).inputs (output_trees (program_of f))))

  -- a head whose numbers are in range fits, with the program's gates, into an area that is long enough
  pub fitting : (h : CircuitHead) (area : List ℕ) → h.inputs ≡ inputs_of f → 1 ≤ h.outputs → h.outputs ≤ most_outputs → h.work ≤ most_work → h.gates ≤ most_gates
      → (program_circuit (program_of f)).work ≤ most_work → length (program_circuit (program_of f)).gates ≤ most_gates → file_length (length (program_circuit (program_of f)).gates) ≤ length area → InRange h × CircuitRoom (body_of f 1) (body_of f 2) h.inputs area
  unfolding program_circuit
  fitting h area n some most w g lines few_gates room =
      let length_is : length (circuit_gates (program_of f).inputs (output_trees (program_of f))) ≡ shares_count (output_trees (program_of f)) = circuit_length (program_of f).inputs (output_trees (program_of f)) in (
        record { inputs_most = omega (arith, a.inputs_most); outputs_some = some; outputs_most = most; work_most = w; gates_most = g },
        record {
          ordered = rw n (nodes_ordered f a);
          named = names_node f a;
          lines = rw n (omega (arith, a.inputs_most, a.outputs_most, outputs_counted f a.sized, ap₂ lines_needed (sym (inputs_is f a)) trees_same));
          few = omega (arith, ap shares_count trees_same, length_is, few_gates);
          room = omega (arith, ap shares_count trees_same, length_is);
        },
      )
