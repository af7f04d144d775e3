-- The worked case: its table is in order, and its circuit takes two work lines and five gates. Assumes nothing.
use Prim.Native.Nat.{ℕ, ◌<◌}
use native.Mathlib.Omega.{arith}
use mathlib.Core.Path.{◌≡◌, refl, ap, ◌∙◌}
use mathlib.Core.Bool.{true, false}
use mathlib.Core.List.{List, [], ◌∷◌}
use lib.ListN.{length}
use Rattle.refusal.specs.Checks.{all_below, lowest_from}
use Rattle.wire.specs.Lists.{tabulate_from}
use Rattle.refusal.proofs.CheckLaws.{all_below_lem}
use Rattle.wire.proofs.ListLaws.{tabulate_length, tabulate_at}
use Rattle.circuit.specs.Circuits.{InRange}
use Rattle.node.specs.declared.nodes.Node.TheVariants.{Zero}
use Rattle.node.specs.Exprs.{Expr, INPUT, AND, size}
use Rattle.node.specs.Nodes.{node_at, nodes_in, node_fits, mark_fits, operands_fit, TableOk}
use Rattle.node.specs.Trees.{trees, trees_from, tree_of}
use Rattle.node.proofs.NodeLaws.{node_ok}
use Rattle.construction.specs.Construction.{input_of, lines_needed}
use Rattle.construction.proofs.Numbers.{operand_lines, held, most, most_of}
use Rattle.construction.proofs.PoolLaws.{lines_needed_lem}
use Rattle.construction.specs.Counting.{gates_shown}
use Rattle.wire.specs.Shown.{shown}
use Rattle.construction.specs.Steps.{operand_count, same_input, and_count, cleaning_count, built_count, undone_count, share_count, shares_count}
use Rattle.counting.specs.declared.Needs.{Needs}
use Rattle.counting.specs.Counters.{AllCountable, Needed}
use Rattle.program.specs.Tables.{tree_in, trees_in, Valid}
use Rattle.shares.specs.Sharing.{CircuitRoom}

-- INPUT 0, INPUT 1, AND 0 1, INPUT 2, AND 2 3, INPUT 3, AND 4 5
abbrev pub nodes : List ℕ
nodes =
    2 ∷ 0 ∷ 0 ∷ 0 ∷ 0 ∷ 0 ∷ 2 ∷ 0 ∷ 1 ∷ 0 ∷ 0 ∷ 0 ∷ 5 ∷ 0 ∷ 0 ∷ 0 ∷ 1 ∷ 0 ∷ 2 ∷ 0 ∷ 2 ∷ 0 ∷ 0 ∷ 0
    ∷ 5 ∷ 0 ∷ 2 ∷ 0 ∷ 3 ∷ 0 ∷ 2 ∷ 0 ∷ 3 ∷ 0 ∷ 0 ∷ 0 ∷ 5 ∷ 0 ∷ 4 ∷ 0 ∷ 5 ∷ 0 ∷ []

-- the output is node 6
abbrev pub outputs : List ℕ
outputs = 6 ∷ 0 ∷ []

abbrev four : Expr
four = AND false (AND false (AND false (INPUT 0) (INPUT 1)) (INPUT 2)) (INPUT 3)

case_tree : tree_in nodes 6 ≡ four
unfolding tree_in trees trees_from tree_of node_at tabulate_from
case_tree = refl

case_trees : trees_in nodes outputs ≡ four ∷ []
unfolding trees_in tabulate_from
case_trees = ap (λ (e : Expr). e ∷ []) case_tree

in_order : all_below (node_fits 4 nodes) 7 ≡ true
unfolding node_fits mark_fits operands_fit lowest_from
in_order = refl

ordered : TableOk 4 (nodes_in nodes)
ordered i h =
    let l : i < 7 = rw (tabulate_length (node_at nodes) 7) at h in
    rw (tabulate_at (node_at nodes) 7 i Zero l) (node_ok 4 nodes i (all_below_lem (node_fits 4 nodes) 7 in_order i l))

case_lines : lines_needed 4 (trees_in nodes outputs) ≡ 2
unfolding most_of most held operand_lines input_of
case_lines = lines_needed_lem 4 (trees_in nodes outputs) ∙ ap most_of case_trees

case_gates : shares_count (trees_in nodes outputs) ≡ 5
unfolding shares_count share_count built_count undone_count operand_count and_count cleaning_count same_input input_of
case_gates = ap shares_count case_trees

valid : Valid nodes 6
valid = record { inputs = 4; ordered = ordered; inside = omega arith }

-- it can be counted
pub case_countable : AllCountable nodes outputs
unfolding size
case_countable =
    record {
      each = λ k h. let z : k ≡ 0 = omega arith in rw z (record { valid = valid; small = omega (arith, ap size case_tree) });
      outputs_most = omega arith;
    }

-- its head's numbers fit their fields
pub case_range : {r : Needs} → Needed (trees_in nodes outputs) r → InRange (record { inputs = 4; outputs = 1; work = r.lines; gates = r.gates })
unfolding gates_shown shown
case_range n =
    record {
      inputs_most = omega arith;
      outputs_some = omega arith;
      outputs_most = omega arith;
      work_most = omega (arith, n.lines_are 4, case_lines);
      gates_most = omega (arith, n.gates_are, case_gates);
    }

-- and an area of 68 bytes has room for it
pub case_room : (area : List ℕ) → length area ≡ 68 → CircuitRoom nodes outputs 4 area
case_room area e =
    record {
      ordered = ordered;
      named = λ k h. let z : k ≡ 0 = omega arith in rw z (omega arith);
      lines = omega (arith, case_lines);
      few = omega (arith, case_gates);
      room = omega (arith, case_gates, e);
    }
