use Prim.Native.Nat.{◌*◌}
use Rattle.wire.proofs.FillLaws.{Filled}
use Rattle.node.specs.Nodes.{nodes_in}
use Rattle.entries.specs.CountList.{node_numbers}
use Rattle.entries.proofs.fill_entries.Given as goal

abbrev pub invariant-loop-i : goal.invariant-loop-i
invariant-loop-i l = Filled (node_numbers (nodes_in l.nodes)) l.initial.counts l.counts (8 * l.i)
