use Prim.Native.Nat.{◌/◌}
use lib.ListN.{length}
use Rattle.refusal.proofs.CheckLaws.{Passed}
use Rattle.node.specs.Nodes.{node_fits}
use Rattle.program.proofs.reader.read_nodes.Given as goal

abbrev pub invariant-loop-i : goal.invariant-loop-i
invariant-loop-i l = Passed (node_fits l.inputs l.nodes) (length l.nodes / 6) l.i
