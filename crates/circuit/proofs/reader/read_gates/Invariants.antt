use Prim.Native.Nat.{◌/◌}
use lib.ListN.{length}
use Rattle.refusal.proofs.CheckLaws.{Passed}
use Rattle.gate_bytes.specs.GateBytes.{gate_fits}
use Rattle.circuit.proofs.reader.read_gates.Given as goal

abbrev pub invariant-loop-i : goal.invariant-loop-i
invariant-loop-i l = Passed (gate_fits l.lines l.gates) (length l.gates / 8) l.i
