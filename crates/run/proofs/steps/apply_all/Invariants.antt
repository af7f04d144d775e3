use Rattle.circuit.specs.Circuits.{gates_in}
use lib.ListN.{drop}
use Rattle.run.proofs.RunLaws.{Moved}
use Rattle.run.proofs.steps.apply_all.Given as goal

abbrev pub invariant-loop-i : goal.invariant-loop-i
invariant-loop-i l = Moved l.gates (gates_in l.gates) (drop l.i (gates_in l.gates)) l.initial.lines l.lines
