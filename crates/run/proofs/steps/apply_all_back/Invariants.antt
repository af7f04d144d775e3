use Rattle.circuit.specs.Circuits.{gates_in}
use mathlib.Core.List.{reverse}
use lib.ListN.{take}
use Rattle.run.proofs.RunLaws.{Moved}
use Rattle.run.proofs.steps.apply_all_back.Given as goal

abbrev pub invariant-loop-i : goal.invariant-loop-i
invariant-loop-i l = Moved l.gates (reverse (gates_in l.gates)) (reverse (take l.i (gates_in l.gates))) l.initial.lines l.lines
