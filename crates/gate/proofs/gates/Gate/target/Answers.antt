use mathlib.Core.Path.{refl}
use Rattle.gate.specs.Gates.{target}
use Rattle.gate.proofs.gates.Gate.target.Goals as goal

pub returns-in-Not : goal.returns-in-Not
unfolding target
returns-in-Not c = rw c.in-Not.is refl

pub returns-in-Cnot : goal.returns-in-Cnot
unfolding target
returns-in-Cnot c = rw c.in-Cnot.is refl

pub returns-in-Toffoli : goal.returns-in-Toffoli
unfolding target
returns-in-Toffoli c = rw c.in-Toffoli.is refl
