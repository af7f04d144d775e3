use mathlib.Core.Path.{refl}
use Rattle.gate.specs.Gates.{lines_fit, lower_first, well_formed}
use Rattle.gate.proofs.WellFormedLaws.{cnot_tests, toffoli_tests}
use Rattle.gate.proofs.gates.Gate.is_well_formed.Goals as goal

pub returns-in-Not : goal.returns-in-Not
unfolding well_formed lower_first lines_fit
returns-in-Not c = rw c.in-Not.is refl

pub returns-in-Cnot : goal.returns-in-Cnot
returns-in-Cnot c = rw c.in-Cnot.is (cnot_tests _ _ _ refl refl)

pub returns-in-Toffoli : goal.returns-in-Toffoli
returns-in-Toffoli c = rw c.in-Toffoli.is (toffoli_tests _ _ _ _)
