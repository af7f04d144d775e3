use mathlib.Core.Path.{refl}
use Rattle.gate_bytes.specs.GateBytes.{gate_bytes}
use Rattle.gate_bytes.proofs.fields.FieldsFromGate.from.Goals as goal

pub returns-in-Not : goal.returns-in-Not
unfolding gate_bytes
returns-in-Not c = rw c.in-Not.is refl

pub returns-in-Cnot : goal.returns-in-Cnot
unfolding gate_bytes
returns-in-Cnot c = rw c.in-Cnot.is refl

pub returns-in-Toffoli : goal.returns-in-Toffoli
unfolding gate_bytes
returns-in-Toffoli c = rw c.in-Toffoli.is refl
