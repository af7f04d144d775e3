use mathlib.Core.Path.{refl}
use native.Mathlib.Omega.{arith}
use Rattle.gate.specs.Running.{addend}
use Rattle.gate.proofs.WellFormedLaws.{cnot_lines, toffoli_lines}
use Rattle.gate.proofs.gates.Gate.addend.Goals as goal

pub bounds-lines-control : goal.bounds-lines-control
bounds-lines-control c = let l = cnot_lines _ _ _ (rw c.in-Cnot.is at c.requires.0) in omega (arith, l.control_below, l.target_below)

pub bounds-lines-first : goal.bounds-lines-first
bounds-lines-first c = let l = toffoli_lines _ _ _ _ (rw c.in-Toffoli.is at c.requires.0) in omega (arith, l.first_below, l.second_below)

pub bounds-lines-second : goal.bounds-lines-second
bounds-lines-second c = let l = toffoli_lines _ _ _ _ (rw c.in-Toffoli.is at c.requires.0) in omega (arith, l.first_below, l.second_below)

pub returns-in-Not : goal.returns-in-Not
unfolding addend
returns-in-Not c = rw c.in-Not.is refl

pub returns-in-Cnot : goal.returns-in-Cnot
unfolding addend
returns-in-Cnot c = rw c.in-Cnot.is refl

pub returns-in-Toffoli : goal.returns-in-Toffoli
unfolding addend
returns-in-Toffoli c = rw c.in-Toffoli.is c.and_bits.ensures
