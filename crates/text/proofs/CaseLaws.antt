-- A computed case of a listing. Assumes nothing.
use mathlib.Core.Path.{◌≡◌, refl}
use mathlib.Core.List.{[], ◌∷◌, flat_map}
use Rattle.refusal.specs.Answers.{result}
use Rattle.refusal.specs.Checks.{lowest_from}
use Rattle.wire.specs.Ascii.{ascii}
use Rattle.gate.specs.declared.gates.Gate.TheVariants.{Not, Cnot, Toffoli}
use Rattle.line.specs.Lines.{digit_count, decimal, field, line}
use Rattle.text.specs.Listings.{gate_line, first_line, listing}

-- a circuit with a gate of each kind
pub gates_case : listing (result (record { inputs = 2; outputs = 1; work = 12; gates = Not 10 ∷ Cnot 0 3 ∷ Toffoli 3 4 2 ∷ [] })) ≡ ascii "lines 2 1 12 gates 3\nN 10\nC 0 3\nT 3 4 2\n"
unfolding listing first_line gate_line line field decimal digit_count lowest_from flat_map
gates_case = refl
