-- The lines of a listing (01), in ASCII.
use Rattle.std.specs.Prelude.{ℕ, ◌+◌, ◌*◌}
use mathlib.Core.List.{List, [], ◌∷◌, ◌++◌, flat_map}
use Rattle.wire.specs.Ascii.{ascii}
use Rattle.wire.specs.Limits.{most_gates}
use Rattle.refusal.specs.Answers.{Answer, result, refused}
use Rattle.gate.specs.declared.gates.Gate.{Gate}
use Rattle.gate.specs.declared.gates.Gate.TheVariants.{Not, Cnot, Toffoli}
use Rattle.circuit.specs.declared.reader.CircuitHead.{CircuitHead}
use Rattle.circuit.specs.Circuits.{Circuit, head_of}
use Rattle.line.specs.Lines.{field, line, refused_line}

-- a gate's line: its letter, its controls and its target
unfoldable pub gate_line : Gate → List ℕ
gate_line (Not t) = line (ascii "N") (t ∷ [])
gate_line (Cnot a t) = line (ascii "C") (a ∷ t ∷ [])
gate_line (Toffoli a b t) = line (ascii "T") (a ∷ b ∷ t ∷ [])

-- a line for each gate, in their order
abbrev pub gate_lines : List Gate → List ℕ
gate_lines gs = flat_map gate_line gs

-- the first line: how many inputs, outputs, work lines and gates there are
unfoldable pub first_line : CircuitHead → List ℕ
first_line h = ascii "lines" ++ (flat_map field (h.inputs ∷ h.outputs ∷ h.work ∷ []) ++ line (ascii " gates") (h.gates ∷ []))

-- what is printed for the compiler's answer
unfoldable pub listing : Answer Circuit → List ℕ
listing (result c) = first_line (head_of c) ++ gate_lines c.gates
listing (refused n p) = refused_line n p

-- how many bytes a listing takes at most: 96 for the first line and 20 for each gate
abbrev pub longest_listing : ℕ
longest_listing = 96 + 20 * most_gates
