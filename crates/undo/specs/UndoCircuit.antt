-- Undoing a circuit file except on chosen lines.
use Rattle.std.specs.Prelude.{ℕ, Bool, List, length, eqb, leb}
use Rattle.refusal.specs.Answers.{Answer, result, check, and_then}
use Rattle.wire.specs.Bits.{bit}
use Rattle.refusal.specs.declared.causes.Refusal.TheVariants as cause
use Rattle.gate.specs.Running.{uncompute}
use Rattle.circuit.specs.Circuits.{Circuit}
use Rattle.circuit.specs.Format.{circuit_file}
use Rattle.circuit.specs.Reading.{read_with_lines}

-- line i is chosen: its choice byte (01) is 1, and gates with this target are left out
abbrev pub chosen : List ℕ → ℕ → Bool
chosen choices i = eqb (bit choices i) 1

-- the circuit that undoes c except on the chosen lines: the gates that remain, reversed, under the same head
unfoldable pub undo_circuit : List ℕ → Circuit → Circuit
undo_circuit choices c =
    record { inputs = c.inputs; outputs = c.outputs; work = c.work; gates = uncompute (chosen choices) c.gates }

-- undoing a file into an area of so many bytes
unfoldable pub undo_file : List ℕ → List ℕ → ℕ → Answer Circuit
undo_file file choices room =
    and_then (read_with_lines file choices) (λ c.
    check (leb (length (circuit_file (undo_circuit choices c))) room) (cause.Room (length (undo_circuit choices c).gates))  -- 11
    (result (undo_circuit choices c)))
