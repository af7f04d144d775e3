-- What is proved of undoing circuit files; the proofs are in proofs/.
use Rattle.std.specs.Prelude.{ℕ, ◌≡◌, List, length}
use Rattle.refusal.specs.Answers.{result}
use Rattle.wire.specs.Bits.{bit, Bits}
use Rattle.gate.specs.Gates.{All}
use Rattle.gate.specs.Running.{run}
use Rattle.gate.specs.Theorems.{Spares}
use Rattle.circuit.specs.Circuits.{Circuit, line_count}
use Rattle.circuit.specs.Format.{circuit_file}
use Rattle.circuit.specs.Reading.{read_circuit}
use Rattle.undo.specs.UndoCircuit.{chosen, undo_file}

-- the file that undoing writes reads back as the circuit that undoes
abbrev pub UndoReadsBack : Type 0
UndoReadsBack = (f choices : List ℕ) (room : ℕ) (d : Circuit) → undo_file f choices room ≡ result d → read_circuit (circuit_file d) ≡ result d

-- where no chosen line is a control, running a file's circuit and then what undoing it wrote leaves every line that was not chosen as it started
abbrev pub UndoRestores : Type 0
UndoRestores =
    (f choices : List ℕ) (room : ℕ) (c d : Circuit) (s : List ℕ) → undo_file f choices room ≡ result d → read_circuit f ≡ result c
    → All (Spares (chosen choices)) c.gates → length s ≡ line_count c → Bits s
    → (i : ℕ) → bit choices i ≡ 0 → bit (run d.gates (run c.gates s)) i ≡ bit s i
