-- What is proved of circuit files; the proofs are in proofs/.
use Rattle.std.specs.Prelude.{ℕ, ◌≡◌, List}
use Rattle.refusal.specs.Answers.{result}
use Rattle.wire.specs.Bytes.{Bytes}
use Rattle.gate.specs.Gates.{LinesFit, All}
use Rattle.circuit.specs.Circuits.{Circuit, line_count, head_of, InRange, Legal, SameButOrder, LegalButOrder}
use Rattle.circuit.specs.Format.{circuit_file}
use Rattle.circuit.specs.Reading.{read_circuit}

-- reading what was written gives it back
abbrev pub ReadsBack : Type 0
ReadsBack = (c : Circuit) → Legal c → read_circuit (circuit_file c) ≡ result c

-- a file is the writing of a circuit, and the circuit is legal
pub record Writes (f : List ℕ) (c : Circuit) : Type 0 where
  pub same : f ≡ circuit_file c
  pub legal : Legal c

-- an accepted file is the writing of what it gives
abbrev pub OnlyWriting : Type 0
OnlyWriting = (f : List ℕ) (c : Circuit) → Bytes f → read_circuit f ≡ result c → Writes f c

-- two accepted files that give the same circuit are the same bytes
abbrev pub SameBytes : Type 0
SameBytes = (f g : List ℕ) (c : Circuit) → Bytes f → Bytes g → read_circuit f ≡ result c → read_circuit g ≡ result c → f ≡ g

-- two accepted files whose circuits are the same but for the order of controls are the same bytes
abbrev pub OneOrder : Type 0
OneOrder =
    (f g : List ℕ) (c d : Circuit) → Bytes f → Bytes g → read_circuit f ≡ result c → read_circuit g ≡ result d → SameButOrder c d → f ≡ g

-- no circuit is lost by the order: one in range whose gates are on different lines is legal but for it
abbrev pub NoneLost : Type 0
NoneLost = (c : Circuit) → InRange (head_of c) → All (LinesFit (line_count c)) c.gates → LegalButOrder c
