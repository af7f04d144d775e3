-- What is printed for an answer of the service compile.
use Rattle.std.specs.Prelude.{ℕ, ◌≤◌, ◌≡◌, List, ◌++◌, length, Result, Ok, Err}
use Rattle.refusal.specs.Answers.{number_of, place_of}
use Rattle.circuit.specs.declared.reader.CircuitHead.{CircuitHead}
use Rattle.circuit.specs.Circuits.{gates_in}
use Rattle.circuit.specs.Format.{file_length}
use Rattle.refusal.specs.declared.causes.Refusal.{Refusal}
use Rattle.areas.specs.AreaGates.{body_in}
use Rattle.text.specs.Listings.{gate_lines, first_line}
use Rattle.line.specs.Lines.{refused_line}
use Rattle.line.specs.Putting.{TextFits}
use Rattle.line.specs.declared.LineWriter.{LineWriter}

-- what is printed for the answer of the service compile, whose gates stand in the area
unfoldable pub printed : Result CircuitHead Refusal → List ℕ → List ℕ
printed (Ok head) area = first_line head ++ gate_lines (gates_in (body_in area head.gates))
printed (Err why) area = refused_line (number_of why) (place_of why)

-- the gates stand in the area, and what is printed fits the writer's buffer
pub record Listable (answer : Result CircuitHead Refusal) (area : List ℕ) (writer : LineWriter) : Type 0 where
  pub there : (head : CircuitHead) → answer ≡ Ok head → file_length head.gates ≤ length area
  pub fits : TextFits (printed answer area) writer
