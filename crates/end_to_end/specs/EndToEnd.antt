-- Compiling a file and running what was written: the end of the run, said outright.
use Rattle.std.specs.Prelude.{ℕ, ◌≡◌, List, take}
use Rattle.refusal.specs.Answers.{Answer, result, and_then}
use Rattle.circuit.specs.declared.reader.CircuitHead.{CircuitHead}
use Rattle.circuit.specs.Circuits.{head_lines}
use Rattle.run.specs.RunCircuit.{run_forwards}
use Rattle.program.specs.Programs.{Program, output_value}
use Rattle.program.specs.Reading.{read_program}
use Rattle.construction.specs.Theorems.{Start, After}
use Rattle.compilation.specs.Compiling.{compile_of}
use Rattle.compilation.specs.Demand.{file_written}

-- compiling a file, then reading the file written back and running it on the lines
unfoldable pub compile_and_run : List ℕ → ℕ → List ℕ → List ℕ → List ℕ → Answer (List ℕ)
compile_and_run file grant sizes area lines =
    and_then (compile_of file grant sizes area).answer (λ h. run_forwards (file_written h (compile_of file grant sizes area).area) lines)

-- the run is done: every input and work line is as it started, and every target's share is over
pub record Ended (file : List ℕ) (h : CircuitHead) (start : List ℕ) (answer : Answer ℕ) (lines : List ℕ) : Type 0 where
  pub done : answer ≡ result 0
  pub program : Program
  pub read : read_program file ≡ result program
  pub after : After h.inputs h.outputs h.work (output_value program (take h.inputs start)) h.outputs start lines

-- so it ends wherever compiling accepts the file and the lent lines are a start of its circuit
abbrev pub Ends : List ℕ → ℕ → List ℕ → List ℕ → List ℕ → Answer ℕ → List ℕ → Type 0
Ends file grant sizes area start answer lines =
    (h : CircuitHead) → (compile_of file grant sizes area).answer ≡ result h → Start (head_lines h) start → Ended file h start answer lines
