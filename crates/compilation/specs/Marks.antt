-- What marked ANDs (02, A7) do in the file that compiling a program writes: each restores the lines that it frees.
use Rattle.std.specs.Prelude.{ℕ, ◌+◌, ◌<◌, ◌≡◌, true, List}
use Rattle.refusal.specs.Answers.{Answer, result}
use Rattle.wire.specs.Bits.{bits_fit}
use Rattle.circuit.specs.declared.reader.CircuitHead.{CircuitHead}
use Rattle.circuit.specs.Circuits.{Circuit, line_count, head_of, head_lines}
use Rattle.circuit.specs.Reading.{read_circuit}
use Rattle.program.specs.Programs.{Program, output_tree}
use Rattle.program.specs.Reading.{read_program}
use Rattle.construction.specs.Theorems.{first_built}
use Rattle.marks.specs.Freeing.{CleansUp, EachMarked, LeavesAllBut}
use Rattle.compilation.specs.Compiling.{output_trees, program_circuit, compile_of}
use Rattle.compilation.specs.Demand.{file_written, first_outputs}

-- what marks do in the file written for an accepted program file, with the numbers answered: it reads back, and every marked AND of every output cleans up at the place where its gates stand in the circuit read
pub record CleansWritten (file : List ℕ) (h : CircuitHead) (written : List ℕ) : Type 0 where
  pub program : Program
  pub read : read_program file ≡ result program
  pub numbers : h ≡ head_of (program_circuit program)
  pub back : read_circuit written ≡ result (program_circuit program)
  pub every : (c : Circuit) → read_circuit written ≡ result c → (j : ℕ) → j < c.outputs
      → EachMarked (CleansUp c.gates (line_count c)) (first_outputs program j) (output_tree program j) (c.inputs + j) (first_built c.inputs (output_trees program) j).pool

-- the promise of A7 (02), of the answer that compiling a file gave and the area that it left: where the answer is a result, it holds of the file at the start of the area
pub record MarksClean (file : List ℕ) (answer : Answer CircuitHead) (area : List ℕ) : Type 0 where
  pub cleans : (h : CircuitHead) → answer ≡ result h → CleansWritten file h (file_written h area)

-- and that is so of every file, whatever the grant was and the lent areas held
abbrev pub MarksCleanHolds : Type 0
MarksCleanHolds = (file : List ℕ) (grant : ℕ) (sizes area : List ℕ) → MarksClean file (compile_of file grant sizes area).answer (compile_of file grant sizes area).area

-- what it comes to from line bytes that pass cause 13: at every marked AND of every output, whole parts of the lines
pub record AtMarks (file : List ℕ) (h : CircuitHead) (written start : List ℕ) : Type 0 where
  pub program : Program
  pub read : read_program file ≡ result program
  pub circuit : Circuit
  pub back : read_circuit written ≡ result circuit
  pub each : (j : ℕ) → j < h.outputs
      → EachMarked (LeavesAllBut circuit.gates start) (first_outputs program j) (output_tree program j) (h.inputs + j) (first_built h.inputs (output_trees program) j).pool

-- the promise leaves no start, no output and no line open
abbrev pub MarksCleanSays : Type 0
MarksCleanSays =
    (file : List ℕ) (answer : Answer CircuitHead) (area : List ℕ) → MarksClean file answer area → (h : CircuitHead) → answer ≡ result h
    → (start : List ℕ) → bits_fit (head_lines h) start ≡ true → AtMarks file h (file_written h area) start
