-- Demand 3 (01): one claim about every run of a compiled file, over the services' own definitions.
use Rattle.std.specs.Prelude.{ℕ, ◌+◌, ◌≤◌, ◌<◌, ◌≡◌, true, List, length, take}
use Rattle.refusal.specs.Answers.{Answer, result}
use Rattle.wire.specs.Bits.{bits_fit}
use Rattle.gate.specs.declared.gates.Gate.{Gate}
use Rattle.gate.specs.Running.{run}
use Rattle.circuit.specs.declared.reader.CircuitHead.{CircuitHead}
use Rattle.circuit.specs.Circuits.{Circuit, line_count, head_of, head_lines}
use Rattle.circuit.specs.Format.{file_length}
use Rattle.circuit.specs.Reading.{read_circuit}
use Rattle.run.specs.RunCircuit.{run_forwards}
use Rattle.program.specs.Programs.{Program, output_value}
use Rattle.program.specs.Reading.{read_program}
use Rattle.evaluate.specs.Evaluating.{evaluate_of}
use Rattle.construction.specs.Theorems.{Start, first_shares, share_of, After, AfterInParts}
use Rattle.compilation.specs.Compiling.{output_trees, program_circuit, compile_of}

-- the file written: the first bytes of the area at exit, as many as the answer's gates need
abbrev pub file_written : CircuitHead → List ℕ → List ℕ
file_written h area = take (file_length h.gates) area

-- the gates of the shares of the first j outputs (01)
abbrev pub first_outputs : Program → ℕ → List Gate
first_outputs p j = first_shares p.inputs (output_trees p) j

-- the run of a file written for program p from one start, where reading the file back gave circuit c; every j is in it
pub record Run (file : List ℕ) (p : Program) (written : List ℕ) (c : Circuit) (start : List ℕ) : Type 0 where
  -- running forwards gives its result, these lines, and no refusal
  pub lines : List ℕ
  pub runs : run_forwards written start ≡ result lines
  -- the gates of the first j shares open the gates read back
  pub opens : (j : ℕ) → j ≤ c.outputs → take (length (first_outputs p j)) c.gates ≡ first_outputs p j
  -- after them every input line and work line is as it started, and the targets hold what 01 says
  pub holds : (j : ℕ) → j ≤ c.outputs → After c.inputs c.outputs c.work (output_value p (take c.inputs start)) j start (run (first_outputs p j) start)
  -- each share finds the lines as the one before left them
  pub follows : (j : ℕ) → j < c.outputs → run (first_outputs p (j + 1)) start ≡ run (share_of p.inputs (output_trees p) j) (run (first_outputs p j) start)
  -- at j = m these are all the gates, and the lines are those that running forwards gave
  pub all : first_outputs p c.outputs ≡ c.gates
  pub ends : run (first_outputs p c.outputs) start ≡ lines
  -- the value of output k is what the service evaluate answers on the input lines, with any value list long enough
  pub evaluates : (k : ℕ) → k < c.outputs → (values : List ℕ) → length p.nodes ≤ length values → (evaluate_of file values (take c.inputs start) k).answer ≡ result (output_value p (take c.inputs start) k)

-- what holds of an accepted program file, the numbers answered and the file written
pub record Kept (file : List ℕ) (h : CircuitHead) (written : List ℕ) : Type 0 where
  pub program : Program
  pub read : read_program file ≡ result program
  pub numbers : h ≡ head_of (program_circuit program)
  -- the file written reads back as exactly the program's circuit
  pub back : read_circuit written ≡ result (program_circuit program)
  -- and every start of its lines is run as above
  pub every : (c : Circuit) → read_circuit written ≡ result c → (start : List ℕ) → Start (line_count c) start → Run file program written c start

-- demand 3, of the answer that compiling a file gave and the area that it left: where the answer is a result, so that the program is accepted (01), it holds of the file at the start of the area
pub record Demand3 (file : List ℕ) (answer : Answer CircuitHead) (area : List ℕ) : Type 0 where
  pub kept : (h : CircuitHead) → answer ≡ result h → Kept file h (file_written h area)

-- and that is so of every file, whatever the grant was and the lent areas held
abbrev pub Demand3Holds : Type 0
Demand3Holds = (file : List ℕ) (grant : ℕ) (sizes area : List ℕ) → Demand3 file (compile_of file grant sizes area).answer (compile_of file grant sizes area).area

-- what demand 3 comes to at one j, of line bytes that pass cause 13 and of whole parts of the lines, with what the services answer as the outputs' values
pub record AtShare (file : List ℕ) (h : CircuitHead) (written start : List ℕ) (j : ℕ) : Type 0 where
  pub program : Program
  pub read : read_program file ≡ result program
  pub circuit : Circuit
  pub back : read_circuit written ≡ result circuit
  -- the gates of the first j shares open those read back, the next share goes on from where they left the lines, and at j = m they are all
  pub opens : take (length (first_outputs program j)) circuit.gates ≡ first_outputs program j
  pub next : j < h.outputs → run (first_outputs program (j + 1)) start ≡ run (share_of program.inputs (output_trees program) j) (run (first_outputs program j) start)
  pub whole : j ≡ h.outputs → first_outputs program j ≡ circuit.gates
  pub values : (k : ℕ) → k < h.outputs → (list : List ℕ) → length program.nodes ≤ length list → (evaluate_of file list (take h.inputs start) k).answer ≡ result (output_value program (take h.inputs start) k)
  pub parts : AfterInParts h.inputs h.outputs h.work (output_value program (take h.inputs start)) j start (run (take (length (first_outputs program j)) circuit.gates) start)
  -- at j = m these are the lines that running forwards leaves
  pub close : j ≡ h.outputs → run_forwards written start ≡ result (run (take (length (first_outputs program j)) circuit.gates) start)

-- demand 3 leaves no start, no j, no gate and no line open
abbrev pub Demand3Says : Type 0
Demand3Says =
    (file : List ℕ) (answer : Answer CircuitHead) (area : List ℕ) → Demand3 file answer area → (h : CircuitHead) → answer ≡ result h
    → (start : List ℕ) → bits_fit (head_lines h) start ≡ true → (j : ℕ) → j ≤ h.outputs → AtShare file h (file_written h area) start j
