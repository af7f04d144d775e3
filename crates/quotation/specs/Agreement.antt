-- The quote of a program that compiling accepts: it is the count over the circuit written.
use Rattle.std.specs.Prelude.{ℕ, ◌+◌, ◌*◌, ◌≤◌, ◌<◌, ◌≡◌, List, length, get_or}
use Rattle.refusal.specs.Answers.{result}
use Rattle.wire.specs.Lists.{sum_of, largest_of}
use Rattle.gate.specs.Gates.{toffoli_count}
use Rattle.circuit.specs.declared.reader.CircuitHead.{CircuitHead}
use Rattle.circuit.specs.Circuits.{Circuit, head_of}
use Rattle.circuit.specs.Reading.{read_circuit}
use Rattle.program.specs.Programs.{Program}
use Rattle.program.specs.Reading.{read_program}
use Rattle.construction.specs.Theorems.{share_of}
use Rattle.compilation.specs.Compiling.{output_trees, compile_of}
use Rattle.compilation.specs.Demand.{file_written}
use Rattle.quotation.specs.Quoting.{output_share, quote_of}

-- every program that passes 1 to 6 is quoted where both lists are long enough, whatever its size
abbrev pub EveryProgram : Type 0
EveryProgram =
    (file counts answers : List ℕ) (p : Program) → read_program file ≡ result p → 8 * length p.nodes ≤ length counts → 3 * length p.outputs ≤ length answers
    → (quote_of file counts answers).answer ≡ result (length p.outputs)

-- the share that is quoted is the output's share of the circuit
abbrev pub SameShare : Type 0
SameShare = (p : Program) (k : ℕ) → k < length p.outputs → (output_share p k).gates ≡ share_of p.inputs (output_trees p) k

-- the gates of output k in the answer list
abbrev pub gates_quoted : List ℕ → ℕ → ℕ
gates_quoted answers k = get_or answers (3 * k) 0

-- its Toffolis there
abbrev pub toffolis_quoted : List ℕ → ℕ → ℕ
toffolis_quoted answers k = get_or answers (3 * k + 1) 0

-- and its work lines
abbrev pub lines_quoted : List ℕ → ℕ → ℕ
lines_quoted answers k = get_or answers (3 * k + 2) 0

-- the answers for m outputs are the counts over a file written with these numbers
pub record Booked (h : CircuitHead) (written : List ℕ) (m : ℕ) (answers : List ℕ) : Type 0 where
  pub circuit : Circuit
  pub back : read_circuit written ≡ result circuit
  pub numbers : h ≡ head_of circuit
  pub outputs_are : m ≡ circuit.outputs
  pub gates_sum : sum_of (gates_quoted answers) m ≡ length circuit.gates
  pub toffolis_sum : sum_of (toffolis_quoted answers) m ≡ toffoli_count circuit.gates
  pub lines_largest : largest_of (lines_quoted answers) m ≡ circuit.work

-- so they are wherever compiling accepts the file, whatever the grant was and the lent areas held
pub record Agrees (file counts answers : List ℕ) : Type 0 where
  pub booked : (m : ℕ) → (quote_of file counts answers).answer ≡ result m
      → (grant : ℕ) (sizes area : List ℕ) (h : CircuitHead) → (compile_of file grant sizes area).answer ≡ result h
      → Booked h (file_written h (compile_of file grant sizes area).area) m (quote_of file counts answers).answers

-- and that is so of every file, whatever both lists of the quote held
abbrev pub QuoteAgrees : Type 0
QuoteAgrees = (file counts answers : List ℕ) → Agrees file counts answers
