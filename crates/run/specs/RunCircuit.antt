-- Running a circuit file on lines.
use Rattle.std.specs.Prelude.{ℕ, List, Result}
use Rattle.refusal.specs.Answers.{Answer, result, refused, map_answer, answer_of}
use Rattle.gate.specs.Running.{run, run_back}
use Rattle.circuit.specs.Reading.{read_with_lines}
use Rattle.refusal.specs.declared.causes.Refusal.{Refusal}

-- running a file forwards: the lines after its gates, first to last
unfoldable pub run_forwards : List ℕ → List ℕ → Answer (List ℕ)
run_forwards file lines = map_answer (λ c. run c.gates lines) (read_with_lines file lines)

-- running a file backwards (01): the lines after its gates, last to first
unfoldable pub run_backwards : List ℕ → List ℕ → Answer (List ℕ)
run_backwards file lines = map_answer (λ c. run_back c.gates lines) (read_with_lines file lines)

-- the lent lines at exit: those after the run, or, on a refusal, as they were
abbrev pub lines_after : Answer (List ℕ) → List ℕ → List ℕ
lines_after (result after) lines = after
lines_after (refused n p) lines = lines

-- a run's answer without the lines: the value of a result is 0
abbrev pub done : Answer (List ℕ) → Answer ℕ
done a = map_answer (λ after. 0) a

-- a runner's answer in 01's terms: a result whose value is 0, or a number and a place
abbrev pub ran : Result (Unit {0}) Refusal → Answer ℕ
ran r = map_answer (λ u. 0) (answer_of r)
