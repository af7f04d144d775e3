-- What is proved of parsing, over the services' own definitions; the proofs are in proofs/.
use Rattle.std.specs.Prelude.{ℕ, ◌+◌, ◌≤◌, ◌<◌, ◌≡◌, ◌≢◌, ◌↔◌, true, List, ◌∷◌, ◌++◌, length, take, replicate}
use Rattle.refusal.specs.Answers.{Answer, result, refused, refuse}
use Rattle.refusal.specs.declared.causes.Refusal.TheVariants as cause
use Rattle.wire.specs.Bits.{bit, bits_fit}
use Rattle.circuit.specs.declared.reader.CircuitHead.{CircuitHead}
use Rattle.circuit.specs.Circuits.{head_lines}
use Rattle.run.specs.RunCircuit.{run_forwards}
use Rattle.program.specs.Programs.{Program}
use Rattle.program.specs.Format.{program_file}
use Rattle.program.specs.Reading.{read_program}
use Rattle.evaluate.specs.Evaluating.{evaluate_of}
use Rattle.compilation.specs.Compiling.{compile_of}
use Rattle.compilation.specs.Demand.{file_written}
use Rattle.grammar.specs.Grammar.{Sum, sum_value}
use Rattle.grammar.specs.FormulaNodes.{sum_count, formula_program}
use Rattle.grammar.specs.Language.{Reads}
use Rattle.automaton.specs.Answers.{RightAnswer}
use Rattle.parsing.specs.Parsing.{parse_text, parse_of}

-- the answer to parsing a text over n inputs into an area of so many bytes is right
pub data RightParse (text : List ℕ) (n room : ℕ) : Answer Program → Type 0 where
  its_program : {s : Sum} → Reads n text s → length (program_file (formula_program n s)) ≤ room → RightParse text n room (result (formula_program n s))
  no_room : {s : Sum} → Reads n text s → room < length (program_file (formula_program n s)) → RightParse text n room (refuse (cause.Room (sum_count s)))
  not_read : {k p : ℕ} → RightAnswer n text (refused k p) → RightParse text n room (refused k p)

-- exactly one answer is right, by the grammar alone, and parsing gives it
abbrev pub OneParse : Type 0
OneParse = (text : List ℕ) (n room : ℕ) (a : Answer Program) → (parse_text text n room ≡ a) ↔ RightParse text n room a

-- every line behind the n inputs is at 0: the target and the work lines
abbrev pub RestZero : ℕ → List ℕ → Type 0
RestZero n start = (i : ℕ) → n ≤ i → bit start i ≡ 0

-- running a circuit file from a start with the rest at zero gives its result, with the target at the formula's truth value on the input lines and every other line as it started
pub record Computed (n : ℕ) (s : Sum) (written start : List ℕ) : Type 0 where
  pub lines : List ℕ
  pub ran : run_forwards written start ≡ result lines
  pub long : length lines ≡ length start
  pub target : bit lines n ≡ sum_value s (take n start)
  pub others : (i : ℕ) → i ≢ n → bit lines i ≡ bit start i

-- a file is what was typed: the program file of the text's formula, which reads back, evaluates to its truth value, and where it compiles computes it
pub record Typed (n : ℕ) (text file : List ℕ) : Type 0 where
  pub formula : Sum
  pub reads : Reads n text formula
  pub same : file ≡ program_file (formula_program n formula)
  pub back : read_program file ≡ result (formula_program n formula)
  -- on any input bytes that pass 14, with any value list long enough
  pub evaluates : (values x : List ℕ) → sum_count formula ≤ length values → bits_fit n x ≡ true → (evaluate_of file values x 0).answer ≡ result (sum_value formula x)
  -- with any grant and any lent areas, from any line bytes that pass 13 and have the rest at zero
  pub computes : (grant : ℕ) (sizes area : List ℕ) (h : CircuitHead) → (compile_of file grant sizes area).answer ≡ result h
      → (start : List ℕ) → bits_fit (head_lines h) start ≡ true → RestZero n start → Computed n formula (file_written h (compile_of file grant sizes area).area) start

-- and that is so of the file at the start of the area that parsing leaves, whatever the text was and the area held
abbrev pub ParsedComputes : Type 0
ParsedComputes = (text : List ℕ) (n : ℕ) (area : List ℕ) (b : ℕ) → (parse_of text n area).answer ≡ result b → Typed n text (take b (parse_of text n area).area)

-- what that says of single lines it says of all of them: inputs x with zeros behind them end as x, its truth value, and zeros
abbrev pub TypedSays : Type 0
TypedSays =
    (n : ℕ) (text file : List ℕ) (t : Typed n text file) (grant : ℕ) (sizes area : List ℕ) (h : CircuitHead) → (compile_of file grant sizes area).answer ≡ result h
    → (x : List ℕ) → bits_fit n x ≡ true
    → run_forwards (file_written h (compile_of file grant sizes area).area) (x ++ replicate (1 + h.work) 0) ≡ result (x ++ (sum_value t.formula x ∷ replicate h.work 0))
