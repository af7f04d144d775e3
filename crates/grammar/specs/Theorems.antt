-- What is proved of formulas by themselves; the proofs are in proofs/.
use Rattle.std.specs.Prelude.{ℕ, ◌≡◌, List}
use Rattle.program.specs.Programs.{output_value, LegalProgram}
use Rattle.grammar.specs.Grammar.{Sum, sum_value}
use Rattle.grammar.specs.FormulaNodes.{formula_program}
use Rattle.grammar.specs.Language.{Reads}

-- the program of a formula has its truth value
abbrev pub ProgramValue : Type 0
ProgramValue = (n : ℕ) (s : Sum) (x : List ℕ) → output_value (formula_program n s) x 0 ≡ sum_value s x

-- the program of a text within the limits can be held by a file
abbrev pub ProgramLegal : Type 0
ProgramLegal = (n : ℕ) (text : List ℕ) (s : Sum) → Reads n text s → LegalProgram (formula_program n s)
