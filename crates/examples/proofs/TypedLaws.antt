-- Laws of the rows about typed formulas: what parsing a text gives and leaves, once its reading is known. Assumes nothing.
use Prim.Native.Nat.{ℕ, ◌<◌, ◌≤◌}
use native.Mathlib.Omega.{arith}
use mathlib.Core.Path.{◌≡◌, refl}
use mathlib.Core.List.{List, ◌++◌}
use lib.ListN.{length, drop, replicate}
use borrow.Author.Tests.{le-leb, lt-leb}
use Rattle.refusal.specs.Answers.{result, refused}
use Rattle.program.specs.Format.{program_file}
use Rattle.grammar.specs.Grammar.{Sum}
use Rattle.grammar.specs.FormulaNodes.{formula_program}
use Rattle.automaton.specs.Automaton.{read_text}
use Rattle.parsing.specs.Parsing.{parse_text, parse_of}

module _ (text : List ℕ) (n : ℕ) (area : List ℕ) (s : Sum) (e : read_text n text ≡ result s) where
  abbrev file : List ℕ
  file = program_file (formula_program n s)

  -- the file is written, and what is behind it stays
  pub typed : length file ≤ length area → parse_of text n area ≡ record { answer = result (length file); area = file ++ drop (length file) area }
  unfolding parse_of parse_text
  typed room = rw (e, le-leb (length file) (length area) room) refl

  -- the area has k bytes, and the file more
  pub typed_short : (k : ℕ) → k < length file → length area ≡ k → parse_of text n area ≡ record { answer = refused 11 (length (formula_program n s).nodes); area = replicate k 0 }
  unfolding parse_of parse_text
  typed_short k short q = rw (← q) (rw (e, lt-leb (length file) (length area) (omega arith)) refl)
