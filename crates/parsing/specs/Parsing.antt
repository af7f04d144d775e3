-- The service parse (02, A6): its answer, and what it leaves in the lent area.
use Rattle.std.specs.Prelude.{ℕ, List, length, leb}
use Rattle.refusal.specs.Answers.{Answer, result, check, and_then, map_answer}
use Rattle.refusal.specs.declared.causes.Refusal.TheVariants as cause
use Rattle.wire.specs.Areas.{area_after}
use Rattle.program.specs.Programs.{Program}
use Rattle.program.specs.Format.{program_file}
use Rattle.grammar.specs.FormulaNodes.{formula_program}
use Rattle.automaton.specs.Automaton.{read_text}

-- parsing a text over n inputs into an area of so many bytes: the program of its formula, or a refusal; room (11) is checked last of all
unfoldable pub parse_text : List ℕ → ℕ → ℕ → Answer Program
parse_text text n room =
    and_then (read_text n text) (λ s.
    check (leb (length (program_file (formula_program n s))) room) (cause.Room (length (formula_program n s).nodes))  -- 11
    (result (formula_program n s)))

-- what the service answers, the number of bytes written, and what it leaves in the lent area
pub record Parsing : Type 0 where
  pub answer : Answer ℕ
  pub area : List ℕ

-- the service parse: its answer and the lent area at exit, whatever it held
unfoldable pub parse_of : List ℕ → ℕ → List ℕ → Parsing
parse_of text n area =
    record {
      answer = map_answer (λ p. length (program_file p)) (parse_text text n (length area));
      area = area_after (map_answer program_file (parse_text text n (length area))) area;
    }
