-- What the steps of parsing ask for and leave.
use Rattle.std.specs.Prelude.{ℕ, ◌/◌, ◌≤◌, ◌≡◌, List, length, leb, Result, Ok, Err}
use Rattle.refusal.specs.Answers.{Answer, result, refuse, check}
use Rattle.refusal.specs.declared.causes.Refusal.{Refusal}
use Rattle.refusal.specs.declared.causes.Refusal.TheVariants as cause
use Rattle.wire.specs.Limits.{most_nodes}
use Rattle.grammar.specs.Grammar.{Sum}
use Rattle.grammar.specs.FormulaNodes.{sum_count, sum_nodes}
use Rattle.automaton.specs.States.{initial}
use Rattle.automaton.specs.Automaton.{read_rest}
use Rattle.emitter.specs.Emitting.{put_nodes}
use Rattle.program_writer.specs.OneOutput.{body_file, body_file_length}

-- a whole text was read as a formula, and its nodes are stored
pub record WholeEnd (n : ℕ) (text old new : List ℕ) (made : ℕ) : Type 0 where
  pub tree : Sum
  pub count : made ≡ sum_count tree
  pub few : made ≤ most_nodes
  pub written : new ≡ put_nodes old 0 (sum_nodes tree 0)
  pub reads : read_rest n (length text) initial text ≡ result tree

-- what reading a whole text answers; nothing is said of the node body on a refusal
unfoldable pub WholeRead : ℕ → List ℕ → List ℕ → List ℕ → Result ℕ Refusal → Type 0
WholeRead n text old new (Ok made) = WholeEnd n text old new made
WholeRead n text old new (Err why) = read_rest n (length text) initial text ≡ refuse why

-- the file of a node body, if an area of so many bytes has room for it
unfoldable pub delivery : ℕ → List ℕ → ℕ → Answer (List ℕ)
delivery n body room = check (leb (body_file_length (length body)) room) (cause.Room (length body / 6)) (result (body_file n body))
