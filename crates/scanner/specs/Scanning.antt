-- What the scanner asks for and answers, in terms of the automaton: reading on from where it began is reading on from where it ended, whatever stands around.
use Rattle.std.specs.Prelude.{ℕ, ◌-◌, ◌≤◌, ◌<◌, ◌≡◌, ◌≢◌, cond, List, length, drop, get_or, Option, Some, None, Result, Ok, Err}
use Rattle.refusal.specs.Answers.{refuse}
use Rattle.refusal.specs.declared.causes.Refusal.{Refusal}
use Rattle.wire.specs.Limits.{most_text, most_open}
use Rattle.node.specs.NodeBytes.{node_fields, nodes_bytes}
use Rattle.grammar.specs.Characters.{exclamation, opening, digit0}
use Rattle.grammar.specs.Grammar.{Factor}
use Rattle.grammar.specs.FormulaNodes.{factor_count, factor_nodes}
use Rattle.automaton.specs.States.{AroundFactor, State, factor_next, digit_next, open_factor, made_factor}
use Rattle.automaton.specs.Automaton.{after_factor, is_digit, read_rest}
use Rattle.scanner.specs.declared.Leaf.{Leaf}

-- a place in a text that is not too long
pub record Scannable (text : List ℕ) (at : ℕ) : Type 0 where
  pub short : length text ≤ most_text
  pub inside : at ≤ length text

-- the digit at an index, if one stands there
unfoldable pub digit_at : List ℕ → ℕ → Option ℕ
digit_at text at = cond (is_digit (get_or text at 0)) (Some (get_or text at 0 - digit0)) None

-- reading on from one state and place is reading on from another
pub record Goes (n : ℕ) (text : List ℕ) (σ : State) (at : ℕ) (τ : State) (e : ℕ) : Type 0 where
  pub on : read_rest n (length text) σ (drop at text) ≡ read_rest n (length text) τ (drop e text)

-- reading on gives a refusal
pub record Refuses (n : ℕ) (text : List ℕ) (σ : State) (at : ℕ) (why : Refusal) : Type 0 where
  pub on : read_rest n (length text) σ (drop at text) ≡ refuse why

-- from a state on, a leaf was read: a factor whose one node has this kind and first field
pub record LeafEnd (n : ℕ) (text : List ℕ) (from : AroundFactor → State) (at kind a e : ℕ) : Type 0 where
  pub tree : Factor
  pub one : factor_count tree ≡ 1
  pub stored : (i : ℕ) → nodes_bytes (factor_nodes tree i) ≡ node_fields kind 0 a 0
  pub small : a < 100
  pub later : at < e
  pub inside : e ≤ length text
  pub goes : (c : AroundFactor) → open_factor c ≤ most_open → Goes n text (from c) at (after_factor tree c) e

-- from a state on, with so many nodes made, it is refused
abbrev pub LeafRefused : ℕ → List ℕ → (AroundFactor → State) → ℕ → ℕ → Refusal → Type 0
LeafRefused n text from at made why = (c : AroundFactor) → open_factor c ≤ most_open → made_factor c ≡ made → Refuses n text (from c) at why

-- what is read behind an x
unfoldable pub NumberRead : ℕ → List ℕ → ℕ → ℕ → Result Leaf Refusal → Type 0
NumberRead n text at made (Ok leaf) = LeafEnd n text digit_next at leaf.kind leaf.field leaf.end
NumberRead n text at made (Err why) = LeafRefused n text digit_next at made why

-- what is read where a factor is to come, if it is no ! and no (
unfoldable pub LeafRead : ℕ → List ℕ → ℕ → ℕ → Result Leaf Refusal → Type 0
LeafRead n text at made (Ok leaf) = LeafEnd n text factor_next at leaf.kind leaf.field leaf.end
LeafRead n text at made (Err why) = get_or text at 0 ≢ exclamation → get_or text at 0 ≢ opening → LeafRefused n text factor_next at made why
