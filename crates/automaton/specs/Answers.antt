-- What each answer to a text says of it, by the grammar alone, so that nobody has to believe the automaton; just one answer is right.
use Rattle.std.specs.Prelude.{ℕ, suc, ◌≤◌, ◌<◌, ◌≡◌, ◌↔◌, List, ◌∷◌, ◌++◌, length, get_or, take}
use Rattle.refusal.specs.Answers.{Answer, result, refuse}
use Rattle.refusal.specs.declared.causes.Refusal.TheVariants as cause
use Rattle.wire.specs.Limits.{most_inputs, most_text, most_open}
use Rattle.node.specs.declared.nodes.Node.{Node}
use Rattle.node.specs.declared.nodes.Node.TheVariants.{Zero, Input}
use Rattle.node.specs.Nodes.{NodeOk}
use Rattle.grammar.specs.Characters.{letter_x}
use Rattle.grammar.specs.Grammar.{Sum, sum_text, number_text}
use Rattle.grammar.specs.Extent.{SumBelow}
use Rattle.grammar.specs.FormulaNodes.{sum_nodes}
use Rattle.grammar.specs.Language.{Reading, Viable, ViableWithin, NumbersBelow, Reads}
use Rattle.automaton.specs.Automaton.{read_text}

-- a text has one reading
abbrev pub OneReading : Type 0
OneReading = (a b : Sum) → SumBelow 100 a → SumBelow 100 b → sum_text a ≡ sum_text b → a ≡ b

-- the first p bytes of a text are in order: some text of the language begins with them, within the limit of what is open, and every number in them is below n
pub record InOrderTo (n : ℕ) (text : List ℕ) (p : ℕ) : Type 0 where
  pub inside : p ≤ length text
  pub viable : ViableWithin most_open (take p text)
  pub numbers : NumbersBelow n (take p text)

-- 16: the text is outside the language, p is the length of its longest prefix that some text of the language begins with, and up to p nothing else is refused
pub record Outside (n : ℕ) (text : List ℕ) (p : ℕ) : Type 0 where
  pub before : InOrderTo n text p
  pub longest : (q : ℕ) → p < q → q ≤ length text → Viable (take q text) → ⊥
  pub not_text : Reading text → ⊥

-- 18: byte p opens the 65th bracket or !: some text goes on with it, and every one that does has 65 of them open
pub record TooDeep (n : ℕ) (text : List ℕ) (p : ℕ) : Type 0 where
  pub before : InOrderTo n text p
  pub inside : p < length text
  pub viable : ViableWithin (suc most_open) (take (suc p) text)
  pub deep : ViableWithin most_open (take (suc p) text) → ⊥

-- node i is an input that is not below n, and every node before it is in order: the node that cause 5 is about
pub record FirstHigh (n : ℕ) (nodes : List Node) (i : ℕ) : Type 0 where
  pub before : (k : ℕ) → k < i → NodeOk n k (get_or nodes k Zero)
  pub input : ℕ
  pub is : get_or nodes i Zero ≡ Input input
  pub high : n ≤ input

-- 5: with byte p an input's number is not below n, and node i is what that input is in every text that goes on so
pub record TooHigh (n : ℕ) (text : List ℕ) (i : ℕ) : Type 0 where
  pub p : ℕ
  pub before : InOrderTo n text p
  pub inside : p < length text
  pub viable : ViableWithin most_open (take (suc p) text)
  pub earlier : List ℕ
  pub input : ℕ
  pub two : input < 100
  pub spelled : earlier ++ (letter_x ∷ number_text input) ≡ take (suc p) text
  pub high : n ≤ input
  pub node : (v : Viable (take (suc p) text)) → FirstHigh n (sum_nodes v.whole.tree 0) i

-- the answer to a text over n inputs is right
pub data RightAnswer (n : ℕ) (text : List ℕ) : Answer Sum → Type 0 where
  its_formula : {s : Sum} → Reads n text s → RightAnswer n text (result s)
  too_long : most_text < length text → RightAnswer n text (refuse cause.TextLength)
  too_many : length text ≤ most_text → most_inputs < n → RightAnswer n text (refuse cause.Range)
  outside : {p : ℕ} → length text ≤ most_text → n ≤ most_inputs → Outside n text p → RightAnswer n text (refuse (cause.Text p))
  too_deep : {p : ℕ} → length text ≤ most_text → n ≤ most_inputs → TooDeep n text p → RightAnswer n text (refuse (cause.Depth p))
  too_high : {i : ℕ} → length text ≤ most_text → n ≤ most_inputs → TooHigh n text i → RightAnswer n text (refuse (cause.Node i))

-- exactly one answer is right, and reading gives it
abbrev pub OneAnswer : Type 0
OneAnswer = (n : ℕ) (text : List ℕ) (a : Answer Sum) → (read_text n text ≡ a) ↔ RightAnswer n text a
