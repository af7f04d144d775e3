-- The texts of the language, and what texts begin with.
use Rattle.std.specs.Prelude.{ℕ, ◌≤◌, ◌<◌, ◌≡◌, List, ◌∷◌, ◌++◌, length}
use Rattle.wire.specs.Limits.{most_inputs, most_text, most_open}
use Rattle.grammar.specs.Characters.{letter_x}
use Rattle.grammar.specs.Grammar.{Sum, sum_text, number_text}
use Rattle.grammar.specs.Extent.{sum_depth, SumBelow}

-- a text of the language, whatever the limits and the number of inputs: that of a formula whose numbers have one digit or two
pub record Reading (text : List ℕ) : Type 0 where
  pub tree : Sum
  pub numbers : SumBelow 100 tree
  pub written : sum_text tree ≡ text

-- some text of the language begins with it (02)
pub record Viable (prefix : List ℕ) : Type 0 where
  pub rest : List ℕ
  pub whole : Reading (prefix ++ rest)

-- some text begins with it in which at most d brackets and ! are open together
pub record ViableWithin (d : ℕ) (prefix : List ℕ) : Type 0 where
  pub begins : Viable prefix
  pub depth : sum_depth begins.whole.tree ≤ d

-- every number behind an x is below n, also the first digit of one that has two
abbrev pub NumbersBelow : ℕ → List ℕ → Type 0
NumbersBelow n text = (before after : List ℕ) (j : ℕ) → j < 100 → before ++ (letter_x ∷ (number_text j ++ after)) ≡ text → j < n

-- s is the formula of a text over n inputs, within the limits
pub record Reads (n : ℕ) (text : List ℕ) (s : Sum) : Type 0 where
  pub written : sum_text s ≡ text
  pub inputs : SumBelow n s
  pub depth : sum_depth s ≤ most_open
  pub short : length text ≤ most_text
  pub few : n ≤ most_inputs
