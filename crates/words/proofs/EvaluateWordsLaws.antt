-- A law of evaluating by words: what the service's definition says is what its checks lead to. Assumes nothing.
use Prim.Native.Nat.{ℕ}
use mathlib.Core.Path.{◌≡◌, refl}
use mathlib.Core.Bool.{Bool}
use mathlib.Core.List.{List}
use lib.ListN.{length}
use lib.Dec.{eqb}
use Rattle.refusal.specs.Answers.{Answer, result, refused}
use Rattle.node.specs.Exprs.{Expr}
use Rattle.word_values.specs.WordValues.{value_word, node_words}
use Rattle.program.specs.Programs.{Program, output_value}
use Rattle.evaluate.proofs.AskedLaws.{asked, list_after, Outcome}
use Rattle.words.specs.EvaluatingWords.{output_word, words_file, words_after, evaluate_words_of}

-- a tree's word on the input words x
abbrev pub word_on : List ℕ → Expr → ℕ
word_on x e = value_word e x

-- the test of the input words x, by the number of inputs
abbrev pub count_fits : List ℕ → ℕ → Bool
count_fits x n = eqb (length x) n

module _ (file list x : List ℕ) (k : ℕ) where
  words_left : (e : Answer Program) → words_after e x list ≡ list_after (word_on x) e list
  unfolding node_words
  words_left (result p) = refl
  words_left (refused n q) = refl

  pub words_outcome : Outcome (word_on x) (count_fits x) file list k (evaluate_words_of file list x k).answer (evaluate_words_of file list x k).values
  unfolding evaluate_words_of words_file output_word output_value value_word
  words_outcome = record { answer = refl; list_left = words_left (asked (count_fits x) file (length list) k) }
