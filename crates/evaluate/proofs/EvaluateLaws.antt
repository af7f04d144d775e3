-- A law of evaluating: what the service's definition says is what its checks lead to. Assumes nothing.
use Prim.Native.Nat.{ℕ}
use mathlib.Core.Path.{◌≡◌, refl}
use mathlib.Core.Bool.{Bool}
use mathlib.Core.List.{List}
use lib.ListN.{length}
use Rattle.refusal.specs.Answers.{Answer, result, refused}
use Rattle.wire.specs.Bits.{bits_fit}
use Rattle.node.specs.Exprs.{Expr, value}
use Rattle.node.specs.Trees.{node_values}
use Rattle.program.specs.Programs.{Program, output_value}
use Rattle.evaluate.specs.Evaluating.{evaluate_file, values_after, evaluate_of}
use Rattle.evaluate.proofs.AskedLaws.{asked, list_after, Outcome}

-- a tree's value on the input bits x
abbrev pub value_on : List ℕ → Expr → ℕ
value_on x e = value e x

-- the test of the input bytes x, by the number of inputs
abbrev pub bytes_fit : List ℕ → ℕ → Bool
bytes_fit x n = bits_fit n x

module _ (file list x : List ℕ) (k : ℕ) where
  values_left : (e : Answer Program) → values_after e x list ≡ list_after (value_on x) e list
  unfolding node_values
  values_left (result p) = refl
  values_left (refused n q) = refl

  pub evaluate_outcome : Outcome (value_on x) (bytes_fit x) file list k (evaluate_of file list x k).answer (evaluate_of file list x k).values
  unfolding evaluate_of evaluate_file output_value
  evaluate_outcome = record { answer = refl; list_left = values_left (asked (bytes_fit x) file (length list) k) }
