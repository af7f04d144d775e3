-- What the steps that read a table of contents answer, and what the readers of bodies ask of their callers.
use Rattle.std.specs.Prelude.{ℕ, ◌+◌, ◌≤◌, ◌<◌, List, [], ◌∷◌, length}
use Rattle.refusal.specs.Answers.{Answer, result, check}
use Rattle.refusal.specs.declared.causes.Refusal.TheVariants as cause
use Rattle.contents.specs.Contents.{table_length, entry_start, entry_length, table_fits, entries_fit}

-- the first checks of a file whose bodies have these tags
unfoldable pub read_contents : List ℕ → List ℕ → Answer (Unit {0})
read_contents tags f =
    check (table_fits (length tags) f) cause.Table  -- 1
    (check (entries_fit tags f) cause.Contents  -- 2
    (result tt))

-- a file of k bodies, each of which lies within it, behind the table
pub record Laid (k : ℕ) (f : List ℕ) : Type 0 where
  pub whole : table_length k ≤ length f
  pub within : (i : ℕ) → i < k → entry_start f i + entry_length f i ≤ length f

-- the sum of the bodies' lengths
unfoldable pub total : List ℕ → ℕ
total [] = 0
total (l ∷ ls) = l + total ls
