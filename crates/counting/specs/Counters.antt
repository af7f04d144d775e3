-- What the functions that count gates and lines ask for, and what they answer.
use Rattle.std.specs.Prelude.{ℕ, ◌+◌, ◌-◌, ◌*◌, ◌/◌, ◌≤◌, ◌<◌, max, ◌≡◌, List, length}
use Rattle.wire.specs.Limits.{most_outputs, most_size, most_counted}
use Rattle.node.specs.Exprs.{Expr, size}
use Rattle.program.specs.Reading.{output_at}
use Rattle.construction.specs.Construction.{lines_needed}
use Rattle.construction.specs.Counting.{gates_shown}
use Rattle.construction.specs.Steps.{tree_held, built_count, undone_count, shares_count}
use Rattle.construction.specs.Theorems.{tree_lines}
use Rattle.counter.specs.Counter.{gates_in, most_in, used_in, most_passed}
use Rattle.counting.specs.declared.Needs.{Needs}
use Rattle.program.specs.Tables.{tree_in, Valid}

-- how many gates a share has of a tree in it, where one on the tree's own line counts own: every other one is undone, and counts 2
unfoldable pub weighed : ℕ → Expr → ℕ
weighed own e = own * (built_count 1 e - undone_count 1 e) + 2 * undone_count 1 e

-- node i is small enough to be counted
pub record Countable (nodes : List ℕ) (i : ℕ) : Type 0 where
  pub valid : Valid nodes i
  pub small : size (tree_in nodes i) ≤ most_size

-- so is the node of each output, and there are few outputs
pub record AllCountable (nodes outputs : List ℕ) : Type 0 where
  pub each : (k : ℕ) → k < length outputs / 2 → Countable nodes (output_at outputs k)
  pub outputs_most : length outputs / 2 ≤ most_outputs

-- counting has come to s, and so far that nothing overflows where a tree of size n is counted next
pub record CountRoom (n own s : ℕ) : Type 0 where
  pub own_few : own ≤ 2
  pub small : n ≤ most_size
  pub gates_few : gates_in s + 2 * n ≤ most_passed
  pub used_few : used_in s + n ≤ most_size
  pub most_few : most_in s ≤ most_size
  pub in_use : used_in s ≤ most_in s

-- a tree is counted from s on: r says how far counting has come then, whatever its target and the first work line are
pub record Counted (e : Expr) (own s r : ℕ) : Type 0 where
  pub gates_shown_lem : gates_shown (gates_in r) ≡ gates_shown (gates_in s + weighed own e)
  pub gates_least : gates_in s ≤ gates_in r
  pub gates_most : gates_in r ≤ max (gates_in s) (2 * most_counted) + 2 * size e
  pub used_are : (t f : ℕ) → used_in r ≡ used_in s + tree_held e t f
  pub most_are : (t f : ℕ) → most_in r ≡ max (most_in s) (used_in s + tree_lines e t f)

-- the gates and work lines of a circuit over any number of inputs, as they are counted
pub record Needed (es : List Expr) (r : Needs) : Type 0 where
  pub gates_are : r.gates ≡ gates_shown (shares_count es)
  pub lines_are : (n : ℕ) → r.lines ≡ lines_needed n es
