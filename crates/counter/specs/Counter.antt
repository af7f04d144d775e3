-- How far counting has come, in one number.
use Rattle.std.specs.Prelude.{ℕ, ◌+◌, ◌-◌, ◌*◌, ◌/◌, ◌%◌, ◌≤◌, cond, ltb}
use Rattle.wire.specs.Limits.{most_outputs, most_size, most_counted}
use Rattle.pool.specs.LinePools.{line_numbers}

-- one gate, in the number that says how far counting has come
abbrev pub one_gate : ℕ
one_gate = 4294967296

-- how far counting has come, in one number: so many gates, the most work lines in use together, and those in use
abbrev pub packed_counts : ℕ → ℕ → ℕ → ℕ
packed_counts gates most used = gates * one_gate + most * line_numbers + used

-- the gates in that number
unfoldable pub gates_in : ℕ → ℕ
gates_in s = s / one_gate

-- the most lines in use together
unfoldable pub most_in : ℕ → ℕ
most_in s = s / line_numbers % line_numbers

-- and those in use
unfoldable pub used_in : ℕ → ℕ
used_in s = s % line_numbers

-- gates counted with those since `from` once more; a number above the largest that is shown stays as it is
abbrev pub once_more : ℕ → ℕ → ℕ
once_more from gates = cond (ltb most_counted gates) gates (gates + (gates - from))

-- counting never comes further than so many gates: twice the largest number that is shown, and what is counted without a mark
abbrev pub most_passed : ℕ
most_passed = 2 * most_counted + most_outputs * (2 * most_size)

-- counting had come to s before an AND, and has come to q with its operands
pub record OperandsMade (s q : ℕ) : Type 0 where
  pub gates_least : gates_in s ≤ gates_in q
  pub gates_few : gates_in q ≤ most_passed
  pub used_least : used_in s ≤ used_in q
