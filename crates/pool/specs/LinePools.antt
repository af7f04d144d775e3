-- What the pool of the code says of the pools of the construction: which line is the lowest free one.
use Rattle.std.specs.Prelude.{ℕ, ◌≡◌}
use Rattle.construction.specs.Pools.{Pool, lowest_free, take_line, release}
use Rattle.construction.specs.Steps.{Reached}

-- how many numbers a line can have, which is written in 16 bits
abbrev pub line_numbers : ℕ
line_numbers = 65536

-- in every pool that the construction reaches and whose lowest free line is f, that is r once this line is taken
unfoldable pub Takes : ℕ → ℕ → Type 0
Takes f r = (q : Pool) → Reached q → lowest_free q ≡ f → lowest_free (take_line q) ≡ r

-- where k is the lowest free line of one pool and f of another over the same work lines, it is r once just the lines of the first are in use in the second
unfoldable pub Releases : ℕ → ℕ → ℕ → Type 0
Releases k f r = (p q : Pool) → p.first ≡ q.first → lowest_free p ≡ k → lowest_free q ≡ f → lowest_free (release p.used q) ≡ r
