-- The pool of work lines (01): which of them are in use, and the lowest that is free.
use Rattle.std.specs.Prelude.{ℕ, ◌+◌, max, Bool, false, ◌||◌, List, [], ◌∷◌, length, eqb}
use Rattle.refusal.specs.Checks.{lowest_from}

-- the first work line, the lines in use, and the most that were in use together (02, A7: the most held together)
pub record Pool : Type 0 where
  pub first : ℕ
  pub used : List ℕ
  pub most : ℕ

-- line i is one of these
unfoldable pub is_among : List ℕ → ℕ → Bool
is_among [] i = false
is_among (l ∷ ls) i = eqb i l || is_among ls i

-- every work line from f on is free, and none was in use
unfoldable pub all_free : ℕ → Pool
all_free f = record { first = f; used = []; most = 0 }

-- the lowest work line that is not in use: with k lines in use the first k work lines are tried in turn, and where all of these are in use it is the next
unfoldable pub lowest_free : Pool → ℕ
lowest_free p = lowest_from (is_among p.used) p.first (length p.used)

-- the lowest free line is taken
unfoldable pub take_line : Pool → Pool
take_line p = record { first = p.first; used = lowest_free p ∷ p.used; most = max p.most (1 + length p.used) }

-- only these lines are still in use: all others are free again (02, A7, and 01 after a share)
unfoldable pub release : List ℕ → Pool → Pool
release kept p = record { first = p.first; used = kept; most = p.most }
