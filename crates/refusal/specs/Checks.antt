-- Tests over indices: the lowest at which one fails.
use Rattle.std.specs.Prelude.{ℕ, zero, suc, Bool, cond, eqb}

-- of the k indices from i on, the lowest at which the test fails; i + k where it fails at none
unfoldable pub lowest_from : (ℕ → Bool) → ℕ → ℕ → ℕ
lowest_from test i zero = i
lowest_from test i (suc k) = cond (test i) (lowest_from test (suc i) k) i

-- the lowest index below k at which the test fails; k where it fails at none
abbrev pub lowest : (ℕ → Bool) → ℕ → ℕ
lowest test k = lowest_from test 0 k

-- the test holds at every index below k
abbrev pub all_below : (ℕ → Bool) → ℕ → Bool
all_below test k = eqb (lowest test k) k
