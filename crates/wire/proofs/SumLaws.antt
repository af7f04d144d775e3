-- Laws of sums and maxima by index. Assumes nothing.
use Prim.Native.Nat.{ℕ, zero, suc, ◌<◌, ◌≤◌, max}
use native.Mathlib.Omega.{arith}
use mathlib.Core.Path.{◌≡◌, refl, ap₂}
use lib.Dec.{eqb}
use borrow.Author.Tests.{eqb-true, eqb-false}
use Rattle.refusal.proofs.CheckLaws.{by_test}
use Rattle.wire.specs.Lists.{sum_of, largest_of}

-- sums and maxima of the same numbers
pub sum_same : (f g : ℕ → ℕ) (k : ℕ) → ((j : ℕ) → j < k → f j ≡ g j) → sum_of f k ≡ sum_of g k
unfolding sum_of
sum_same f g zero h = refl
sum_same f g (suc k) h = omega (arith, sum_same f g k (λ j l. h j (omega arith)), h k (omega arith))

pub largest_same : (f g : ℕ → ℕ) (k : ℕ) → ((j : ℕ) → j < k → f j ≡ g j) → largest_of f k ≡ largest_of g k
unfolding largest_of
largest_same f g zero h = refl
largest_same f g (suc k) h = ap₂ (λ (a b : ℕ). max a b) (largest_same f g k (λ j l. h j (omega arith))) (h k (omega arith))

-- each number is at most their sum, and at most the largest
pub sum_most : (f : ℕ → ℕ) (k j : ℕ) → j < k → f j ≤ sum_of f k
unfolding sum_of
sum_most f zero j h = absurd (omega arith)
sum_most f (suc k) j h = by_test (eqb j k) (λ e. rw (eqb-true j k e) (omega arith)) (λ e. omega (arith, sum_most f k j (omega (arith, eqb-false j k e))))

pub largest_most : (f : ℕ → ℕ) (k j : ℕ) → j < k → f j ≤ largest_of f k
unfolding largest_of
largest_most f zero j h = absurd (omega arith)
largest_most f (suc k) j h = by_test (eqb j k) (λ e. rw (eqb-true j k e) (omega arith)) (λ e. omega (arith, largest_most f k j (omega (arith, eqb-false j k e))))
