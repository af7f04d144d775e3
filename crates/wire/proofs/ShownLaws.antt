-- Laws of numbers as a list shows them. Assumes nothing.
use Prim.Native.Nat.{ℕ, ◌+◌, ◌≤◌}
use native.Mathlib.Omega.{arith}
use native.Mathlib.Nat.{zero-add}
use mathlib.Core.Path.{◌≡◌, ap, ◌∙◌}
use Rattle.wire.specs.Shown.{shown}

module _ (most : ℕ) where
  pub shown_few : (k : ℕ) → shown most k ≤ most + 1
  unfolding shown
  shown_few k = omega arith

  -- a number up to most is shown as it is
  pub shown_exact : (k : ℕ) → k ≤ most → shown most k ≡ k
  unfolding shown
  shown_exact k h = omega arith

  -- sums of shown numbers show the shown sum
  pub shown_more : (k a : ℕ) → shown most (k + shown most a) ≡ shown most (k + a)
  unfolding shown
  shown_more k a = omega arith

  pub shown_sum : (k a b : ℕ) → shown most (k + shown most a + shown most b) ≡ shown most (k + a + b)
  shown_sum k a b =
      let last : k + shown most a + b ≡ k + b + shown most a = omega arith in
      let first : k + b + a ≡ k + a + b = omega arith in
      shown_more (k + shown most a) b ∙ ap (shown most) last ∙ shown_more (k + b) a ∙ ap (shown most) first

  pub shown_both : (a b : ℕ) → shown most (shown most a + shown most b) ≡ shown most (a + b)
  shown_both a b = rw (zero-add (shown most a), zero-add a) at (shown_sum 0 a b)
