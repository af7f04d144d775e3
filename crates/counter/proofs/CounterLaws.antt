-- Laws of the number that says how far counting has come. Assumes nothing.
use Prim.Native.Nat.{ℕ, ◌+◌, ◌-◌, ◌*◌, ◌<◌, ◌≤◌}
use native.Mathlib.Omega.{arith}
use mathlib.Core.Path.{◌≡◌, refl}
use lib.Dec.{ltb}
use borrow.Author.Tests.{lt-ltb, le-ltb, ltb-false}
use Rattle.refusal.proofs.CheckLaws.{by_test}
use Rattle.wire.specs.Limits.{most_counted}
use Rattle.counter.specs.Counter.{one_gate, packed_counts, gates_in, most_in, used_in, once_more, most_passed}

-- three numbers are read off one
module _ (gates : ℕ) {most used s : ℕ} (e : s ≡ packed_counts gates most used) (h : most < 65536) (k : used < 65536) where
  pub packed_gates : gates_in s ≡ gates
  unfolding gates_in most_in used_in
  packed_gates = omega arith

  pub packed_most : most_in s ≡ most
  unfolding gates_in most_in used_in
  packed_most = omega arith

  pub packed_used : used_in s ≡ used
  unfolding gates_in most_in used_in
  packed_used = omega arith

pub most_low : (s : ℕ) → most_in s < 65536
unfolding most_in
most_low s = omega arith

pub used_low : (s : ℕ) → used_in s < 65536
unfolding used_in
used_low s = omega arith

-- further gates leave the lines as they are
module _ (s w : ℕ) {r : ℕ} (e : r ≡ s + w * one_gate) where
  pub more_gates : gates_in r ≡ gates_in s + w
  unfolding gates_in most_in used_in
  more_gates = omega arith

  pub same_most : most_in r ≡ most_in s
  unfolding gates_in most_in used_in
  same_most = omega arith

  pub same_used : used_in r ≡ used_in s
  unfolding gates_in most_in used_in
  same_used = omega arith

-- and overflow nothing
pub no_overflow : (s w : ℕ) → gates_in s ≤ most_passed → w ≤ 2 → s + w * one_gate < 18446744073709551616
unfolding gates_in
no_overflow s w few low = omega arith

-- gates once more: a number above the largest that is shown stays, and to any other those since `from` are added
module _ (from gates : ℕ) where
  pub more_over : most_counted < gates → gates ≡ once_more from gates
  more_over h = rw (lt-ltb most_counted gates h) refl

  pub more_within : gates ≤ most_counted → gates + (gates - from) ≡ once_more from gates
  more_within h = rw (le-ltb most_counted gates h) refl

-- they are few where the gates are
pub more_few : (from : ℕ) {gates : ℕ} → gates ≤ most_passed → once_more from gates ≤ most_passed
more_few from {gates} h =
    by_test (ltb most_counted gates) (λ t. rw t h) (λ t. rw t (omega (arith, ltb-false most_counted gates t)))
