-- Laws of numbers in decimal. Assumes nothing.
use Prim.Native.Nat.{ℕ, zero, suc, ◌+◌, ◌-◌, ◌/◌, ◌%◌, ◌^◌, ◌<◌, ◌≤◌}
use native.Mathlib.Omega.{arith}
use native.Mathlib.Nat.{pow-le-pow_right}
use mathlib.Core.Path.{◌≡◌, refl, sym, ap, ◌∙◌}
use mathlib.Core.Bool.{Bool, true, false, false≢true}
use mathlib.Core.List.{List, [], ◌∷◌}
use lib.Dec.{leb, ltb}
use lib.ListN.{length, length-append}
use borrow.Author.Tests.{le-leb, lt-leb, leb-true, leb-false, ltb-true, ltb-false}
use Rattle.io.specs.Digits.{last_digits, hex_digit_ascii, IsDigitCount}
use Rattle.refusal.specs.Checks.{lowest_from}
use Rattle.refusal.proofs.CheckLaws.{by_test}
use Rattle.line.specs.Lines.{digit_count, decimal, field}

module _ (test : ℕ → Bool) where
  -- where a test holds at i and fails at r, and r is not lower, r is higher
  apart : (i r : ℕ) → i ≤ r → test i ≡ true → test r ≡ false → i < r
  apart i r low t f =
      by_test (leb r i)
      (λ e. let same : r ≡ i = omega (arith, leb-true r i e) in absurd (false≢true (sym f ∙ ap test same ∙ t)))
      (λ e. leb-false r i e)

  -- the lowest index at which a test fails is the first behind those at which it holds
  lowest_is : (i k r : ℕ) → i ≤ r → r ≤ i + k → ((j : ℕ) → i ≤ j → j < r → test j ≡ true) → test r ≡ false → lowest_from test i k ≡ r
  unfolding lowest_from
  lowest_is i zero r low high holds fails = omega arith
  lowest_is i (suc k) r low high holds fails =
      by_test (test i)
      (λ t. rw t (lowest_is (suc i) k r (apart i r low t fails) (omega arith) (λ j l. holds j (omega arith)) fails))
      (λ f. rw f (by_test (ltb i r) (λ e. absurd (false≢true (sym f ∙ holds i (omega arith) (ltb-true i r e)))) (λ e. omega (arith, ltb-false i r e))))

  -- it is no higher than an index at which the test fails, nor than the last that is looked at
  lowest_most : (i k r : ℕ) → i ≤ r → test r ≡ false → lowest_from test i k ≤ r
  unfolding lowest_from
  lowest_most i zero r low fails = low
  lowest_most i (suc k) r low fails =
      by_test (test i)
      (λ t. rw t (lowest_most (suc i) k r (apart i r low t fails) fails))
      (λ f. rw f low)

  lowest_within : (i k : ℕ) → lowest_from test i k ≤ i + k
  unfolding lowest_from
  lowest_within i zero = omega arith
  lowest_within i (suc k) =
      by_test (test i)
      (λ t. rw t (omega (arith, lowest_within (suc i) k)))
      (λ f. rw f (omega arith))

-- a number takes at least k + 1 digits
abbrev reaches : ℕ → ℕ → Bool
reaches n k = leb (10 ^ k) n

module _ (n r : ℕ) (f : IsDigitCount 10 1 n r) where
  -- all powers of ten below the fewest digits that hold a number are at most the number
  below_fewest : (j : ℕ) → 1 ≤ j → j < r → 10 ^ j ≤ n
  below_fewest j some h =
      let less : 10 ^ j ≤ 10 ^ (r - 1) = pow-le-pow_right (omega arith) (omega arith) in
      omega (arith, less, f.2 (omega arith))

  fewest_most : n < 10 ^ 20 → r ≤ 20
  fewest_most h = by_test (leb r 20) (leb-true r 20) (λ e. absurd (omega (arith, below_fewest 20 (omega arith) (leb-false r 20 e))))

  -- the fewest digits that hold a number are as many as its digits
  digits_are : n < 10 ^ 20 → digit_count n ≡ r
  unfolding digit_count
  digits_are h =
      lowest_is (reaches n) 1 19 r f.0 (fewest_most h)
      (λ j some less. le-leb (10 ^ j) n (below_fewest j some less))
      (lt-leb (10 ^ r) n f.1)

  -- and those digits are the number in decimal
  pub decimal_is : n < 10 ^ 20 → {digits : List ℕ} → digits ≡ last_digits 10 r n → digits ≡ decimal n
  unfolding decimal
  decimal_is h e = e ∙ ap (λ (k : ℕ). last_digits 10 k n) (sym (digits_are h))

-- a number below 10 ^ k takes at most k digits
digits_below : (n k : ℕ) → 1 ≤ k → n < 10 ^ k → digit_count n ≤ k
unfolding digit_count
digits_below n k some h = lowest_most (reaches n) 1 19 k some (lt-leb (10 ^ k) n h)

-- and every number at most 20
digits_most : (n : ℕ) → digit_count n ≤ 20
unfolding digit_count
digits_most n = lowest_within (reaches n) 1 19

digits_length : (b k n : ℕ) → length (last_digits b k n) ≡ k
digits_length b zero n = refl
digits_length b (suc k) n = omega (arith, length-append (last_digits b k (n / b)) (hex_digit_ascii (n % b) ∷ []), digits_length b k (n / b))

-- a field takes a byte more than its number has digits
field_length : (n : ℕ) → length (field n) ≡ 1 + digit_count n
unfolding field decimal
field_length n = omega (arith, digits_length 10 (digit_count n) n)

pub field_most : (n : ℕ) → length (field n) ≤ 21
field_most n = omega (arith, field_length n, digits_most n)

-- the field of a 16-bit number takes at most six
pub field_small : (n : ℕ) → n < 65536 → length (field n) ≤ 6
field_small n h = omega (arith, field_length n, digits_below n 5 (omega arith) (omega arith))
