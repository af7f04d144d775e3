-- Laws of tests: what holds where several hold together, and the lowest index at which one fails. Assumes nothing.
use Prim.Native.Nat.{ℕ, zero, suc, ◌+◌, ◌-◌, ◌<◌, ◌≤◌}
use native.Mathlib.Omega.{arith}
use native.Mathlib.Nat.{zero-add, add-zero}
use mathlib.Core.Path.{◌≡◌, refl, sym, ap, ap₂, ◌∙◌}
use mathlib.Core.Bool.{Bool, true, false, cond, ◌&&◌, false≢true}
use lib.Dec.{eqb}
use borrow.Author.Tests.{eqb-true, eqb-false, eq-eqb}
use Rattle.refusal.specs.Checks.{lowest_from, lowest, all_below}

-- where both hold, each holds
pub both_first : (a b : Bool) → (a && b) ≡ true → a ≡ true
both_first true b e = refl
both_first false b e = e

pub both_second : (a b : Bool) → (a && b) ≡ true → b ≡ true
both_second true b e = e
both_second false b e = absurd (false≢true e)

-- a case on a test that keeps what it gave
pub by_test : {P : Type 0} (b : Bool) → (b ≡ true → P) → (b ≡ false → P) → P
by_test true f g = f refl
by_test false f g = g refl

-- a loop over the indices below n has found that the test holds below i
pub record Passed (test : ℕ → Bool) (n i : ℕ) : Type 0 where
  pub within : i ≤ n
  pub left : lowest_from test i (n - i) ≡ lowest test n

module _ (test : ℕ → Bool) where
  pub passed_start : (n : ℕ) → Passed test n 0
  passed_start n =
      let e : n - 0 ≡ n = omega arith in
      record { within = omega arith; left = ap (lowest_from test 0) e }

  pub passed_next : {n i : ℕ} → Passed test n i → i < n → test i ≡ true → Passed test n (i + 1)
  unfolding lowest_from
  passed_next {n} {i} p h e =
      let k : n - i ≡ suc (n - (i + 1)) = omega arith in
      let j : i + 1 ≡ suc i = omega arith in
      let turn : lowest_from test i (n - i) ≡ lowest_from test (suc i) (n - (i + 1)) = ap (lowest_from test i) k ∙ rw e refl in
      record {
        within = omega arith;
        left = ap (λ (m : ℕ). lowest_from test m (n - (i + 1))) j ∙ sym turn ∙ p.left;
      }

  -- the test fails at i: i is the lowest such index
  pub passed_fails : {n i : ℕ} → Passed test n i → i < n → test i ≡ false → lowest test n ≡ i
  unfolding lowest_from
  passed_fails {n} {i} p h e =
      let k : n - i ≡ suc (n - (i + 1)) = omega arith in
      let stop : lowest_from test i (n - i) ≡ i = ap (lowest_from test i) k ∙ rw e refl in
      sym p.left ∙ stop

  -- no index is left: the test fails at none
  pub passed_all : {n i : ℕ} → Passed test n i → n ≤ i → lowest test n ≡ n
  unfolding lowest_from
  passed_all {n} {i} p h =
      let k : n - i ≡ zero = omega arith in
      let stop : lowest_from test i (n - i) ≡ i = ap (lowest_from test i) k in
      omega (arith, sym p.left ∙ stop, p.within)

  -- of the k indices from i on the lowest at which the test fails: it holds before
  pub lowest_before : (i k : ℕ) → (i ≤ lowest_from test i k) × ((j : ℕ) → i ≤ j → j < lowest_from test i k → test j ≡ true)
  unfolding lowest_from
  lowest_before i zero = (omega arith, λ j p q. absurd (omega arith))
  lowest_before i (suc k) =
      let rest = lowest_before (suc i) k in
      by_test (test i)
      (λ e. rw e (omega (arith, rest.0), λ j p q. by_test (eqb i j) (λ d. rw (← eqb-true i j d) e) (λ d. rest.1 j (omega (arith, eqb-false i j d)) q)))
      (λ e. rw e (omega arith, λ j p q. absurd (omega arith)))

  -- and where it holds at each of them, it fails at none
  pub lowest_none : (i k : ℕ) → ((j : ℕ) → j < k → test (i + j) ≡ true) → lowest_from test i k ≡ i + k
  unfolding lowest_from
  lowest_none i zero h = sym (add-zero i)
  lowest_none i (suc k) h =
      let here : test i ≡ true = rw add-zero at (h 0 (omega arith)) in
      rw here (lowest_none (suc i) k (λ j l. let e : suc i + j ≡ i + suc j = omega arith in rw e (h (suc j) (omega arith))) ∙ omega arith)

  -- the same of all indices below k
  pub all_below_lem : (k : ℕ) → all_below test k ≡ true → (j : ℕ) → j < k → test j ≡ true
  all_below_lem k e j h = (lowest_before 0 k).1 j (omega arith) (omega (arith, eqb-true (lowest test k) k e))

  pub below_all : (k : ℕ) → ((j : ℕ) → j < k → test j ≡ true) → all_below test k ≡ true
  below_all k h =
      eq-eqb (lowest test k) k
      (lowest_none 0 k (λ j l. let z : 0 + j ≡ j = omega arith in rw z (h j l)) ∙ omega arith)

lowest_from-same : (f g : ℕ → Bool) (i k : ℕ) → ((j : ℕ) → j < k → f (i + j) ≡ g (i + j)) → lowest_from f i k ≡ lowest_from g i k
unfolding lowest_from
lowest_from-same f g i zero h = refl
lowest_from-same f g i (suc k) h =
    let here : f i ≡ g i = rw add-zero at (h 0 (omega arith)) in
    let later : lowest_from f (suc i) k ≡ lowest_from g (suc i) k =
    lowest_from-same f g (suc i) k (λ j l. let e : suc i + j ≡ i + suc j = omega arith in rw e (h (suc j) (omega arith))) in
    ap₂ (λ (b : Bool) (m : ℕ). cond b m i) here later

-- two tests that agree at every index below k fail first at the same
pub lowest_same : (f g : ℕ → Bool) (k : ℕ) → ((j : ℕ) → j < k → f j ≡ g j) → lowest f k ≡ lowest g k
lowest_same f g k h = lowest_from-same f g 0 k (λ j l. rw zero-add (h j l))
