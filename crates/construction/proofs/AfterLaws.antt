-- Laws of what a start is and of what shares leave: no start is left out, and no line is left open. Assumes nothing.
use Prim.Native.Nat.{ℕ, ◌+◌, ◌-◌, ◌<◌, ◌≤◌}
use native.Mathlib.Omega.{arith}
use mathlib.Core.Path.{◌≡◌, refl, sym, ap, ◌∙◌}
use mathlib.Core.List.{List}
use lib.ListN.{length, get_or, take, drop, replicate, length-take, length-drop, get_or-replicate}
use lib.Seq.{get_or-take, get_or-drop, ext_get_or}
use lib.Dec.{ltb}
use borrow.Author.Tests.{ltb-true, ltb-false}
use Rattle.wire.specs.Bits.{bit}
use Rattle.wire.proofs.BitLaws.{bits_count, bits_are}
use Rattle.refusal.proofs.CheckLaws.{by_test}
use Rattle.wire.proofs.ListLaws.{tabulate_length, tabulate_at}
use Rattle.construction.specs.Theorems.{Zeros, EveryStart, Start, After, targets_after, AfterSays}

pub every_start : EveryStart
every_start lines s e = record { long = bits_count lines s e; bits = bits_are lines s e }

-- two lists that agree on a part of their indices have that part in common
pub same_front : (n : ℕ) (s t : List ℕ) → length s ≡ length t → ((i : ℕ) → i < n → bit s i ≡ bit t i) → take n s ≡ take n t
same_front n s t l h =
    ext_get_or 0 (take n s) (take n t) (omega (arith, length-take n s, length-take n t))
    (λ i b. let below : i < n = omega (arith, length-take n s) in get_or-take n s i 0 below ∙ h i below ∙ sym (get_or-take n t i 0 below))

pub same_end : (n : ℕ) (s t : List ℕ) → length s ≡ length t → ((i : ℕ) → n ≤ i → i < length s → bit s i ≡ bit t i) → drop n s ≡ drop n t
same_end n s t l h =
    ext_get_or 0 (drop n s) (drop n t) (omega (arith, length-drop n s, length-drop n t))
    (λ i b. get_or-drop n s i 0 ∙ h (n + i) (omega arith) (omega (arith, length-drop n s)) ∙ sym (get_or-drop n t i 0))

module _ (n m w : ℕ) (v : ℕ → ℕ) (j : ℕ) (start after : List ℕ) (s : Start (n + m + w) start) (a : After n m w v j start after) where
  -- the targets of any lines, one by one
  target_at : (l : List ℕ) (k : ℕ) → k < m → get_or (take m (drop n l)) k 0 ≡ bit l (n + k)
  target_at l k h = get_or-take m (drop n l) k 0 h ∙ get_or-drop n l k 0

  targets_count : (l : List ℕ) → length l ≡ length start → length (take m (drop n l)) ≡ m
  targets_count l e = omega (arith, length-take m (drop n l), length-drop n l, s.long)

  waiting_same : drop j (take m (drop n after)) ≡ drop j (take m (drop n start))
  waiting_same =
      let c : length (take m (drop n after)) ≡ m = targets_count after a.long in
      same_end j (take m (drop n after)) (take m (drop n start)) (c ∙ sym (targets_count start refl))
      (λ k q h. target_at after k (omega arith) ∙ a.waiting k q (omega arith) ∙ sym (target_at start k (omega arith)))

  -- work lines that are zero as a list are zero one by one
  zeros : drop (n + m) start ≡ replicate w 0 → Zeros (n + m) w start
  zeros z i q r =
      let at : n + m + (i - (n + m)) ≡ i = omega arith in
      ap (bit start) (sym at) ∙ sym (get_or-drop (n + m) start (i - (n + m)) 0) ∙ ap (λ (l : List ℕ). get_or l (i - (n + m)) 0) z
      ∙ get_or-replicate w (i - (n + m)) 0 0 (omega arith)

  targets_are : drop (n + m) start ≡ replicate w 0 → take m (drop n after) ≡ targets_after n m v j start
  unfolding targets_after
  targets_are z =
      let c : length (take m (drop n after)) ≡ m = targets_count after a.long in
      ext_get_or 0 (take m (drop n after)) (targets_after n m v j start) (c ∙ sym (tabulate_length _ m))
      (λ k h.
      target_at after k (omega arith)
      ∙ by_test (ltb k j)
      (λ t. a.over (zeros z) k (ltb-true k j t) ∙ sym (tabulate_at _ m k 0 (omega arith) ∙ rw t refl))
      (λ t. a.waiting k (ltb-false k j t) (omega arith) ∙ sym (tabulate_at _ m k 0 (omega arith) ∙ rw t refl)))

pub after_says : AfterSays
after_says n m w v j start after s a =
    record {
      inputs = same_front n after start a.long a.inputs;
      work = same_end (n + m) after start a.long (λ i q r. a.work i q);
      waiting = waiting_same n m w v j start after s a;
      targets = targets_are n m w v j start after s a;
    }
