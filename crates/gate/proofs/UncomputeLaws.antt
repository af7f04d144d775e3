-- Laws of leaving gates out and of undoing. Assumes nothing.
use Prim.Native.Nat.{ℕ, ◌≤◌}
use native.Mathlib.Omega.{arith}
use mathlib.Core.Path.{◌≡◌, refl, sym, ap, ◌∙◌}
use mathlib.Core.Logic.{◌≢◌}
use mathlib.Core.Bool.{Bool, true, false, false≢true}
use mathlib.Core.List.{List, [], ◌∷◌, ◌++◌, reverse, reverse-append}
use lib.ListN.{length, length-reverse}
use lib.Dec.{eqb}
use borrow.Author.Tests.{eqb-true}
use Rattle.gate.specs.declared.gates.Gate.{Gate}
use Rattle.gate.specs.Gates.{target, All}
use Rattle.gate.specs.Running.{without, uncompute}
use Rattle.refusal.proofs.CheckLaws.{by_test}

-- a case on whether the first gate is left out
pub without_at : (out : ℕ → Bool) (g : Gate) (gs : List Gate) (P : List Gate → Type 0)
    → (out (target g) ≡ true → P (without out gs)) → (out (target g) ≡ false → P (g ∷ without out gs)) → P (without out (g ∷ gs))
unfolding without
without_at out g gs P t f = by_test (out (target g)) (λ e. rw (e, without) (t e)) (λ e. rw (e, without) (f e))

-- what holds of all gates holds of those that are kept
pub all_without : (P : Gate → Type 0) (out : ℕ → Bool) (gs : List Gate) → All P gs → All P (without out gs)
unfolding without
all_without P out [] a = tt
all_without P out (g ∷ gs) a =
    without_at out g gs (All P) (λ e. all_without P out gs a.1) (λ e. (a.0, all_without P out gs a.1))

-- a line that is left out is no target of a gate that is kept
pub without_target : (out : ℕ → Bool) (gs : List Gate) (i : ℕ) → out i ≡ true → All (λ g. i ≢ target g) (without out gs)
unfolding without
without_target out [] i o = tt
without_target out (g ∷ gs) i o =
    let rest : All (λ h. i ≢ target h) (without out gs) = without_target out gs i o in
    without_at out g gs (All (λ h. i ≢ target h)) (λ e. rest) (λ e. (λ p. false≢true (sym (ap out p ∙ e) ∙ o), rest))

-- the gates that remain of two lists
pub without_append : (out : ℕ → Bool) (gs hs : List Gate) → without out (gs ++ hs) ≡ without out gs ++ without out hs
unfolding without
without_append out [] hs = refl
without_append out (g ∷ gs) hs =
    by_test (out (target g))
    (λ e. rw e (without_append out gs hs))
    (λ e. rw e (ap (λ (l : List Gate). g ∷ l) (without_append out gs hs)))

-- where line t is no gate's target, leaving it out leaves every gate
pub without_none : (t : ℕ) (gs : List Gate) → All (λ g. t ≢ target g) gs → without (eqb t) gs ≡ gs
unfolding without
without_none t [] a = refl
without_none t (g ∷ gs) a =
    without_at (eqb t) g gs (λ (hs : List Gate). hs ≡ g ∷ gs)
    (λ e. absurd (a.0 (eqb-true t (target g) e)))
    (λ e. ap (λ (hs : List Gate). g ∷ hs) (without_none t gs a.1))

single : (out : ℕ → Bool) (g : Gate) → reverse (without out (g ∷ [])) ≡ without out (g ∷ [])
unfolding without
single out g = by_test (out (target g)) (λ e. rw e refl) (λ e. rw e refl)

-- undoing one gate more undoes it first
pub uncompute_snoc : (out : ℕ → Bool) (gs : List Gate) (g : Gate) → uncompute out (gs ++ (g ∷ [])) ≡ without out (g ∷ []) ++ uncompute out gs
unfolding uncompute
uncompute_snoc out gs g =
    ap reverse (without_append out gs (g ∷ []))
    ∙ reverse-append (without out gs) (without out (g ∷ []))
    ∙ ap (λ (l : List Gate). l ++ reverse (without out gs)) (single out g)

-- as many gates are undone as remain
pub uncompute_length : (out : ℕ → Bool) (gs : List Gate) → length (uncompute out gs) ≡ length (without out gs)
unfolding uncompute
uncompute_length out gs = length-reverse (without out gs)

-- no more gates remain than there were
pub without_few : (out : ℕ → Bool) (gs : List Gate) → length (without out gs) ≤ length gs
unfolding without
without_few out [] = omega arith
without_few out (g ∷ gs) =
    let few : length (without out gs) ≤ length gs = without_few out gs in
    by_test (out (target g)) (λ e. rw e (omega arith)) (λ e. rw e (omega arith))

-- a gate that is left out, and one that is kept
pub one_out : (out : ℕ → Bool) (g : Gate) → out (target g) ≡ true → without out (g ∷ []) ≡ []
unfolding without
one_out out g e = rw e refl

pub one_kept : (out : ℕ → Bool) (g : Gate) → out (target g) ≡ false → without out (g ∷ []) ≡ g ∷ []
unfolding without
one_kept out g e = rw e refl
