-- Laws of counting gates: all of them, or the Toffolis. Assumes nothing.
use Prim.Native.Nat.{ℕ, ◌+◌, ◌≤◌}
use native.Mathlib.Omega.{arith}
use mathlib.Core.Path.{◌≡◌, refl, ap, ◌∙◌}
use mathlib.Core.Bool.{Bool}
use mathlib.Core.List.{List, [], ◌∷◌, ◌++◌, reverse, reverse-cons}
use lib.ListN.{length}
use Rattle.gate.specs.declared.gates.Gate.{Gate}
use Rattle.gate.specs.declared.gates.Gate.TheVariants.{Not, Cnot, Toffoli}
use Rattle.gate.specs.Gates.{toffoli_count}
use Rattle.gate.specs.Running.{without, uncompute}
use Rattle.gate.proofs.UncomputeLaws.{without_append}

-- gates, where a NOT or CNOT counts c and a Toffoli 1
unfoldable pub counted : ℕ → List Gate → ℕ
counted c [] = 0
counted c (Not t ∷ gs) = c + counted c gs
counted c (Cnot a t ∷ gs) = c + counted c gs
counted c (Toffoli a b t ∷ gs) = 1 + counted c gs

-- with c 1 these are all of them
pub counted_length : (gs : List Gate) → counted 1 gs ≡ length gs
unfolding counted
counted_length [] = refl
counted_length (Not t ∷ gs) = omega (arith, counted_length gs)
counted_length (Cnot a t ∷ gs) = omega (arith, counted_length gs)
counted_length (Toffoli a b t ∷ gs) = omega (arith, counted_length gs)

-- with c 0 the Toffolis
pub counted_toffolis : (gs : List Gate) → counted 0 gs ≡ toffoli_count gs
unfolding counted toffoli_count
counted_toffolis [] = refl
counted_toffolis (Not t ∷ gs) = omega (arith, counted_toffolis gs)
counted_toffolis (Cnot a t ∷ gs) = omega (arith, counted_toffolis gs)
counted_toffolis (Toffoli a b t ∷ gs) = omega (arith, counted_toffolis gs)

module _ (c : ℕ) where
  pub counted_append : (gs hs : List Gate) → counted c (gs ++ hs) ≡ counted c gs + counted c hs
  unfolding counted
  counted_append [] hs = omega arith
  counted_append (Not t ∷ gs) hs = omega (arith, counted_append gs hs)
  counted_append (Cnot a t ∷ gs) hs = omega (arith, counted_append gs hs)
  counted_append (Toffoli a b t ∷ gs) hs = omega (arith, counted_append gs hs)

  -- gates in reverse have as many
  pub counted_reverse : (gs : List Gate) → counted c (reverse gs) ≡ counted c gs
  counted_reverse [] = refl
  counted_reverse (g ∷ gs) =
      ap (counted c) (reverse-cons g gs) ∙ omega (arith, counted_append (reverse gs) (g ∷ []), counted_reverse gs, counted_append (g ∷ []) gs)

  -- undoing has the gates that remain
  pub counted_uncompute : (out : ℕ → Bool) (gs : List Gate) → counted c (uncompute out gs) ≡ counted c (without out gs)
  unfolding uncompute
  counted_uncompute out gs = counted_reverse (without out gs)

  -- of two lists together what remains of each
  pub counted_without : (out : ℕ → Bool) (gs hs : List Gate) → counted c (without out (gs ++ hs)) ≡ counted c (without out gs) + counted c (without out hs)
  counted_without out gs hs = ap (counted c) (without_append out gs hs) ∙ counted_append (without out gs) (without out hs)

-- Toffolis of two lists together, and no more than there are gates
pub toffolis_append : (gs hs : List Gate) → toffoli_count (gs ++ hs) ≡ toffoli_count gs + toffoli_count hs
toffolis_append gs hs = omega (arith, counted_toffolis (gs ++ hs), counted_append 0 gs hs, counted_toffolis gs, counted_toffolis hs)

pub toffolis_none : toffoli_count [] ≡ 0
unfolding toffoli_count
toffolis_none = refl

pub toffolis_few : (gs : List Gate) → toffoli_count gs ≤ length gs
unfolding toffoli_count
toffolis_few [] = omega arith
toffolis_few (Not t ∷ gs) = omega (arith, toffolis_few gs)
toffolis_few (Cnot a t ∷ gs) = omega (arith, toffolis_few gs)
toffolis_few (Toffoli a b t ∷ gs) = omega (arith, toffolis_few gs)
