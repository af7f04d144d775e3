-- Laws of well-formed gates. Assumes nothing.
use Prim.Native.Nat.{ℕ, ◌<◌}
use native.Mathlib.Omega.{arith}
use mathlib.Core.Path.{◌≡◌, refl, sym, ap, ◌∙◌}
use mathlib.Core.Logic.{◌≢◌}
use mathlib.Core.Bool.{Bool, true, false, not, ◌&&◌, and-false, and_assoc}
use lib.Dec.{eqb, ltb}
use borrow.Author.Tests.{ltb-true, lt-ltb, ne_eqb, eqb-false, not-true}
use Rattle.refusal.proofs.CheckLaws.{both_first, both_second}
use Rattle.gate.specs.declared.gates.Gate.{Gate}
use Rattle.gate.specs.declared.gates.Gate.TheVariants.{Not, Cnot, Toffoli}
use Rattle.gate.specs.Gates.{target, Controls, lines_fit, lower_first, well_formed, WellFormed, LinesFit}

-- what is known of a gate's lines where they are below L and all different, but for how two controls compare
pub record CnotLines (L a t : ℕ) : Type 0 where
  pub control_below : a < L
  pub target_below : t < L
  pub apart : a ≢ t

pub record ToffoliLines (L a b t : ℕ) : Type 0 where
  pub first_below : a < L
  pub second_below : b < L
  pub target_below : t < L
  pub first_apart : a ≢ t
  pub second_apart : b ≢ t

module _ (L : ℕ) where
  apart_true : (a b : ℕ) → not (eqb a b) ≡ true → a ≢ b
  apart_true a b e = eqb-false a b (not-true _ e)

  -- a gate is well formed where its lines fit and its lower control is first
  formed_fits : (g : Gate) → WellFormed L g → LinesFit L g
  unfolding well_formed
  formed_fits g w = both_second (lower_first g) (lines_fit L g) w

  pub lower_formed : (g : Gate) → lower_first g ≡ true → LinesFit L g → WellFormed L g
  unfolding well_formed
  lower_formed g e fits = rw e fits

  pub not_line : (t : ℕ) → WellFormed L (Not t) → t < L
  unfolding lines_fit
  not_line t w = ltb-true t L (formed_fits (Not t) w)

  pub cnot_lines : (a t : ℕ) → WellFormed L (Cnot a t) → CnotLines L a t
  unfolding lines_fit
  cnot_lines a t w =
      let fits = formed_fits (Cnot a t) w in
      let below : (ltb a L && ltb t L) ≡ true = both_first (ltb a L && ltb t L) (not (eqb a t)) fits in
      record {
        control_below = ltb-true a L (both_first (ltb a L) (ltb t L) below);
        target_below = ltb-true t L (both_second (ltb a L) (ltb t L) below);
        apart = apart_true a t (both_second (ltb a L && ltb t L) (not (eqb a t)) fits);
      }

  -- a Toffoli's are known in either order of its controls
  pub toffoli_fits : (a b t : ℕ) → LinesFit L (Toffoli a b t) → ToffoliLines L a b t
  unfolding lines_fit
  toffoli_fits a b t fits =
      let ab : Bool = ltb a L && ltb b L in
      let ends : Bool = not (eqb a t) && not (eqb b t) in
      let below : (ab && ltb t L) ≡ true = both_first (ab && ltb t L) (not (eqb a b) && ends) fits in
      let controls : ab ≡ true = both_first ab (ltb t L) below in
      let apart : (not (eqb a b) && ends) ≡ true = both_second (ab && ltb t L) (not (eqb a b) && ends) fits in
      let from_target : ends ≡ true = both_second (not (eqb a b)) ends apart in
      record {
        first_below = ltb-true a L (both_first (ltb a L) (ltb b L) controls);
        second_below = ltb-true b L (both_second (ltb a L) (ltb b L) controls);
        target_below = ltb-true t L (both_second ab (ltb t L) below);
        first_apart = apart_true a t (both_first (not (eqb a t)) (not (eqb b t)) from_target);
        second_apart = apart_true b t (both_second (not (eqb a t)) (not (eqb b t)) from_target);
      }

  pub controls_apart : (a b t : ℕ) → LinesFit L (Toffoli a b t) → a ≢ b
  unfolding lines_fit
  controls_apart a b t fits =
      let ends : Bool = not (eqb a t) && not (eqb b t) in
      apart_true a b (both_first (not (eqb a b)) ends (both_second ((ltb a L && ltb b L) && ltb t L) (not (eqb a b) && ends) fits))

  pub toffoli_lines : (a b t : ℕ) → WellFormed L (Toffoli a b t) → ToffoliLines L a b t
  toffoli_lines a b t w = toffoli_fits a b t (formed_fits (Toffoli a b t) w)

  -- the lower control is the first
  pub toffoli_lower : (a b t : ℕ) → WellFormed L (Toffoli a b t) → a < b
  unfolding well_formed lower_first
  toffoli_lower a b t w = ltb-true a b (both_first (ltb a b) (lines_fit L (Toffoli a b t)) w)

  -- the tests of a gate's lines, put together step by step
  pub cnot_tests : (a t : ℕ) {below r : Bool} → below ≡ (ltb a L && ltb t L) → r ≡ (below && not (eqb a t)) → r ≡ well_formed L (Cnot a t)
  unfolding well_formed lower_first lines_fit
  cnot_tests a t e₁ e₂ = e₂ ∙ ap (λ (x : Bool). x && not (eqb a t)) e₁

  -- of the first control one comparison is enough: what is lower than a line is a line, and another one
  first_fits : (a b : ℕ) (bounded ends : Bool)
      → ((ltb b L && bounded) && (ltb a b && ends)) ≡ (ltb a b && (((ltb a L && ltb b L) && bounded) && (not (eqb a b) && ends)))
  first_fits a b bounded ends = go (ltb a b) (ltb b L) refl refl
    where
      go : (x y : Bool) → x ≡ ltb a b → y ≡ ltb b L → ((y && bounded) && (x && ends)) ≡ (x && (((ltb a L && y) && bounded) && (not (eqb a b) && ends)))
      go true true e f =
          let below : a < b = ltb-true a b (sym e) in
          rw (lt-ltb a L (omega (arith, ltb-true b L (sym f))), ne_eqb a b (λ p. omega arith)) refl
      go true false e f = rw (and-false (ltb a L)) refl
      go false y e f = and-false (y && bounded)

  pub toffoli_tests : (a b t : ℕ) → (((ltb b L && ltb t L) && ltb a b) && (not (eqb a t) && not (eqb b t))) ≡ well_formed L (Toffoli a b t)
  unfolding well_formed lower_first lines_fit
  toffoli_tests a b t =
      and_assoc (ltb b L && ltb t L) (ltb a b) (not (eqb a t) && not (eqb b t)) ∙ first_fits a b (ltb t L) (not (eqb a t) && not (eqb b t))

  -- gates on such lines are well formed, a Toffoli's lower control first
  pub not_formed : (t : ℕ) → t < L → WellFormed L (Not t)
  unfolding well_formed lower_first lines_fit
  not_formed t h = lt-ltb t L h

  pub cnot_formed : (a t : ℕ) → CnotLines L a t → WellFormed L (Cnot a t)
  unfolding well_formed lower_first lines_fit
  cnot_formed a t p = simp (lt-ltb a L p.control_below, lt-ltb t L p.target_below, ne_eqb a t p.apart)

  pub toffoli_formed : (a b t : ℕ) → a < b → ToffoliLines L a b t → WellFormed L (Toffoli a b t)
  unfolding well_formed lower_first lines_fit
  toffoli_formed a b t lower p =
      simp (
        lt-ltb a b lower,
        lt-ltb a L p.first_below,
        lt-ltb b L p.second_below,
        lt-ltb t L p.target_below,
        ne_eqb a b (λ q. omega arith),
        ne_eqb a t p.first_apart,
        ne_eqb b t p.second_apart,
      )

  -- the target is one of the lines
  pub target_below : (g : Gate) → WellFormed L g → target g < L
  unfolding target
  target_below (Not t) w = not_line t w
  target_below (Cnot a t) w = (cnot_lines a t w).target_below
  target_below (Toffoli a b t) w = (toffoli_lines a b t w).target_below

  -- and none of the controls
  pub target_free : (g : Gate) → WellFormed L g → Controls (λ c. c ≢ target g) g
  unfolding target
  target_free (Not t) w = tt
  target_free (Cnot a t) w = (cnot_lines a t w).apart
  target_free (Toffoli a b t) w = ((toffoli_lines a b t w).first_apart, (toffoli_lines a b t w).second_apart)
