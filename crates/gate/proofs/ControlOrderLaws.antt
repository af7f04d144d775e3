-- Laws of the order of a gate's controls. Assumes nothing.
use Prim.Native.Nat.{ℕ, suc}
use native.Mathlib.Omega.{arith}
use native.Mathlib.Nat.{mul_comm}
use mathlib.Core.Path.{◌≡◌, refl, sym, ap, ap₂, ◌∙◌, subst}
use mathlib.Core.Logic.{inl, inr, ⊎_elim}
use mathlib.Core.Bool.{false, false≢true}
use mathlib.Core.List.{List, [], ◌∷◌}
use lib.ListN.{length, set}
use borrow.Author.Tests.{ltb-false}
use Rattle.refusal.proofs.CheckLaws.{by_test}
use Rattle.wire.specs.Bits.{xor_bit, bit}
use Rattle.gate.specs.declared.gates.Gate.{Gate}
use Rattle.gate.specs.declared.gates.Gate.TheVariants.{Not, Cnot, Toffoli}
use Rattle.gate.specs.ControlOrder.{exchange_controls, SameGate, SameGates}
use Rattle.gate.specs.Gates.{target, lower_first, WellFormed, LinesFit, All}
use Rattle.gate.specs.Running.{addend, step, run}
use Rattle.gate.specs.Theorems.{ExchangeSame, SameRuns}
use Rattle.gate.proofs.WellFormedLaws.{ToffoliLines, toffoli_fits, controls_apart, toffoli_formed, toffoli_lower, lower_formed}

-- where the lower control is not first, exchanging them makes a gate on different lines well formed
exchange_formed : (L : ℕ) (g : Gate) → LinesFit L g → lower_first g ≡ false → WellFormed L (exchange_controls g)
unfolding exchange_controls lower_first
exchange_formed L (Not t) fits e = absurd (false≢true (sym e))
exchange_formed L (Cnot a t) fits e = absurd (false≢true (sym e))
exchange_formed L (Toffoli a b t) fits e =
    let l : ToffoliLines L a b t = toffoli_fits L a b t fits in
    toffoli_formed L b a t (omega (arith, ltb-false a b e, controls_apart L a b t fits)) (record {
      first_below = l.second_below;
      second_below = l.first_below;
      target_below = l.target_below;
      first_apart = l.second_apart;
      second_apart = l.first_apart;
    })

-- well-formed gates that are the same as gs but for the order of controls
pub record FormedAs (L : ℕ) (gs : List Gate) : Type 0 where
  pub gates : List Gate
  pub formed : All (WellFormed L) gates
  pub same : SameGates gs gates
  pub long : length gates ≡ length gs

-- with one gate more in front
formed_first : (L : ℕ) (gs : List Gate) (g h : Gate) → WellFormed L h → SameGate g h → FormedAs L gs → FormedAs L (g ∷ gs)
formed_first L gs g h w same rest =
    record { gates = h ∷ rest.gates; formed = (w, rest.formed); same = (same, rest.same); long = ap suc rest.long }

-- gates on different lines have such ones
pub formed_as : (L : ℕ) (gs : List Gate) → All (LinesFit L) gs → FormedAs L gs
formed_as L [] fits = record { gates = []; formed = tt; same = tt; long = refl }
formed_as L (g ∷ gs) fits =
    by_test (lower_first g)
    (λ e. formed_first L gs g g (lower_formed L g e fits.0) (inl refl) (formed_as L gs fits.1))
    (λ e. formed_first L gs g (exchange_controls g) (exchange_formed L g fits.0 e) (inr refl) (formed_as L gs fits.1))

-- well-formed gates that differ at most in the order of their controls do not differ
same_formed : (L : ℕ) (g h : Gate) → WellFormed L g → WellFormed L h → SameGate g h → g ≡ h
unfolding exchange_controls
same_formed L g h w w' = ⊎_elim sym (λ e. exchanged g w (subst (WellFormed L) e w') ∙ sym e)
  where
    exchanged : (g : Gate) → WellFormed L g → WellFormed L (exchange_controls g) → g ≡ exchange_controls g
    exchanged (Not t) w w' = refl
    exchanged (Cnot a t) w w' = refl
    exchanged (Toffoli a b t) w w' = absurd (omega (arith, toffoli_lower L a b t w, toffoli_lower L b a t w'))

pub same_gates : (L : ℕ) (gs hs : List Gate) → All (WellFormed L) gs → All (WellFormed L) hs → SameGates gs hs → gs ≡ hs
same_gates L [] [] w w' same = refl
same_gates L [] (h ∷ hs) w w' same = absurd same
same_gates L (g ∷ gs) [] w w' same = absurd same
same_gates L (g ∷ gs) (h ∷ hs) w w' same =
    ap₂ ◌∷◌ (same_formed L g h w.0 w'.0 same.0) (same_gates L gs hs w.1 w'.1 same.1)

-- exchanging its controls changes nothing that a gate does
pub exchange_same : ExchangeSame
unfolding exchange_controls step target addend
exchange_same (Not t) s = refl
exchange_same (Cnot a t) s = refl
exchange_same (Toffoli a b t) s = ap (λ (x : ℕ). set s t (xor_bit (bit s t) x)) (mul_comm (bit s b) (bit s a))

-- so gates that differ in nothing else do the same
same_step : (g h : Gate) (s : List ℕ) → SameGate g h → step g s ≡ step h s
same_step g h s = ⊎_elim (λ e. ap (λ (k : Gate). step k s) (sym e)) (λ e. sym (exchange_same g s) ∙ ap (λ (k : Gate). step k s) (sym e))

pub same_runs : SameRuns
unfolding run
same_runs [] [] s same = refl
same_runs [] (h ∷ hs) s same = absurd same
same_runs (g ∷ gs) [] s same = absurd same
same_runs (g ∷ gs) (h ∷ hs) s same = ap (run gs) (same_step g h s same.0) ∙ same_runs gs hs (step h s) same.1
