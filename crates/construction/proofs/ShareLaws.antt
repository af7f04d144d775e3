-- Laws of an output's share (001, Theorem 2). Assumes nothing.
use Prim.Native.Nat.{ℕ}
use mathlib.Core.Path.{◌≡◌, refl, sym, ap, ◌∙◌}
use mathlib.Core.Logic.{◌≢◌}
use mathlib.Core.List.{List}
use lib.ListN.{length}
use lib.Dec.{eqb}
use borrow.Author.Tests.{eq-eqb, ne_eqb}
use Rattle.wire.specs.Bits.{bit, Bits}
use Rattle.gate.specs.declared.gates.Gate.{Gate}
use Rattle.gate.specs.Gates.{WellFormed, All}
use Rattle.gate.specs.Running.{run, without, uncompute}
use Rattle.gate.proofs.AllLaws.{all_append, all_reverse}
use Rattle.gate.proofs.UncomputeLaws.{all_without, without_target}
use Rattle.gate.proofs.StepLaws.{run_append, run_other, uncomputes}
use Rattle.node.specs.Exprs.{Expr}
use Rattle.construction.specs.Theorems.{Zeros, Computes}
use Rattle.construction.proofs.Numbers.{most, build_from, share_from, ApartFrom}
use Rattle.construction.proofs.LineLaws.{build_formed, target_no_control_from}
use Rattle.construction.proofs.ComputeLaws.{build_computes_from}

-- every gate of a share is well formed
pub share_formed_from : (n : ℕ) (e : Expr) (t f L : ℕ) → ApartFrom n e t f L → All (WellFormed L) (share_from e t f)
unfolding share_from uncompute
share_formed_from n e t f L p =
    let formed : All (WellFormed L) (build_from e t f) = build_formed n e t f L p in
    all_append _ (build_from e t f) _ formed (all_reverse _ (without (eqb t) (build_from e t f)) (all_without _ (eqb t) (build_from e t f) formed))

-- from every start, a share leaves every line but its target as it started: 001, Theorem 2
pub share_restores_from : (n : ℕ) (e : Expr) (t f : ℕ) (s : List ℕ) → ApartFrom n e t f (length s) → Bits s → (i : ℕ) → i ≢ t → bit (run (share_from e t f) s) i ≡ bit s i
unfolding share_from
share_restores_from n e t f s p b i ne =
    uncomputes (eqb t) (build_from e t f) s (build_formed n e t f (length s) p) (target_no_control_from n e t f (length s) p) b i (ne_eqb t i (λ q. ne (sym q)))

-- and on its target it leaves what building computes
pub share_computes : (n : ℕ) (e : Expr) (t f : ℕ) (s : List ℕ) → ApartFrom n e t f (length s) → Bits s → Zeros f (most e) s → Computes (share_from e t f) n e t s
unfolding share_from uncompute
share_computes n e t f s p b zs =
    let gs : List Gate = build_from e t f in
    ap (λ (r : List ℕ). bit r t) (run_append gs (uncompute (eqb t) gs) s)
    ∙ run_other (uncompute (eqb t) gs) (run gs s) t (all_reverse _ (without (eqb t) gs) (without_target (eqb t) gs t (eq-eqb t t refl)))
    ∙ build_computes_from n e t f s p b zs
