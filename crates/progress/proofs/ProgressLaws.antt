-- Laws of appending the construction's gates: pieces that are appended go together, and a tree is built by numbers. Assumes nothing.
use Prim.Native.Nat.{ℕ, ◌+◌, ◌≤◌, ◌<◌, min, max}
use native.Mathlib.Omega.{arith}
use mathlib.Core.Path.{◌≡◌, refl, sym, ap, ◌∙◌}
use mathlib.Core.Logic.{◌≢◌}
use mathlib.Core.List.{List, [], ◌∷◌, ◌++◌}
use lib.ListN.{length}
use Rattle.gate.specs.declared.gates.Gate.{Gate}
use Rattle.gate.specs.declared.gates.Gate.TheVariants.{Cnot, Toffoli}
use Rattle.areas.proofs.WriterLaws.{put_length}
use Rattle.areas.proofs.AreaLaws.{stored_none, stored_then}
use Rattle.appending.specs.Appending.{Appended}
use Rattle.appending.specs.declared.writer.GateWriter.{GateWriter}
use Rattle.node.specs.Exprs.{Expr}
use Rattle.construction.specs.Pools.{all_free}
use Rattle.construction.specs.Construction.{and_gate}
use Rattle.construction.specs.Steps.{fresh}
use Rattle.construction.proofs.Numbers.{held, build_from}
use Rattle.construction.proofs.AndLaws.{and_by}
use Rattle.construction.proofs.PoolLaws.{reached_gates, reached_free, start_free}
use Rattle.progress.specs.Progress.{Wrote}

-- nothing is appended
pub appended_none : (w : GateWriter) → Appended [] w w
appended_none w = record { stored = stored_none w.count w.area.now; same_area = refl }

-- gates are appended, and others behind them
pub appended_then : {gs hs : List Gate} {u v w : GateWriter} → Appended gs u v → Appended hs v w → Appended (gs ++ hs) u w
appended_then a b = record { stored = stored_then a.stored b.stored; same_area = b.same_area ∙ a.same_area }

-- the area is as long as before
pub appended_length : {gs : List Gate} {u v : GateWriter} → Appended gs u v → length v.area.now ≡ length u.area.now
appended_length {gs} {u} a = ap (λ (l : List ℕ). length l) a.stored.area_to ∙ put_length u.area.now u.count gs

-- a tree is built, by numbers
pub record Written (e : Expr) (t f r : ℕ) (u v : GateWriter) : Type 0 where
  pub appended : Appended (build_from e t f) u v
  pub free_to : r ≡ f + held e

-- that is, as the construction does it
module _ {e : Expr} {t f r : ℕ} {u v : GateWriter} where
  pub by_numbers : Wrote e t f r u v → Written e t f r u v
  by_numbers w =
      record {
        appended = rw (reached_gates e t (fresh f) (start_free f)) at (w.appends (all_free f) (fresh f) (start_free f));
        free_to = sym (w.leaves (all_free f) (fresh f) (start_free f)) ∙ reached_free e t (fresh f) (start_free f);
      }

  pub wrote : Written e t f r u v → Wrote e t f r u v
  wrote w = record {
    appends = λ q h low. rw (reached_gates e t h low) w.appended;
    leaves = λ q h low. reached_free e t h low ∙ sym w.free_to;
  }

appended_as : {g h : Gate} {u v : GateWriter} → g ≡ h → Appended (g ∷ []) u v → Appended (h ∷ []) u v
appended_as e a = rw e at a

-- the gate of an AND is appended, by how its controls stand to each other
module _ {c d t : ℕ} {u v : GateWriter} where
  pub gate_same : c ≡ d → Appended (Cnot c t ∷ []) u v → Appended (and_gate c d t ∷ []) u v
  gate_same e = appended_as (and_by c d t (λ g. Cnot c t ≡ g) (λ q. refl) (λ q. absurd (q e)))

  pub gate_first : c < d → Appended (Toffoli c d t ∷ []) u v → Appended (and_gate c d t ∷ []) u v
  gate_first h =
      let low : min c d ≡ c = omega arith in
      let high : max c d ≡ d = omega arith in
      appended_as (and_by c d t (λ g. Toffoli c d t ≡ g) (λ q. absurd (omega arith)) (λ q. rw (low, high) refl))

  pub gate_second : c ≢ d → d ≤ c → Appended (Toffoli d c t ∷ []) u v → Appended (and_gate c d t ∷ []) u v
  gate_second ne h =
      let low : min c d ≡ d = omega arith in
      let high : max c d ≡ c = omega arith in
      appended_as (and_by c d t (λ g. Toffoli d c t ≡ g) (λ q. absurd (ne q)) (λ q. rw (low, high) refl))
