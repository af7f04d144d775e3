-- Laws of reading gates. Assumes nothing.
use Prim.Native.Nat.{ℕ, ◌+◌, ◌*◌, ◌<◌}
use native.Mathlib.Omega.{arith}
use mathlib.Core.Path.{◌≡◌, refl, sym, ap, ap₂, ◌∙◌}
use mathlib.Core.Bool.{Bool, true, false, ◌&&◌}
use mathlib.Core.List.{List}
use lib.ListN.{get_or}
use lib.Dec.{eqb}
use Rattle.refusal.specs.Answers.{result}
use Rattle.wire.specs.Bytes.{at16}
use Rattle.refusal.specs.declared.causes.Refusal.TheVariants as cause
use Rattle.refusal.proofs.AnswerLaws.{checked, failed, failed_place}
use Rattle.refusal.proofs.CheckLaws.{by_test, both_second}
use Rattle.gate.specs.declared.gates.Gate.{Gate}
use Rattle.gate_bytes.specs.declared.reader.GateRead.{GateRead}
use Rattle.gate_bytes.specs.declared.reader.GateRead.TheVariants.{Good, Bad}
use Rattle.gate.specs.Gates.{target, well_formed, WellFormed}
use Rattle.gate_bytes.specs.GateBytes.{gate_of, fields_fit, gate_at, gate_fits}
use Rattle.gate_bytes.specs.declared.fields.Fields.{Fields}
use Rattle.gate_bytes.specs.Steps.{fields_at, read_gate, gate_read}

module _ (L : ℕ) (body : List ℕ) (i : ℕ) where
  module _ {r : GateRead} (e : gate_read r ≡ read_gate L body i) where
    -- a gate that was read is in order
    pub read_good : {g : Gate} → r ≡ Good g → gate_fits L body i ≡ true
    unfolding read_gate
    read_good {g} q = checked g (gate_fits L body i) (cause.Gate i) (result (gate_at body i)) (sym e ∙ ap gate_read q)

    -- a gate that was refused is not, and its index is reported
    pub read_bad : {k : ℕ} → r ≡ Bad k → gate_fits L body i ≡ false
    unfolding read_gate
    read_bad {k} q = failed (gate_at body i) (gate_fits L body i) (cause.Gate i) 12 k (sym e ∙ ap gate_read q)

    pub read_index : {k : ℕ} → r ≡ Bad k → k ≡ i
    unfolding read_gate
    read_index {k} q = sym (failed_place (gate_at body i) (gate_fits L body i) (cause.Gate i) 12 k (sym e ∙ ap gate_read q))

  -- a gate that passes the test of cause 12 is well formed
  pub fits_formed : gate_fits L body i ≡ true → WellFormed L (gate_at body i)
  unfolding gate_fits
  fits_formed e =
      both_second
      (fields_fit (get_or body (8 * i) 0) (get_or body (8 * i + 1) 0) (at16 body (8 * i + 2)) (at16 body (8 * i + 4)))
      (well_formed L (gate_at body i)) e

-- the gate that is made of fields read, and the test of it
pub gate_read_at : (body : List ℕ) (i : ℕ) {f : Fields} {g : Gate} → f ≡ fields_at body i → g ≡ gate_of f.kind f.first f.second f.target → g ≡ gate_at body i
unfolding gate_at
gate_read_at body i e h = h ∙ ap (λ (f : Fields). gate_of f.kind f.first f.second f.target) e

pub fits_read : (L : ℕ) (body : List ℕ) (i : ℕ) {f : Fields} {g : Gate} {fit formed : Bool} → f ≡ fields_at body i → g ≡ gate_of f.kind f.first f.second f.target
    → fit ≡ fields_fit f.kind f.blank f.first f.second → formed ≡ well_formed L g → (fit && formed) ≡ gate_fits L body i
unfolding gate_fits
fits_read L body i e h fits formed =
    ap₂ ◌&&◌ (fits ∙ ap (λ (f : Fields). fields_fit f.kind f.blank f.first f.second) e) (formed ∙ ap (well_formed L) (gate_read_at body i e h))

-- a gate's target stands in the same field, whatever its kind
pub target_field : (body : List ℕ) (i : ℕ) → target (gate_at body i) ≡ at16 body (8 * i + 6)
unfolding gate_at target
target_field body i =
    by_test (eqb (get_or body (8 * i) 0) 1) (λ e. rw e refl)
    (λ e. by_test (eqb (get_or body (8 * i) 0) 2) (λ f. rw (e, f) refl) (λ f. rw (e, f) refl))

-- a gate is read from its eight bytes alone
module _ (s s' : List ℕ) (i i' : ℕ) (same : (j : ℕ) → j < 8 → get_or s (8 * i + j) 0 ≡ get_or s' (8 * i' + j) 0) where
  byte : (j n n' : ℕ) → j < 8 → n ≡ 8 * i + j → n' ≡ 8 * i' + j → get_or s n 0 ≡ get_or s' n' 0
  byte j n n' h e e' = ap (λ (m : ℕ). get_or s m 0) e ∙ same j h ∙ sym (ap (λ (m : ℕ). get_or s' m 0) e')

  field : (j n n' : ℕ) → j + 1 < 8 → n ≡ 8 * i + j → n' ≡ 8 * i' + j → at16 s n ≡ at16 s' n'
  field j n n' h e e' =
      ap₂ (λ (a b : ℕ). a + 256 * b) (byte j n n' (omega arith) e e') (byte (j + 1) (n + 1) (n' + 1) h (omega arith) (omega arith))

  pub gate_same : gate_at s i ≡ gate_at s' i'
  unfolding gate_at
  gate_same =
      ap₂ (λ (kind a : ℕ). gate_of kind a (at16 s (8 * i + 4)) (at16 s (8 * i + 6)))
      (byte 0 (8 * i) (8 * i') (omega arith) (omega arith) (omega arith))
      (field 2 (8 * i + 2) (8 * i' + 2) (omega arith) refl refl)
      ∙ ap₂ (gate_of (get_or s' (8 * i') 0) (at16 s' (8 * i' + 2)))
      (field 4 (8 * i + 4) (8 * i' + 4) (omega arith) refl refl)
      (field 6 (8 * i + 6) (8 * i' + 6) (omega arith) refl refl)
