-- Laws of written gates: they read back, and bytes whose gates are in order are the writing of those gates. Assumes nothing.
use Prim.Native.Nat.{ℕ, zero, suc, ◌+◌, ◌*◌, ◌<◌, ◌≤◌}
use native.Mathlib.Omega.{arith}
use native.Mathlib.Nat.{add_assoc}
use mathlib.Core.Path.{◌≡◌, sym, ap, ap₂, ◌∙◌}
use mathlib.Core.Bool.{Bool, true, cond, ◌&&◌}
use mathlib.Core.List.{List, [], ◌∷◌, ◌++◌}
use lib.ListN.{length, get_or, drop}
use lib.Seq.{ext_get_or, get_or-append-add}
use lib.Dec.{eqb}
use borrow.Author.Tests.{eqb-true}
use Rattle.wire.specs.Bytes.{at16, Bytes}
use Rattle.wire.specs.Lists.{tabulate}
use Rattle.wire.proofs.ByteLaws.{number16, drop16, drop_fields}
use Rattle.refusal.proofs.CheckLaws.{both_first, both_second, by_test}
use Rattle.wire.proofs.ListLaws.{tabulate_length, tabulate_at, flat_only}
use Rattle.gate.specs.declared.gates.Gate.{Gate}
use Rattle.gate.specs.declared.gates.Gate.TheVariants.{Not, Cnot, Toffoli}
use Rattle.gate.specs.Gates.{well_formed, WellFormed, All}
use Rattle.gate_bytes.specs.GateBytes.{field_bytes, gate_bytes, gates_bytes, gate_of, fields_fit, gate_at, gate_fits}
use Rattle.gate_bytes.proofs.ByteLaws.{gate_length, gates_flat}
use Rattle.gate.proofs.WellFormedLaws.{CnotLines, ToffoliLines, not_line, cnot_lines, toffoli_lines}

-- what is read behind a gate is read in what follows it
module _ (g : Gate) (rest : List ℕ) (i : ℕ) where
  place : 8 * suc i ≡ length (gate_bytes g) + 8 * i
  place = omega (arith, gate_length g)

  at_behind : gate_at (gate_bytes g ++ rest) (suc i) ≡ gate_at rest i
  unfolding gate_at
  at_behind = simp (place, add_assoc, get_or-append-add)

  fits_behind : (L : ℕ) → gate_fits L (gate_bytes g ++ rest) (suc i) ≡ gate_fits L rest i
  unfolding gate_fits
  fits_behind L = rw at_behind (simp (place, add_assoc, get_or-append-add))

-- on at most 65,536 lines, the number of a line fits its field
module _ (L : ℕ) (small : L ≤ 65536) where
  -- the first gate reads back
  at_first : (g : Gate) (rest : List ℕ) → WellFormed L g → gate_at (gate_bytes g ++ rest) 0 ≡ g
  unfolding gate_at gate_bytes
  at_first (Not t) rest w = ap Not (number16 t (omega (arith, not_line L t w)))
  at_first (Cnot a t) rest w =
      let l : CnotLines L a t = cnot_lines L a t w in
      ap₂ Cnot (number16 a (omega arith)) (number16 t (omega arith))
  at_first (Toffoli a b t) rest w =
      let l : ToffoliLines L a b t = toffoli_lines L a b t w in
      rw (number16 a (omega arith), number16 b (omega arith), number16 t (omega arith))

  -- and is found in order
  fits_first : (g : Gate) (rest : List ℕ) → WellFormed L g → gate_fits L (gate_bytes g ++ rest) 0 ≡ true
  unfolding gate_fits fields_fit gate_bytes
  fits_first (Not t) rest w = ap (well_formed L) (at_first (Not t) rest w) ∙ w
  fits_first (Cnot a t) rest w = ap (well_formed L) (at_first (Cnot a t) rest w) ∙ w
  fits_first (Toffoli a b t) rest w = ap (well_formed L) (at_first (Toffoli a b t) rest w) ∙ w

  at_each : (gs : List Gate) → All (WellFormed L) gs → (i : ℕ) → i < length gs → gate_at (gates_bytes gs) i ≡ get_or gs i (Not 0)
  unfolding gates_bytes
  at_each [] w i h = absurd (omega arith)
  at_each (g ∷ gs) w zero h = at_first g (gates_bytes gs) w.0
  at_each (g ∷ gs) w (suc i) h = at_behind g (gates_bytes gs) i ∙ at_each gs w.1 i (omega arith)

  -- written gates read back
  pub gates_back : (gs : List Gate) → All (WellFormed L) gs → tabulate (gate_at (gates_bytes gs)) (length gs) ≡ gs
  gates_back gs w =
      let make : ℕ → Gate = gate_at (gates_bytes gs) in
      let n : length (tabulate make (length gs)) ≡ length gs = tabulate_length make (length gs) in
      ext_get_or (Not 0) (tabulate make (length gs)) gs n
      (λ i h. tabulate_at make (length gs) i (Not 0) (omega arith) ∙ at_each gs w i (omega arith))

  -- written gates are found in order
  pub gates_fit : (gs : List Gate) → All (WellFormed L) gs → (i : ℕ) → i < length gs → gate_fits L (gates_bytes gs) i ≡ true
  unfolding gates_bytes
  gates_fit [] w i h = absurd (omega arith)
  gates_fit (g ∷ gs) w zero h = fits_first g (gates_bytes gs) w.0
  gates_fit (g ∷ gs) w (suc i) h = fits_behind g (gates_bytes gs) i L ∙ gates_fit gs w.1 i (omega arith)

-- the part of the test of the fields that asks for the kind
abbrev kind_fits : ℕ → ℕ → ℕ → Bool
kind_fits kind a b = cond (eqb kind 1) (eqb a 0 && eqb b 0) (cond (eqb kind 2) (eqb b 0) (eqb kind 3))

-- fields that are right for their kind are the writing of their gate
module _ (kind blank a b : ℕ) (e : fields_fit kind blank a b ≡ true) where
  only_blank : blank ≡ 0
  unfolding fields_fit
  only_blank = eqb-true blank 0 (both_first (eqb blank 0) (kind_fits kind a b) e)

  pub only_fields : (t : ℕ) → field_bytes kind a b t ≡ gate_bytes (gate_of kind a b t)
  unfolding fields_fit gate_bytes
  only_fields t =
      let fit : kind_fits kind a b ≡ true = both_second (eqb blank 0) (kind_fits kind a b) e in
      by_test (eqb kind 1)
      (λ one.
      let zeros : (eqb a 0 && eqb b 0) ≡ true = simp one at fit in
      rw (eqb-true kind 1 one, eqb-true a 0 (both_first (eqb a 0) (eqb b 0) zeros), eqb-true b 0 (both_second (eqb a 0) (eqb b 0) zeros)))
      (λ other.
      by_test (eqb kind 2)
      (λ two. rw (eqb-true kind 2 two, eqb-true b 0 (simp (other, two) at fit)))
      (λ left. rw (eqb-true kind 3 (simp (other, left) at fit))))

module _ (L : ℕ) (body : List ℕ) where
  -- a gate in order is the writing of what is read
  only_gate : Bytes body → (i : ℕ) → 8 * i + 8 ≤ length body → gate_fits L body i ≡ true
      → drop (8 * i) body ≡ gate_bytes (gate_at body i) ++ drop (8 * i + 8) body
  unfolding gate_fits gate_at
  only_gate bytes i h e =
      let kind : ℕ = get_or body (8 * i) 0 in
      let blank : ℕ = get_or body (8 * i + 1) 0 in
      let a : ℕ = at16 body (8 * i + 2) in
      let b : ℕ = at16 body (8 * i + 4) in
      let t : ℕ = at16 body (8 * i + 6) in
      let fit : fields_fit kind blank a b ≡ true = both_first (fields_fit kind blank a b) (well_formed L (gate_at body i)) e in
      let eight : 8 * i + 6 + 2 ≡ 8 * i + 8 = omega arith in
      rw (drop_fields body bytes (8 * i) (omega arith), only_blank kind blank a b fit, drop16 body bytes (8 * i + 6) (omega arith), eight)
      (ap (λ (s : List ℕ). s ++ drop (8 * i + 8) body) (only_fields kind blank a b fit t))

  -- bytes whose gates are in order are the writing of those gates
  pub gates_only : (k : ℕ) → Bytes body → length body ≡ 8 * k → ((i : ℕ) → i < k → gate_fits L body i ≡ true) → body ≡ gates_bytes (tabulate (gate_at body) k)
  gates_only k bytes eights fit =
      flat_only 8 gate_bytes gate_length (gate_at body) body k eights (λ i h. only_gate bytes i (omega arith) (fit i h))
      ∙ sym (gates_flat (tabulate (gate_at body) k))
