-- Laws of gates that are copied as they stand: fields that are right for their kind are the writing of their gate. Assumes nothing.
use Prim.Native.Nat.{ℕ, ◌+◌, ◌*◌, ◌-◌, ◌<◌, ◌≤◌}
use native.Mathlib.Omega.{arith}
use native.Mathlib.Nat.{zero-add}
use mathlib.Core.Path.{◌≡◌, refl, sym, ap, ap₂, ◌∙◌}
use mathlib.Core.Bool.{true}
use mathlib.Core.List.{List, [], ◌∷◌, ◌++◌}
use lib.ListN.{length, get_or, take, drop, length-take, length-drop}
use borrow.Author.Tests.{eqb-true}
use lib.Seq.{sets, sets-eq, paste, get_or-take, get_or-drop}
use Rattle.std.proofs.lemmas.List.{drop_all}
use Rattle.std.specs.List.{CopiedTo}
use Rattle.wire.specs.Bytes.{at16, Bytes}
use Rattle.wire.proofs.ByteLaws.{drop_fields, drop16}
use Rattle.wire.proofs.ListLaws.{sets_before, sets_in}
use Rattle.refusal.proofs.CheckLaws.{both_first}
use Rattle.gate.specs.declared.gates.Gate.{Gate}
use Rattle.gate.specs.Gates.{well_formed, WellFormed, All}
use Rattle.gate_bytes.specs.GateBytes.{gate_bytes, field_bytes, gates_bytes, gate_of, fields_fit, gate_at, gate_fits}
use Rattle.gate_bytes.proofs.ByteLaws.{gates_length}
use Rattle.gate_bytes.proofs.ReadBackLaws.{gates_fit, only_fields}
use Rattle.circuit.specs.Format.{first_gate, file_length}
use Rattle.areas.specs.AreaGates.{put_gates, gate_in}
use Rattle.areas.proofs.WriterLaws.{put_one}
use Rattle.appending.specs.Reversing.{InOrder}

-- the fields of two places are the same where their eight bytes are
module _ (l m : List ℕ) (i j : ℕ) (same : (n : ℕ) → n < 8 → get_or l (i + n) 0 ≡ get_or m (j + n) 0) where
  same16 : (n : ℕ) → n + 1 < 8 → at16 l (i + n) ≡ at16 m (j + n)
  same16 n h =
      let p : i + (n + 1) ≡ i + n + 1 = omega arith in
      let q : j + (n + 1) ≡ j + n + 1 = omega arith in
      ap₂ (λ (x y : ℕ). x + 256 * y) (same n (omega arith)) (rw (p, q) at (same (n + 1) h))

  same_first : get_or l i 0 ≡ get_or m j 0
  same_first =
      let p : i + 0 ≡ i = omega arith in
      let q : j + 0 ≡ j = omega arith in
      rw (p, q) at (same 0 (omega arith))

  same_fit : fields_fit (get_or l i 0) (get_or l (i + 1) 0) (at16 l (i + 2)) (at16 l (i + 4)) ≡ fields_fit (get_or m j 0) (get_or m (j + 1) 0) (at16 m (j + 2)) (at16 m (j + 4))
  same_fit = rw (same_first, same 1 (omega arith), same16 2 (omega arith), same16 4 (omega arith)) refl

  same_gate : gate_of (get_or l i 0) (at16 l (i + 2)) (at16 l (i + 4)) (at16 l (i + 6)) ≡ gate_of (get_or m j 0) (at16 m (j + 2)) (at16 m (j + 4)) (at16 m (j + 6))
  same_gate = rw (same_first, same16 2 (omega arith), same16 4 (omega arith), same16 6 (omega arith)) refl

module _ (area : List ℕ) (i : ℕ) where
  -- the fields of gate i
  fields_in : gate_in area i ≡ gate_of (get_or area (file_length i) 0) (at16 area (file_length i + 2)) (at16 area (file_length i + 4)) (at16 area (file_length i + 6))
  unfolding gate_in gate_at
  fields_in =
      same_gate (drop first_gate area) area (8 * i) (file_length i)
      (λ n h. let e : first_gate + (8 * i + n) ≡ file_length i + n = omega arith in get_or-drop first_gate area (8 * i + n) 0 ∙ ap (λ (p : ℕ). get_or area p 0) e)

  -- its eight bytes
  abbrev eight : List ℕ
  eight = take 8 (drop (file_length i) area)

  -- are its writing
  module _ (there : file_length (i + 1) ≤ length area) (o : InOrder area i) (small : (n : ℕ) → n < 8 → get_or area (file_length i + n) 0 < 256) where
    eight_long : length eight ≡ 8
    eight_long = simp (length-take, length-drop) (omega arith)

    eight_at : (n : ℕ) → n < 8 → get_or eight (0 + n) 0 ≡ get_or area (file_length i + n) 0
    eight_at n h = ap (λ (p : ℕ). get_or eight p 0) (zero-add n) ∙ get_or-take 8 (drop (file_length i) area) n 0 h ∙ get_or-drop (file_length i) area n 0

    eight_written : eight ≡ gate_bytes (gate_in area i)
    unfolding InOrder fields_fit
    eight_written =
        let bytes : Bytes eight = λ n h.
        let k : n < 8 = omega (arith, eight_long) in
        let e : 0 + n ≡ n = zero-add n in
        omega (arith, ap (λ (p : ℕ). get_or eight p 0) e, eight_at n k, small n k) in
        let fit : fields_fit (get_or eight 0 0) (get_or eight 1 0) (at16 eight 2) (at16 eight 4) ≡ true = same_fit eight area 0 (file_length i) eight_at ∙ o in
        let blank : get_or eight 1 0 ≡ 0 = eqb-true (get_or eight 1 0) 0 (both_first _ _ fit) in
        let none : drop 8 eight ≡ [] = drop_all 8 eight (omega (arith, eight_long)) in
        drop_fields eight bytes 0 (omega (arith, eight_long))
        ∙ rw (blank, drop16 eight bytes 6 (omega (arith, eight_long)), none) (only_fields (get_or eight 0 0) (get_or eight 1 0) (at16 eight 2) (at16 eight 4) fit (at16 eight 6))
        ∙ ap gate_bytes (same_gate eight area 0 (file_length i) eight_at ∙ sym fields_in)

  -- its fields, stored once more with a zero byte, are its writing too
  pub fields_copied : (k : ℕ) {kind a b t from to : ℕ} {after : List ℕ} → InOrder area i → from ≡ file_length i → to ≡ file_length k
      → kind ≡ get_or area from 0 → a ≡ at16 area (from + 2) → b ≡ at16 area (from + 4) → t ≡ at16 area (from + 6)
      → after ≡ sets area to (field_bytes kind a b t) → after ≡ put_gates area k (gate_in area i ∷ [])
  unfolding InOrder
  fields_copied k o ef et ek ea eb ec e =
      let at : ℕ = file_length i in
      e
      ∙ rw (et, ek, ea, eb, ec, ef) (ap (sets area (file_length k)) (only_fields (get_or area at 0) (get_or area (at + 1) 0) (at16 area (at + 2)) (at16 area (at + 4)) o (at16 area (at + 6))))
      ∙ put_one area k _
      ∙ ap (λ (g : Gate). put_gates area k (g ∷ [])) (sym fields_in)

  -- they are copied
  pub copied : (k : ℕ) {from to n : ℕ} {after : List ℕ} → InOrder area i → i < k → file_length (k + 1) ≤ length area
      → from ≡ file_length i → to ≡ file_length k → n ≡ 8
      → after ≡ paste area to (drop from area) n → CopiedTo area after from to n → ((j : ℕ) → get_or after j 0 < 256)
      → after ≡ put_gates area k (gate_in area i ∷ [])
  copied k {from} {to} {n} {after} o h r ef et en e same small =
      let at : ℕ = file_length i in
      let same_bytes : (j : ℕ) → j < 8 → get_or area (at + j) 0 < 256 = λ j b.
      let there : from + (to + j - to) ≡ at + j = omega arith in
      omega (arith, small (to + j), same (to + j) 0 (omega arith) (omega arith), ap (λ (p : ℕ). get_or area p 0) there) in
      let written : eight ≡ gate_bytes (gate_in area i) = eight_written (omega arith) o same_bytes in
      let long : 8 ≡ length eight = sym (eight_long (omega arith) o same_bytes) in
      e
      ∙ rw (ef, et, en) (ap (λ (m : ℕ). take (file_length k) area ++ eight ++ drop (file_length k + m) area) long)
      ∙ sym (sets-eq eight area (file_length k) (omega (arith, long)))
      ∙ ap (sets area (file_length k)) written
      ∙ put_one area k (gate_in area i)

  -- gates that are stored behind it leave it in order
  pub order_before : (k : ℕ) (gs : List Gate) → i < k → InOrder area i → InOrder (put_gates area k gs) i
  unfolding InOrder put_gates
  order_before k gs h o =
      same_fit (sets area (file_length k) (gates_bytes gs)) area (file_length i) (file_length i) (λ n b. sets_before area (file_length k) (gates_bytes gs) (file_length i + n) (omega arith))
      ∙ o

-- gates that are stored are in order, on at most 65,536 lines
pub put_order : (L : ℕ) → L ≤ 65536 → (area : List ℕ) (k : ℕ) (gs : List Gate) → All (WellFormed L) gs → file_length (k + length gs) ≤ length area
    → (i : ℕ) → i < length gs → InOrder (put_gates area k gs) (k + i)
unfolding InOrder put_gates gate_fits
put_order L small area k gs w r i h =
    let bytes : List ℕ = gates_bytes gs in
    same_fit (sets area (file_length k) bytes) bytes (file_length (k + i)) (8 * i)
    (λ n b.
    let e : file_length (k + i) + n ≡ file_length k + (8 * i + n) = omega arith in
    ap (λ (p : ℕ). get_or (sets area (file_length k) bytes) p 0) e
    ∙ sets_in area (file_length k) bytes (8 * i + n) (omega (arith, gates_length gs)) (omega (arith, gates_length gs)))
    ∙ both_first _ (well_formed L (gate_at bytes i)) (gates_fit L small gs w i h)
