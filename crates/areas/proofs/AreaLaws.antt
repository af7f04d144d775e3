-- Laws of the gates that stand in an area: what is stored reads back, and what stands before it stays. Assumes nothing.
use Prim.Native.Nat.{ℕ, zero, suc, ◌+◌, ◌*◌, ◌/◌, ◌<◌, ◌≤◌}
use native.Mathlib.Omega.{arith}
use native.Mathlib.Nat.{add-zero}
use native.Mathlib.Numerals.{add-one}
use mathlib.Core.Path.{◌≡◌, refl, sym, ap, ap₂, ◌∙◌}
use mathlib.Core.List.{List, [], ◌∷◌, ◌++◌, append_assoc}
use lib.ListN.{length, get_or, take, drop, length-append, length-take, length-drop}
use lib.Seq.{sets, take_at, drop_at, get_or-take, get_or-drop}
use Rattle.wire.proofs.ListLaws.{sets_before, sets_in, tabulate_same}
use Rattle.wire.specs.Lists.{tabulate_from, tabulate}
use Rattle.gate.specs.declared.gates.Gate.{Gate}
use Rattle.gate.specs.declared.gates.Gate.TheVariants.{Not}
use Rattle.gate.specs.Gates.{WellFormed, All}
use Rattle.gate_bytes.specs.GateBytes.{gates_bytes, gate_at}
use Rattle.gate_bytes.proofs.ByteLaws.{gates_length}
use Rattle.gate_bytes.proofs.GateLaws.{gate_same}
use Rattle.gate_bytes.proofs.ReadBackLaws.{gates_back}
use Rattle.circuit.specs.Circuits.{Circuit, Legal, line_count, head_of, gates_in}
use Rattle.circuit.specs.Format.{first_gate, file_length, opening_bytes, circuit_file}
use Rattle.circuit.proofs.FormatLaws.{opening_length}
use Rattle.circuit.proofs.GateBodyLaws.{written_gates}
use Rattle.areas.specs.AreaGates.{put_gates, gate_in, gates_from, body_in, Stored}
use Rattle.areas.proofs.WriterLaws.{put_length, put_none, put_append}

-- the first k gates of an area, as a gate body
module _ (area : List ℕ) (k : ℕ) where
  -- have eight bytes each
  pub body_long : file_length k ≤ length area → length (body_in area k) ≡ 8 * k
  body_long h = simp (length-take, length-drop) (omega arith)

  -- and are its gates
  pub body_gate : (i : ℕ) → i < k → file_length k ≤ length area → gate_at (body_in area k) i ≡ gate_in area i
  unfolding gate_in
  body_gate i h r = gate_same (body_in area k) (drop first_gate area) i i (λ j b. get_or-take (8 * k) (drop first_gate area) (8 * i + j) 0 (omega arith))

  pub body_gates : file_length k ≤ length area → gates_in (body_in area k) ≡ gates_from area 0 k
  body_gates r =
      let n : length (body_in area k) / 8 ≡ k = omega (arith, body_long r) in
      ap (tabulate (gate_at (body_in area k))) n ∙ tabulate_same (gate_at (body_in area k)) (gate_in area) k (λ i h. body_gate i h r)

-- the gates of a file that stands in an area are those of its circuit
pub file_gates : (c : Circuit) → Legal c → (rest : List ℕ) → gates_in (body_in (circuit_file c ++ rest) (length c.gates)) ≡ c.gates
unfolding circuit_file
file_gates c l rest =
    let bytes : List ℕ = gates_bytes c.gates in
    let opening : List ℕ = opening_bytes (head_of c) in
    let k : ℕ = length c.gates in
    let body : body_in ((opening ++ bytes) ++ rest) k ≡ bytes =
    ap (λ (s : List ℕ). body_in s k) (append_assoc opening bytes rest)
    ∙ ap (take (8 * k)) (drop_at opening (bytes ++ rest) first_gate (opening_length (head_of c)))
    ∙ take_at bytes rest (8 * k) (gates_length c.gates) in
    ap gates_in body ∙ written_gates (line_count c) (omega arith) c.gates l.formed

-- gates stored from gate k on leave gate i < k as it was
pub put_before : (area : List ℕ) (k : ℕ) (gs : List Gate) (i : ℕ) → i < k → gate_in (put_gates area k gs) i ≡ gate_in area i
unfolding gate_in put_gates
put_before area k gs i h =
    let after : List ℕ = sets area (file_length k) (gates_bytes gs) in
    gate_same (drop first_gate after) (drop first_gate area) i i
    (λ j b.
    get_or-drop first_gate after (8 * i + j) 0
    ∙ sets_before area (file_length k) (gates_bytes gs) (first_gate + (8 * i + j)) (omega arith)
    ∙ sym (get_or-drop first_gate area (8 * i + j) 0))

-- on at most 65,536 lines
module _ (L : ℕ) (small : L ≤ 65536) where
  -- one gate stored reads back
  put_first : (area : List ℕ) (k : ℕ) (g : Gate) → WellFormed L g → file_length (k + 1) ≤ length area → gate_in (put_gates area k (g ∷ [])) k ≡ g
  unfolding gate_in put_gates
  put_first area k g w r =
      let bytes : List ℕ = gates_bytes (g ∷ []) in
      let after : List ℕ = sets area (file_length k) bytes in
      gate_same (drop first_gate after) bytes k 0
      (λ j b.
      let e : first_gate + (8 * k + j) ≡ file_length k + (8 * 0 + j) = omega arith in
      get_or-drop first_gate after (8 * k + j) 0
      ∙ ap (λ (n : ℕ). get_or after n 0) e
      ∙ sets_in area (file_length k) bytes (8 * 0 + j) (omega (arith, gates_length (g ∷ []))) (omega (arith, gates_length (g ∷ []))))
      ∙ (unfold tabulate_from in ap (λ (gs : List Gate). get_or gs 0 (Not 0)) (gates_back L small (g ∷ []) (w, tt)))

  -- gates stored read back
  pub put_back : (area : List ℕ) (k : ℕ) (gs : List Gate) → All (WellFormed L) gs → file_length (k + length gs) ≤ length area
      → gates_from (put_gates area k gs) k (length gs) ≡ gs
  unfolding tabulate_from
  put_back area k [] w r = refl
  put_back area k (g ∷ gs) w r =
      let one : List ℕ = put_gates area k (g ∷ []) in
      let all : put_gates area k (g ∷ gs) ≡ put_gates one (suc k) gs = sym (put_append area k (g ∷ []) gs) ∙ ap (λ (n : ℕ). put_gates one n gs) (add-one k) in
      let first : gate_in (put_gates area k (g ∷ gs)) k ≡ g = ap (λ (a : List ℕ). gate_in a k) all ∙ put_before one (suc k) gs k (omega arith) ∙ put_first area k g w.0 (omega arith) in
      let more : gates_from (put_gates area k (g ∷ gs)) (suc k) (length gs) ≡ gs = ap (λ (a : List ℕ). gates_from a (suc k) (length gs)) all ∙ put_back one (suc k) gs w.1 (omega (arith, put_length area k (g ∷ []))) in
      ap₂ (λ (h : Gate) (hs : List Gate). h ∷ hs) first more

-- one gate more is the last of them
pub from_last : (area : List ℕ) (i k : ℕ) → gates_from area i (suc k) ≡ gates_from area i k ++ (gate_in area (i + k) ∷ [])
unfolding tabulate_from
from_last area i zero = ap (λ (n : ℕ). gate_in area n ∷ []) (sym (add-zero i))
from_last area i (suc k) =
    let e : suc i + k ≡ i + suc k = omega arith in
    ap (λ (gs : List Gate). gate_in area i ∷ gs) (from_last area (suc i) k ∙ ap (λ (n : ℕ). gates_from area (suc i) k ++ (gate_in area n ∷ [])) e)

-- nothing is stored
pub stored_none : (k : ℕ) (l : List ℕ) → Stored [] k k l l
stored_none k l = record { count_to = sym (add-zero k); area_to = sym (put_none l k) }

-- gates are stored, and others behind them
pub stored_then : {gs hs : List Gate} {k r r' : ℕ} {l l₁ l₂ : List ℕ} → Stored gs k r l l₁ → Stored hs r r' l₁ l₂ → Stored (gs ++ hs) k r' l l₂
stored_then {gs} {hs} {k} {r} {r'} {l} v w =
    record {
      count_to = omega (arith, v.count_to, w.count_to, length-append gs hs);
      area_to = w.area_to ∙ ap₂ (λ (x : List ℕ) (j : ℕ). put_gates x j hs) v.area_to v.count_to ∙ put_append l k gs hs;
    }
