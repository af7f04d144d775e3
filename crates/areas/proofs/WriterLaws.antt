-- Laws of writing a circuit file into an area. Assumes nothing.
use Prim.Native.Nat.{ℕ, ◌+◌, ◌*◌, ◌≤◌}
use native.Mathlib.Omega.{arith}
use mathlib.Core.Path.{◌≡◌, refl, sym, ap, ◌∙◌}
use mathlib.Core.List.{List, [], ◌∷◌, ◌++◌, append-nil}
use lib.ListN.{length}
use lib.Seq.{sets, length-sets}
use Rattle.refusal.specs.Answers.{result}
use Rattle.wire.specs.Bytes.{bytes16}
use Rattle.contents.specs.Contents.{table_length, contents_bytes}
use Rattle.contents.specs.Steps.{total}
use Rattle.areas.specs.declared.table.Body.{Body}
use Rattle.areas.specs.Tables.{WritableTable}
use Rattle.wire.proofs.AreaLaws.{area_written}
use Rattle.wire.proofs.ListLaws.{sets_then}
use Rattle.contents.proofs.WrittenLaws.{contents_length}
use Rattle.gate.specs.declared.gates.Gate.{Gate}
use Rattle.gate_bytes.specs.GateBytes.{gate_bytes, gates_bytes}
use Rattle.gate_bytes.proofs.ByteLaws.{gates_length, gates_append}
use Rattle.circuit.specs.declared.reader.CircuitHead.{CircuitHead}
use Rattle.circuit.specs.Circuits.{Circuit, head_of, InRange}
use Rattle.circuit.specs.Format.{tags, head_length, file_length, head_bytes, opening_bytes, circuit_file}
use Rattle.wire.specs.Areas.{area_after}
use Rattle.areas.specs.AreaGates.{put_gates}
use Rattle.circuit.proofs.FormatLaws.{lengths, opening_length, file_length_lem}

-- the bodies of a circuit file: the head and the gates
abbrev bodies : CircuitHead → List Body
bodies h = record { tag = 17; length = head_length } ∷ record { tag = 18; length = 8 * h.gates } ∷ []

-- their table of contents can be written
pub writable : (h : CircuitHead) (room : ℕ) → InRange h → file_length 0 ≤ room → WritableTable (bodies h) room
unfolding total
writable h room s r = record { few = omega arith; fits = omega arith; small = omega (arith, s.gates_most) }

-- the stores of the table and of the head's numbers, one after the other, are one run
pub opening_stores : (l : List ℕ) (h : CircuitHead) {l₁ l₂ l₃ l₄ : List ℕ}
    → l₁ ≡ sets l 0 (contents_bytes tags (lengths h))
    → l₂ ≡ sets l₁ (table_length 2) (bytes16 h.inputs)
    → l₃ ≡ sets l₂ (table_length 2 + 2) (bytes16 h.outputs)
    → l₄ ≡ sets l₃ (table_length 2 + 4) (bytes16 h.work)
    → l₄ ≡ sets l 0 (opening_bytes h)
unfolding opening_bytes
opening_stores l h e₁ e₂ e₃ e₄ =
    let table : List ℕ = contents_bytes tags (lengths h) in
    e₄
    ∙ ap (λ (x : List ℕ). sets x (table_length 2 + 4) (bytes16 h.work)) (e₃ ∙ ap (λ (x : List ℕ). sets x (table_length 2 + 2) (bytes16 h.outputs)) (e₂ ∙ ap (λ (x : List ℕ). sets x (table_length 2) (bytes16 h.inputs)) e₁))
    ∙ sets_then l 0 (table_length 2) table (head_bytes h) (omega (arith, contents_length tags (lengths h) refl))

module _ (area : List ℕ) where
  pub put_length : (k : ℕ) (gs : List Gate) → length (put_gates area k gs) ≡ length area
  unfolding put_gates
  put_length k gs = length-sets area (file_length k) (gates_bytes gs)

  -- one gate is stored
  pub put_one : (k : ℕ) (g : Gate) → sets area (file_length k) (gate_bytes g) ≡ put_gates area k (g ∷ [])
  unfolding put_gates gates_bytes
  put_one k g = ap (sets area (file_length k)) (sym (append-nil (gate_bytes g)))

  -- no gate is stored
  pub put_none : (k : ℕ) → put_gates area k [] ≡ area
  unfolding put_gates gates_bytes
  put_none k = refl

  -- gates stored behind gates
  pub put_append : (k : ℕ) (gs hs : List Gate) → put_gates (put_gates area k gs) (k + length gs) hs ≡ put_gates area k (gs ++ hs)
  unfolding put_gates
  put_append k gs hs =
      sets_then area (file_length k) (file_length (k + length gs)) (gates_bytes gs) (gates_bytes hs) (omega (arith, gates_length gs))
      ∙ ap (sets area (file_length k)) (sym (gates_append gs hs))

-- the opening and then the gates are the file, and what was behind it stays
pub file_written_lem : (area : List ℕ) (c : Circuit) {area₁ area₂ : List ℕ}
    → file_length (length c.gates) ≤ length area
    → area₁ ≡ sets area 0 (opening_bytes (head_of c))
    → area₂ ≡ put_gates area₁ 0 c.gates
    → area₂ ≡ area_after (result (circuit_file c)) area
unfolding put_gates circuit_file
file_written_lem area c room e₁ e₂ =
    area_written (circuit_file c) area (omega (arith, file_length_lem c))
    (e₂
    ∙ ap (λ (x : List ℕ). sets x (file_length 0) (gates_bytes c.gates)) e₁
    ∙ sets_then area 0 (file_length 0) (opening_bytes (head_of c)) (gates_bytes c.gates) (omega (arith, opening_length (head_of c))))
