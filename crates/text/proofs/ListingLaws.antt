-- Laws of a listing: how long it is. Assumes nothing.
use Prim.Native.Nat.{ℕ, ◌+◌, ◌*◌, ◌≤◌}
use native.Mathlib.Omega.{arith}
use mathlib.Core.Path.{◌≡◌, refl, ap}
use mathlib.Core.List.{List, [], ◌∷◌, ◌++◌, append-nil, flat_map}
use lib.ListN.{length, length-append}
use Rattle.refusal.specs.Answers.{Answer, result, refused}
use Rattle.wire.specs.Ascii.{ascii}
use Rattle.gate.specs.declared.gates.Gate.{Gate}
use Rattle.gate.specs.declared.gates.Gate.TheVariants.{Not, Cnot, Toffoli}
use Rattle.gate.specs.Gates.{WellFormed, All}
use Rattle.gate.proofs.WellFormedLaws.{CnotLines, ToffoliLines, not_line, cnot_lines, toffoli_lines}
use Rattle.circuit.specs.declared.reader.CircuitHead.{CircuitHead}
use Rattle.circuit.specs.Circuits.{Circuit, Legal, line_count, head_of}
use Rattle.line.specs.Lines.{field, line, refused_line}
use Rattle.text.specs.Listings.{gate_line, gate_lines, first_line, listing, longest_listing}
use Rattle.line.proofs.DigitLaws.{field_most, field_small}

-- the fields of one, two and three numbers
fields_one : (a : ℕ) → length (flat_map field (a ∷ [])) ≡ length (field a)
unfolding flat_map
fields_one a = ap length (append-nil (field a))

fields_more : (a : ℕ) (ns : List ℕ) → length (flat_map field (a ∷ ns)) ≡ length (field a) + length (flat_map field ns)
unfolding flat_map
fields_more a ns = length-append (field a) (flat_map field ns)

line_length : (word ns : List ℕ) → length (line word ns) ≡ length word + length (flat_map field ns) + 1
unfolding line
line_length word ns = omega (arith, length-append word (flat_map field ns ++ ascii "\n"), length-append (flat_map field ns) (ascii "\n"))

-- on at most 65,536 lines
module _ (L : ℕ) (small : L ≤ 65536) where
  -- a gate's line takes at most 20 bytes
  gate_line_most : (g : Gate) → WellFormed L g → length (gate_line g) ≤ 20
  unfolding gate_line
  gate_line_most (Not t) w =
      omega (arith, line_length (ascii "N") (t ∷ []), fields_one t, field_small t (omega (arith, not_line L t w)))
  gate_line_most (Cnot a t) w =
      let l : CnotLines L a t = cnot_lines L a t w in
      omega (arith, line_length (ascii "C") (a ∷ t ∷ []), fields_more a (t ∷ []), fields_one t, field_small a (omega arith), field_small t (omega arith))
  gate_line_most (Toffoli a b t) w =
      let l : ToffoliLines L a b t = toffoli_lines L a b t w in
      omega (
        arith,
        line_length (ascii "T") (a ∷ b ∷ t ∷ []),
        fields_more a (b ∷ t ∷ []),
        fields_more b (t ∷ []),
        fields_one t,
        field_small a (omega arith),
        field_small b (omega arith),
        field_small t (omega arith),
      )

  gate_lines_most : (gs : List Gate) → All (WellFormed L) gs → length (gate_lines gs) ≤ 20 * length gs
  unfolding flat_map
  gate_lines_most [] w = omega arith
  gate_lines_most (g ∷ gs) w =
      omega (arith, length-append (gate_line g) (gate_lines gs), gate_line_most g w.0, gate_lines_most gs w.1)

-- the first line takes at most 96 bytes
first_line_most : (h : CircuitHead) → length (first_line h) ≤ 96
unfolding first_line
first_line_most h =
    let kinds : List ℕ = h.inputs ∷ h.outputs ∷ h.work ∷ [] in
    let last : List ℕ = line (ascii " gates") (h.gates ∷ []) in
    omega (
      arith,
      length-append (ascii "lines") (flat_map field kinds ++ last),
      length-append (flat_map field kinds) last,
      line_length (ascii " gates") (h.gates ∷ []),
      fields_more h.inputs (h.outputs ∷ h.work ∷ []),
      fields_more h.outputs (h.work ∷ []),
      fields_one h.work,
      fields_one h.gates,
      field_most h.inputs,
      field_most h.outputs,
      field_most h.work,
      field_most h.gates,
    )

-- and the line of a refusal at most 50
refused_line_most : (n p : ℕ) → length (refused_line n p) ≤ 50
unfolding refused_line
refused_line_most n p =
    omega (arith, line_length (ascii "refused") (n ∷ p ∷ []), fields_more n (p ∷ []), fields_one p, field_most n, field_most p)

-- a result is a circuit that a file can hold
abbrev pub LegalResult : Answer Circuit → Type 0
LegalResult x = (c : Circuit) → x ≡ result c → Legal c

-- every listing fits the buffer
pub listing_most : (x : Answer Circuit) → LegalResult x → length (listing x) ≤ longest_listing
unfolding listing
listing_most (result c) legal =
    let l : Legal c = legal c refl in
    omega (
      arith,
      length-append (first_line (head_of c)) (gate_lines c.gates),
      first_line_most (head_of c),
      gate_lines_most (line_count c) (omega arith) c.gates l.formed,
    )
listing_most (refused n p) legal = omega (arith, refused_line_most n p)
