-- Laws of how long the parts of a circuit file are. Assumes nothing.
use Prim.Native.Nat.{ℕ, ◌*◌}
use native.Mathlib.Omega.{arith}
use mathlib.Core.Path.{◌≡◌, refl}
use mathlib.Core.List.{List, [], ◌∷◌}
use lib.ListN.{length, length-append}
use Rattle.contents.specs.Contents.{contents_bytes}
use Rattle.contents.proofs.WrittenLaws.{contents_length}
use Rattle.gate_bytes.specs.GateBytes.{gates_bytes}
use Rattle.gate_bytes.proofs.ByteLaws.{gates_length}
use Rattle.circuit.specs.declared.reader.CircuitHead.{CircuitHead}
use Rattle.circuit.specs.Circuits.{Circuit, head_of}
use Rattle.circuit.specs.Format.{tags, head_length, first_gate, file_length, head_bytes, opening_bytes, circuit_file}

-- the lengths of the two bodies
abbrev pub lengths : CircuitHead → List ℕ
lengths h = head_length ∷ 8 * h.gates ∷ []

-- what stands before the first gate, and a whole file, are as long as the layout says
pub opening_length : (h : CircuitHead) → length (opening_bytes h) ≡ first_gate
unfolding opening_bytes
opening_length h = omega (arith, length-append (contents_bytes tags (lengths h)) (head_bytes h), contents_length tags (lengths h) refl)

pub file_length_lem : (c : Circuit) → length (circuit_file c) ≡ file_length (length c.gates)
unfolding circuit_file
file_length_lem c =
    omega (
      arith,
      length-append (opening_bytes (head_of c)) (gates_bytes c.gates),
      opening_length (head_of c),
      gates_length c.gates,
    )
