-- The bytes of a circuit file.
use Rattle.std.specs.Prelude.{ℕ, ◌+◌, ◌*◌, List, [], ◌∷◌, ◌++◌}
use Rattle.wire.specs.Bytes.{bytes16}
use Rattle.contents.specs.Contents.{table_length, contents_bytes}
use Rattle.gate_bytes.specs.GateBytes.{gates_bytes}
use Rattle.circuit.specs.declared.reader.CircuitHead.{CircuitHead}
use Rattle.circuit.specs.Circuits.{Circuit, head_of}

-- the tags of the two bodies: the head and the gates
abbrev pub tags : List ℕ
tags = 17 ∷ 18 ∷ []

-- how many bytes the head takes
abbrev pub head_length : ℕ
head_length = 6

-- where the first gate starts
abbrev pub first_gate : ℕ
first_gate = table_length 2 + head_length

-- how many bytes a file of k gates takes
abbrev pub file_length : ℕ → ℕ
file_length k = first_gate + 8 * k

-- the head: the numbers of inputs, outputs and work lines
abbrev pub head_bytes : CircuitHead → List ℕ
head_bytes h = bytes16 h.inputs ++ (bytes16 h.outputs ++ bytes16 h.work)

-- what stands before the first gate: the table of contents and the head
unfoldable pub opening_bytes : CircuitHead → List ℕ
opening_bytes h = contents_bytes tags (head_length ∷ 8 * h.gates ∷ []) ++ head_bytes h

-- the file of a circuit
unfoldable pub circuit_file : Circuit → List ℕ
circuit_file c = opening_bytes (head_of c) ++ gates_bytes c.gates
