-- Reading a circuit file, check by check in the order of 01's table.
use Rattle.std.specs.Prelude.{ℕ, ◌/◌, ◌%◌, Bool, ◌&&◌, List, eqb, leb}
use Rattle.wire.specs.Limits.{most_gates, most_work}
use Rattle.refusal.specs.Answers.{Answer, result, check, check_each, and_then}
use Rattle.wire.specs.Bits.{bits_fit}
use Rattle.wire.specs.Bytes.{at16}
use Rattle.contents.specs.Contents.{table_fits, entries_fit, entry_length, body_of}
use Rattle.contents.specs.Arity.{inputs_of, outputs_of, arity_fits}
use Rattle.refusal.specs.declared.causes.Refusal.TheVariants as cause
use Rattle.gate_bytes.specs.GateBytes.{gate_fits}
use Rattle.circuit.specs.declared.reader.CircuitHead.{CircuitHead}
use Rattle.circuit.specs.Circuits.{Circuit, line_count, head_lines, gates_in}
use Rattle.circuit.specs.Format.{tags, head_length}

-- the number of work lines, w, as read
abbrev pub work_of : List ℕ → ℕ
work_of f = at16 (body_of f 0) 4

-- how many gates the second body has room for
abbrev pub gates_of : List ℕ → ℕ
gates_of f = entry_length f 1 / 8

-- the test of cause 3: the head's length; eight bytes a gate, at most 8,000 gates
unfoldable pub lengths_fit : List ℕ → Bool
lengths_fit f = eqb (entry_length f 0) head_length && (eqb (entry_length f 1 % 8) 0 && leb (gates_of f) most_gates)

-- the test of cause 4: at most 64 inputs, 1 to 64 outputs, at most 1,024 work lines
unfoldable pub ranges_fit : List ℕ → Bool
ranges_fit f = arity_fits (body_of f 0) && leb (work_of f) most_work

-- the numbers that a file in order holds
unfoldable pub head_in : List ℕ → CircuitHead
head_in f = record { inputs = inputs_of f; outputs = outputs_of f; work = work_of f; gates = gates_of f }

-- what reading the table of contents and the head gives
unfoldable pub read_head : List ℕ → Answer CircuitHead
read_head f =
    check (table_fits 2 f) cause.Table  -- 1
    (check (entries_fit tags f) cause.Contents  -- 2
    (check (lengths_fit f) cause.BodyLength  -- 3
    (check (ranges_fit f) cause.Range  -- 4
    (result (head_in f)))))

-- the circuit of a head and a gate body
unfoldable pub circuit_of : CircuitHead → List ℕ → Circuit
circuit_of h body =
    record { inputs = h.inputs; outputs = h.outputs; work = h.work; gates = gates_in body }

-- what reading a circuit file gives
unfoldable pub read_circuit : List ℕ → Answer Circuit
read_circuit f =
    and_then (read_head f) (λ h.
    check_each (gate_fits (head_lines h) (body_of f 1)) h.gates cause.Gate  -- 12
    (result (circuit_of h (body_of f 1))))

-- what reading a circuit file gives that comes with a byte, 0 or 1, for each line
unfoldable pub read_with_lines : List ℕ → List ℕ → Answer Circuit
read_with_lines f lines =
    and_then (read_circuit f) (λ c.
    check (bits_fit (line_count c) lines) cause.LineBytes  -- 13
    (result c))
