-- What the steps of exporting give, and what they ask of their callers.
use Rattle.std.specs.Prelude.{ℕ, ◌≤◌, ◌≡◌}
use Rattle.wire.specs.Limits.{most_gates}
use Rattle.refusal.specs.Answers.{Answer, result}
use Rattle.program.specs.declared.reader.Head.{Head}
use Rattle.circuit.specs.declared.reader.CircuitHead.{CircuitHead}
use Rattle.circuit.specs.Format.{file_length}
use Rattle.abi.specs.declared.OracleHead.{OracleHead}

-- 0, and the numbers of a program's head; it has no work lines
abbrev pub program_numbers : Head → OracleHead
program_numbers h = record { number = 0; value = h.nodes; inputs = h.inputs; outputs = h.outputs; work = 0 }

-- 0, and the numbers of a circuit's head
abbrev pub circuit_numbers : CircuitHead → OracleHead
circuit_numbers h = record { number = 0; value = h.gates; inputs = h.inputs; outputs = h.outputs; work = h.work }

-- how many bytes the file of a circuit with this head takes
abbrev pub file_bytes : CircuitHead → ℕ
file_bytes h = file_length h.gates

-- a circuit that was written has no more gates than a file may have
abbrev pub FewGates : Answer CircuitHead → Type 0
FewGates x = (h : CircuitHead) → x ≡ result h → h.gates ≤ most_gates
