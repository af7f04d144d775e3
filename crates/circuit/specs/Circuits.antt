-- A circuit: its lines by their use, and its gates.
use Rattle.std.specs.Prelude.{ℕ, ◌+◌, ◌/◌, ◌≤◌, ◌≡◌, List, length}
use Rattle.wire.specs.Limits.{most_gates, most_inputs, most_outputs, most_work}
use Rattle.wire.specs.Lists.{tabulate}
use Rattle.gate.specs.declared.gates.Gate.{Gate}
use Rattle.gate.specs.Gates.{WellFormed, All}
use Rattle.gate.specs.ControlOrder.{SameGates}
use Rattle.gate_bytes.specs.GateBytes.{gate_at}
use Rattle.circuit.specs.declared.reader.CircuitHead.{CircuitHead}

-- how many input lines, targets (one for each output) and work lines there are, in this order, and the gates
pub record Circuit : Type 0 where
  pub inputs : ℕ
  pub outputs : ℕ
  pub work : ℕ
  pub gates : List Gate

-- how many inputs, outputs, work lines and gates a circuit has
abbrev pub head_of : Circuit → CircuitHead
head_of c = record { inputs = c.inputs; outputs = c.outputs; work = c.work; gates = length c.gates }

-- how many lines a circuit with this head has
abbrev pub head_lines : CircuitHead → ℕ
head_lines h = h.inputs + h.outputs + h.work

-- the most lines that one may have
abbrev pub most_lines : ℕ
most_lines = most_inputs + most_outputs + most_work

-- how many lines a circuit has
abbrev pub line_count : Circuit → ℕ
line_count c = head_lines (head_of c)

-- a head whose numbers are within 01's limits
pub record InRange (h : CircuitHead) : Type 0 where
  pub inputs_most : h.inputs ≤ most_inputs
  pub outputs_some : 1 ≤ h.outputs
  pub outputs_most : h.outputs ≤ most_outputs
  pub work_most : h.work ≤ most_work
  pub gates_most : h.gates ≤ most_gates

-- a circuit that a file can hold: its numbers are in range, and every gate is well formed on its lines
pub record Legal (c : Circuit) : Type 0 where
  pub numbers : InRange (head_of c)
  pub formed : All (WellFormed (line_count c)) c.gates

-- two circuits are the same but for the order of controls (02): their numbers are equal, and so are their gates but for it
pub record SameButOrder (c d : Circuit) : Type 0 where
  pub numbers : head_of c ≡ head_of d
  pub gates : SameGates c.gates d.gates

-- a circuit that would be legal in another order of controls: one that is the same but for it is legal
pub record LegalButOrder (c : Circuit) : Type 0 where
  pub other : Circuit
  pub legal : Legal other
  pub same : SameButOrder c other

-- the gates of a gate body
abbrev pub gates_in : List ℕ → List Gate
gates_in body = tabulate (gate_at body) (length body / 8)
