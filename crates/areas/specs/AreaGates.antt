-- Gates that stand in a lent circuit area, and what the steps that store and reverse them ask for and leave.
use Rattle.std.specs.Prelude.{◌≡◌, ℕ, ◌+◌, ◌*◌, List, length, take, drop}
use Rattle.std.proofs.lemmas.List.Edits.{sets}
use Rattle.wire.specs.Lists.{tabulate_from}
use Rattle.gate.specs.declared.gates.Gate.{Gate}
use Rattle.gate_bytes.specs.GateBytes.{gate_at, gates_bytes}
use Rattle.circuit.specs.Format.{first_gate, file_length}

-- an area with these gates stored, the first of them as gate k
unfoldable pub put_gates : List ℕ → ℕ → List Gate → List ℕ
put_gates area k gs = sets area (file_length k) (gates_bytes gs)

-- gate i of an area
unfoldable pub gate_in : List ℕ → ℕ → Gate
gate_in area i = gate_at (drop first_gate area) i

-- k gates of an area, from gate i on
abbrev pub gates_from : List ℕ → ℕ → ℕ → List Gate
gates_from area i k = tabulate_from (gate_in area) i k

-- gates are stored from gate k on; r is the number of gates then
pub record Stored (gs : List Gate) (k r : ℕ) (old new : List ℕ) : Type 0 where
  pub count_to : r ≡ k + length gs
  pub area_to : new ≡ put_gates old k gs

-- the gate body of a file of k gates that stands in an area
abbrev pub body_in : List ℕ → ℕ → List ℕ
body_in area k = take (8 * k) (drop first_gate area)
