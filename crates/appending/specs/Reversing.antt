-- What the steps that append gates of an area in reverse ask for.
use Rattle.std.specs.Prelude.{ℕ, ◌+◌, ◌-◌, ◌≤◌, ◌<◌, ◌≡◌, true, List, [], ◌∷◌, length, get_or, eqb}
use Rattle.wire.specs.Bytes.{at16}
use Rattle.gate_bytes.specs.GateBytes.{fields_fit}
use Rattle.gate.specs.Running.{without, uncompute}
use Rattle.circuit.specs.Format.{file_length}
use Rattle.areas.specs.AreaGates.{gate_in, gates_from}

-- the fields of gate i of an area are right for its kind, as those of every gate that was stored are
unfoldable pub InOrder : List ℕ → ℕ → Type 0
InOrder area i =
    let at = file_length i in
    fields_fit (get_or area at 0) (get_or area (at + 1) 0) (at16 area (at + 2)) (at16 area (at + 4)) ≡ true

-- gate i stands in order before gate k, and there is room to write it again as gate k where it is not left out
pub record Repeatable (area : List ℕ) (i k out : ℕ) : Type 0 where
  pub order : InOrder area i
  pub before : i < k
  pub there : file_length k ≤ length area
  pub room : file_length (k + length (without (eqb out) (gate_in area i ∷ []))) ≤ length area

-- the gates from gate i up to gate `to` stand in order before gate k, and there is room for their undoing
pub record Reversible (area : List ℕ) (i to k out : ℕ) : Type 0 where
  pub ordered : i ≤ to
  pub each : (j : ℕ) → j < to → i ≤ j → InOrder area j
  pub before : to ≤ k
  pub room : file_length (k + length (uncompute (eqb out) (gates_from area i (to - i)))) ≤ length area
