-- The eight bytes of a gate in a circuit file, and which of them are in order.
use Rattle.std.specs.Prelude.{ℕ, ◌+◌, ◌*◌, Bool, cond, ◌&&◌, List, [], ◌∷◌, ◌++◌, get_or, eqb}
use Rattle.wire.specs.Bytes.{at16, bytes16}
use Rattle.gate.specs.declared.gates.Gate.{Gate}
use Rattle.gate.specs.declared.gates.Gate.TheVariants.{Not, Cnot, Toffoli}
use Rattle.gate.specs.Gates.{well_formed}

-- kind, a zero byte, control, second control, target
abbrev pub field_bytes : ℕ → ℕ → ℕ → ℕ → List ℕ
field_bytes kind a b t = kind ∷ 0 ∷ (bytes16 a ++ (bytes16 b ++ bytes16 t))

-- the bytes of a gate: its kind and its lines, a control that it does not have written as 0
unfoldable pub gate_bytes : Gate → List ℕ
gate_bytes (Not t) = field_bytes 1 0 0 t
gate_bytes (Cnot a t) = field_bytes 2 a 0 t
gate_bytes (Toffoli a b t) = field_bytes 3 a b t

-- the bytes of gates, one behind the other
unfoldable pub gates_bytes : List Gate → List ℕ
gates_bytes [] = []
gates_bytes (g ∷ gs) = gate_bytes g ++ gates_bytes gs

-- the gate of a kind with these fields, once cause 12 has refused every other kind
abbrev pub gate_of : ℕ → ℕ → ℕ → ℕ → Gate
gate_of kind a b t = cond (eqb kind 1) (Not t) (cond (eqb kind 2) (Cnot a t) (Toffoli a b t))

-- the zero byte is zero, the kind is one of three, and the controls that it does not use are zero
unfoldable pub fields_fit : ℕ → ℕ → ℕ → ℕ → Bool
fields_fit kind blank a b =
    eqb blank 0
    && cond (eqb kind 1) (eqb a 0 && eqb b 0)
    (cond (eqb kind 2) (eqb b 0) (eqb kind 3))

-- gate i of a gate body
unfoldable pub gate_at : List ℕ → ℕ → Gate
gate_at body i = gate_of (get_or body (8 * i) 0) (at16 body (8 * i + 2)) (at16 body (8 * i + 4)) (at16 body (8 * i + 6))

-- the test of cause 12 at gate i: its fields are right for its kind, and it is well formed on L lines
unfoldable pub gate_fits : ℕ → List ℕ → ℕ → Bool
gate_fits L body i =
    fields_fit (get_or body (8 * i) 0) (get_or body (8 * i + 1) 0) (at16 body (8 * i + 2)) (at16 body (8 * i + 4))
    && well_formed L (gate_at body i)
