-- Laws of the bytes of gates. Assumes nothing.
use Prim.Native.Nat.{ℕ, ◌*◌}
use mathlib.Core.Path.{◌≡◌, refl, sym, ap, ◌∙◌}
use mathlib.Core.List.{List, [], ◌∷◌, ◌++◌, append_assoc, flat_map}
use lib.ListN.{length}
use Rattle.wire.proofs.ListLaws.{flat_length}
use Rattle.gate.specs.declared.gates.Gate.{Gate}
use Rattle.gate.specs.declared.gates.Gate.TheVariants.{Not, Cnot, Toffoli}
use Rattle.gate_bytes.specs.GateBytes.{gate_bytes, gates_bytes}

-- a gate takes eight bytes
pub gate_length : (g : Gate) → length (gate_bytes g) ≡ 8
unfolding gate_bytes
gate_length (Not t) = refl
gate_length (Cnot a t) = refl
gate_length (Toffoli a b t) = refl

-- gates are entries of eight bytes, one behind the other
pub gates_flat : (gs : List Gate) → gates_bytes gs ≡ flat_map gate_bytes gs
unfolding gates_bytes flat_map
gates_flat [] = refl
gates_flat (g ∷ gs) = ap (λ (l : List ℕ). gate_bytes g ++ l) (gates_flat gs)

pub gates_length : (gs : List Gate) → length (gates_bytes gs) ≡ 8 * length gs
gates_length gs = ap length (gates_flat gs) ∙ flat_length 8 gate_bytes gate_length gs

-- the bytes of two lists of gates stand one behind the other
pub gates_append : (gs hs : List Gate) → gates_bytes (gs ++ hs) ≡ gates_bytes gs ++ gates_bytes hs
unfolding gates_bytes
gates_append [] hs = refl
gates_append (g ∷ gs) hs =
    ap (λ (l : List ℕ). gate_bytes g ++ l) (gates_append gs hs) ∙ sym (append_assoc (gate_bytes g) (gates_bytes gs) (gates_bytes hs))
