-- The order of a gate's controls.
use Rattle.std.specs.Prelude.{◌≡◌, ◌⊎◌, List, [], ◌∷◌}
use Rattle.gate.specs.declared.gates.Gate.{Gate}
use Rattle.gate.specs.declared.gates.Gate.TheVariants.{Not, Cnot, Toffoli}

-- the gate with its two controls exchanged, if it has two
unfoldable pub exchange_controls : Gate → Gate
exchange_controls (Not t) = Not t
exchange_controls (Cnot a t) = Cnot a t
exchange_controls (Toffoli a b t) = Toffoli b a t

-- two gates differ at most in the order of their controls (02)
abbrev pub SameGate : Gate → Gate → Type 0
SameGate g h = (h ≡ g) ⊎ (h ≡ exchange_controls g)

-- and so do the gates of two lists, one by one
abbrev pub SameGates : List Gate → List Gate → Type 0
SameGates [] [] = Unit {0}
SameGates [] (h ∷ hs) = ⊥
SameGates (g ∷ gs) [] = ⊥
SameGates (g ∷ gs) (h ∷ hs) = SameGate g h × SameGates gs hs
