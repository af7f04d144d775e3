-- Gates and their lines.
use Rattle.std.specs.Prelude.{ℕ, ◌+◌, ◌≡◌, Bool, true, not, ◌&&◌, List, [], ◌∷◌, length, eqb, ltb}
use Rattle.gate.specs.declared.gates.Gate.{Gate}
use Rattle.gate.specs.declared.gates.Gate.TheVariants.{Not, Cnot, Toffoli}

-- the line that a gate changes
unfoldable pub target : Gate → ℕ
target (Not t) = t
target (Cnot a t) = t
target (Toffoli a b t) = t

-- P holds of each control of the gate
abbrev pub Controls : (ℕ → Type 0) → Gate → Type 0
Controls P (Not t) = Unit {0}
Controls P (Cnot a t) = P a
Controls P (Toffoli a b t) = P a × P b

-- how many Toffolis there are among gates
unfoldable pub toffoli_count : List Gate → ℕ
toffoli_count [] = 0
toffoli_count (Not t ∷ gs) = toffoli_count gs
toffoli_count (Cnot a t ∷ gs) = toffoli_count gs
toffoli_count (Toffoli a b t ∷ gs) = 1 + toffoli_count gs

-- the gate's lines are below L and all different (01)
unfoldable pub lines_fit : ℕ → Gate → Bool
lines_fit L (Not t) = ltb t L
lines_fit L (Cnot a t) = (ltb a L && ltb t L) && not (eqb a t)
lines_fit L (Toffoli a b t) = ((ltb a L && ltb b L) && ltb t L) && (not (eqb a b) && (not (eqb a t) && not (eqb b t)))

-- the first control of a Toffoli is lower than the second (02)
unfoldable pub lower_first : Gate → Bool
lower_first (Not t) = true
lower_first (Cnot a t) = true
lower_first (Toffoli a b t) = ltb a b

-- the gate's lines are below L and all different, a Toffoli's lower control first
unfoldable pub well_formed : ℕ → Gate → Bool
well_formed L g = lower_first g && lines_fit L g

-- a gate that is well formed on L lines
abbrev pub WellFormed : ℕ → Gate → Type 0
WellFormed L g = well_formed L g ≡ true

-- a gate on different lines below L, its controls in any order
abbrev pub LinesFit : ℕ → Gate → Type 0
LinesFit L g = lines_fit L g ≡ true

-- P holds of each gate
abbrev pub All : (Gate → Type 0) → List Gate → Type 0
All P [] = Unit {0}
All P (g ∷ gs) = P g × All P gs

-- the gates are well formed on the lines of s
abbrev pub Fits : List Gate → List ℕ → Type 0
Fits gs s = All (WellFormed (length s)) gs
