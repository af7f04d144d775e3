-- Why gates are undone last to first: 01's case, the AND of four inputs with every input 1. Assumes nothing.
use Prim.Native.Nat.{ℕ}
use mathlib.Core.Path.{◌≡◌, refl}
use mathlib.Core.List.{List, [], ◌∷◌, ◌++◌}
use lib.Dec.{eqb}
use Rattle.wire.specs.Bits.{xor_bit}
use Rattle.gate.specs.declared.gates.Gate.{Gate}
use Rattle.gate.specs.declared.gates.Gate.TheVariants.{Toffoli}
use Rattle.gate.specs.Gates.{target}
use Rattle.gate.specs.Running.{addend, step, run, without, uncompute}

-- the gates that XOR the AND of the inputs 0 to 3 into the target, line 4
abbrev pub four_inputs : List Gate
four_inputs = Toffoli 0 1 6 ∷ Toffoli 2 6 5 ∷ Toffoli 3 5 4 ∷ []

-- every input 1, the target and the work lines 0
abbrev pub all_ones : List ℕ
all_ones = 1 ∷ 1 ∷ 1 ∷ 1 ∷ 0 ∷ 0 ∷ 0 ∷ []

-- undone first to last, line 6 comes back before it is a control again, so that line 5 stays dirty
pub first_to_last : run (four_inputs ++ without (eqb 4) four_inputs) all_ones ≡ 1 ∷ 1 ∷ 1 ∷ 1 ∷ 1 ∷ 1 ∷ 0 ∷ []
unfolding run step target addend xor_bit without
first_to_last = refl

-- undone last to first, every work line comes back, and the target holds the AND
pub last_to_first : run (four_inputs ++ uncompute (eqb 4) four_inputs) all_ones ≡ 1 ∷ 1 ∷ 1 ∷ 1 ∷ 1 ∷ 0 ∷ 0 ∷ []
unfolding run step target addend xor_bit without uncompute
last_to_first = refl
