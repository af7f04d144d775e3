-- What gates do to the lines (001, 3.3). The lines are a list of bits, one for each line.
use Rattle.std.specs.Prelude.{ℕ, ◌*◌, Bool, cond, List, [], ◌∷◌, reverse, set}
use Rattle.wire.specs.Bits.{xor_bit, bit}
use Rattle.gate.specs.declared.gates.Gate.{Gate}
use Rattle.gate.specs.declared.gates.Gate.TheVariants.{Not, Cnot, Toffoli}
use Rattle.gate.specs.Gates.{target}

-- what a gate XORs into its target: 1, its control, or the AND of its controls
unfoldable pub addend : Gate → List ℕ → ℕ
addend (Not t) s = 1
addend (Cnot a t) s = bit s a
addend (Toffoli a b t) s = bit s a * bit s b

-- the lines after one gate
unfoldable pub step : Gate → List ℕ → List ℕ
step g s = set s (target g) (xor_bit (bit s (target g)) (addend g s))

-- the lines after all gates, first to last
unfoldable pub run : List Gate → List ℕ → List ℕ
run [] s = s
run (g ∷ gs) s = run gs (step g s)

-- the lines after all gates run backwards (01), last to first
abbrev pub run_back : List Gate → List ℕ → List ℕ
run_back gs s = run (reverse gs) s

-- the gates whose target is not left out
unfoldable pub without : (ℕ → Bool) → List Gate → List Gate
without out [] = []
without out (g ∷ gs) = cond (out (target g)) (without out gs) (g ∷ without out gs)

-- undoing the gates (001, uncompute) except those whose target is left out: the others, reversed
unfoldable pub uncompute : (ℕ → Bool) → List Gate → List Gate
uncompute out gs = reverse (without out gs)
