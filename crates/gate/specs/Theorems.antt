-- What is proved of gates; the proofs are in proofs/StepLaws.antt and proofs/ControlOrderLaws.antt.
use Rattle.std.specs.Prelude.{ℕ, ◌≡◌, Bool, false, List, ◌++◌}
use Rattle.wire.specs.Bits.{bit, Bits}
use Rattle.gate.specs.declared.gates.Gate.{Gate}
use Rattle.gate.specs.Gates.{Controls, All, Fits}
use Rattle.gate.specs.ControlOrder.{exchange_controls, SameGates}
use Rattle.gate.specs.Running.{step, run, run_back, uncompute}

-- running backwards undoes running forwards
abbrev pub BackwardsUndoes : Type 0
BackwardsUndoes = (gs : List Gate) (s : List ℕ) → Fits gs s → Bits s → run_back gs (run gs s) ≡ s

-- running forwards undoes running backwards
abbrev pub ForwardsUndoes : Type 0
ForwardsUndoes = (gs : List Gate) (s : List ℕ) → Fits gs s → Bits s → run gs (run_back gs s) ≡ s

-- no line left out is a control of the gate
abbrev pub Spares : (ℕ → Bool) → Gate → Type 0
Spares out g = Controls (λ c. out c ≡ false) g

-- the uncompute lemma (001, Lemma 1): where no line left out is a control, running the gates and then their undoing leaves every other line as it started
abbrev pub Uncomputes : Type 0
Uncomputes =
    (out : ℕ → Bool) (gs : List Gate) (s : List ℕ) → Fits gs s → All (Spares out) gs → Bits s
    → (i : ℕ) → out i ≡ false → bit (run (gs ++ uncompute out gs) s) i ≡ bit s i

-- exchanging a gate's controls does not change what it does to any lines
abbrev pub ExchangeSame : Type 0
ExchangeSame = (g : Gate) (s : List ℕ) → step (exchange_controls g) s ≡ step g s

-- gates that differ at most in the order of controls do the same to any lines
abbrev pub SameRuns : Type 0
SameRuns = (gs hs : List Gate) (s : List ℕ) → SameGates gs hs → run gs s ≡ run hs s
