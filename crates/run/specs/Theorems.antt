-- What is proved of running circuit files; the proofs are in proofs/.
use Rattle.std.specs.Prelude.{ℕ, ◌≡◌, List}
use Rattle.refusal.specs.Answers.{result}
use Rattle.run.specs.RunCircuit.{run_forwards, run_backwards}

-- running an accepted file backwards undoes running it forwards
abbrev pub BackwardsUndoesFile : Type 0
BackwardsUndoesFile = (f s after : List ℕ) → run_forwards f s ≡ result after → run_backwards f after ≡ result s

-- running an accepted file forwards undoes running it backwards
abbrev pub ForwardsUndoesFile : Type 0
ForwardsUndoesFile = (f s after : List ℕ) → run_backwards f s ≡ result after → run_forwards f after ≡ result s
