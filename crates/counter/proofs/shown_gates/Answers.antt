use native.Mathlib.Omega.{arith}
use Rattle.wire.specs.Shown.{shown}
use Rattle.construction.specs.Counting.{gates_shown}
use Rattle.counter.proofs.shown_gates.Goals as goal

pub returns : goal.returns
unfolding gates_shown shown
returns c = omega (arith, c.min.ensures)
