use native.Mathlib.Omega.{arith}
use Rattle.wire.specs.Shown.{shown}
use Rattle.sizing.proofs.joined.Goals as goal

pub returns : goal.returns
unfolding shown
returns c = omega (arith, c.min.ensures)
