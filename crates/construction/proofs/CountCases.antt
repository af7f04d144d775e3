-- The number of gates that is shown, at the limit and above it. Assumes nothing.
use mathlib.Core.Path.{◌≡◌, refl}
use Rattle.wire.specs.Shown.{shown}
use Rattle.construction.specs.Counting.{gates_shown}

-- 3,000,000 is shown as it is, and every larger number as 3,000,001
pub at_limit : gates_shown 3000000 ≡ 3000000
unfolding gates_shown shown
at_limit = refl

pub above_limit : gates_shown 3000002 ≡ 3000001
unfolding gates_shown shown
above_limit = refl

pub far_above : gates_shown 18446744073709551616 ≡ 3000001
unfolding gates_shown shown
far_above = refl
