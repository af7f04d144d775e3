use mathlib.Core.Path.{refl}
use Rattle.pool.proofs.LinePoolLaws.{takes_next}
use Rattle.pool.proofs.LinePool.take.Goals as goal

pub returns : goal.returns
returns c = takes_next _ refl
