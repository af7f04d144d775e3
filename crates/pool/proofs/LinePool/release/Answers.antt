use mathlib.Core.Path.{refl}
use Rattle.pool.proofs.LinePoolLaws.{releases_back}
use Rattle.pool.proofs.LinePool.release.Goals as goal

pub returns : goal.returns
returns c = releases_back _ _ refl
