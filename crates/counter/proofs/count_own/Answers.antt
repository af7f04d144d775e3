use native.Mathlib.Omega.{arith}
use mathlib.Core.Path.{refl}
use Rattle.counter.proofs.CounterLaws.{no_overflow}
use Rattle.counter.proofs.count_own.Goals as goal

pub overflow_add-result : goal.overflow_add-result
overflow_add-result c = omega (arith, no_overflow _ _ c.requires.0 c.requires.1)

pub returns : goal.returns
returns c = refl
