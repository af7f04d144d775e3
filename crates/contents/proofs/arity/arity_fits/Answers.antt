use Rattle.std.proofs.Common.{arith}
use Rattle.std.proofs.lemmas.Bool.Decides.{nat_tests}
use Rattle.std.proofs.lemmas.Grind.{common_steps}
use Rattle.contents.specs.Arity.{arity_fits}
use Rattle.contents.proofs.arity.arity_fits.Goals as goal

pub returns-then-outputs-ge1 : goal.returns-then-outputs-ge1
unfolding arity_fits
returns-then-outputs-ge1 c = grind (arith, common_steps, nat_tests)

pub returns-else-outputs-ge1 : goal.returns-else-outputs-ge1
unfolding arity_fits
returns-else-outputs-ge1 c = grind (arith, common_steps, nat_tests)
