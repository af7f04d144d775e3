use Rattle.std.proofs.Common.{arith}
use Rattle.std.proofs.lemmas.Bool.Decides.{nat_tests}
use Rattle.std.proofs.lemmas.Grind.{common_steps}
use Rattle.circuit.specs.Reading.{lengths_fit}
use Rattle.circuit.proofs.reader.lengths_fit.Goals as goal

pub returns-then-gates-eq0 : goal.returns-then-gates-eq0
unfolding lengths_fit
returns-then-gates-eq0 c = grind (arith, common_steps, nat_tests)

pub returns-else-gates-eq0 : goal.returns-else-gates-eq0
unfolding lengths_fit
returns-else-gates-eq0 c = grind (arith, common_steps, nat_tests)
