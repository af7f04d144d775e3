use Rattle.std.proofs.Common.{arith}
use Rattle.std.proofs.lemmas.Bool.Decides.{nat_tests}
use Rattle.std.proofs.lemmas.Grind.{common_steps}
use Rattle.contents.specs.Contents.{table_fits}
use Rattle.contents.proofs.reader.table_fits.Goals as goal

pub returns-then-get16-count : goal.returns-then-get16-count
unfolding table_fits
returns-then-get16-count c = grind (arith, common_steps, nat_tests)

pub returns-else-get16-count : goal.returns-else-get16-count
unfolding table_fits
returns-else-get16-count c = grind (arith, common_steps, nat_tests)
