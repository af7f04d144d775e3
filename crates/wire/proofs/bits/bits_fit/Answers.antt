use Rattle.std.proofs.Common.{rules, tests, arith}
use Rattle.std.proofs.lemmas.Iterator.{YieldsList-from_slice}
use Rattle.std.proofs.lemmas.Iterator.Search.{all_from_yields_List}
use Rattle.std.proofs.lemmas.Bool.Decides.{nat_tests}
use Rattle.std.proofs.lemmas.Grind.{common_steps}
use Rattle.std.specs.Prelude.{ltb}
use mathlib.Core.Path.{◌∙◌}
use Rattle.wire.specs.Bits.{bits_fit}
use Rattle.wire.proofs.BitLaws.{all_bits}
use Rattle.wire.proofs.bits.bits_fit.Goals as goal

pub returns-then-s-count : goal.returns-then-s-count
unfolding bits_fit
returns-then-s-count c =
    let all = all_from_yields_List (λ b. ltb b 2) _ _ c.all.result c.all.ensures.ran (YieldsList-from_slice c.args.s.now cc) (λ x b q k. search (rules, tests)) in
    let same = all ∙ all_bits c.args.s.now in
    grind (arith, common_steps, nat_tests)

pub returns-else-s-count : goal.returns-else-s-count
unfolding bits_fit
returns-else-s-count c = grind (arith, common_steps, nat_tests)
