use Rattle.std.proofs.Common.{arith, refl}
use Rattle.std.proofs.lemmas.Bool.Decides.{nat_tests}
use Rattle.std.proofs.lemmas.Grind.{common_steps}
use Rattle.scanner.specs.Scanning.{digit_at}
use Rattle.scanner.proofs.PlaceLaws.{byte_some, byte_none}
use Rattle.scanner.proofs.digit_at.Goals as goal

pub returns-in-Some-48-to-57 : goal.returns-in-Some-48-to-57
unfolding digit_at
returns-in-Some-48-to-57 c = let b = byte_some c.args.text.now.now c.args.at c.byte_at.ensures c.in-Some-48-to-57.is in grind (arith, common_steps, nat_tests)

pub returns-in_default : goal.returns-in_default
unfolding digit_at
returns-in_default c = let b = byte_some c.args.text.now.now c.args.at c.byte_at.ensures c.in_default.is in grind (arith, common_steps, nat_tests)

pub returns-in_default-2 : goal.returns-in_default-2
unfolding digit_at
returns-in_default-2 c = let b = byte_some c.args.text.now.now c.args.at c.byte_at.ensures c.in_default.is in grind (arith, common_steps, nat_tests)

pub returns-in_default-3 : goal.returns-in_default-3
unfolding digit_at
returns-in_default-3 c = let b = byte_none c.args.text.now.now c.args.at c.byte_at.ensures c.in_default.is in rw b refl
