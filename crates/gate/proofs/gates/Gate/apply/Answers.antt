use native.Mathlib.Omega.{arith}
use lib.ListN.{length}
use Rattle.wire.proofs.BitLaws.{bit_below}
use Rattle.gate.proofs.StepLaws.{addend_bit, step_is}
use Rattle.gate.proofs.WellFormedLaws.{target_below}
use Rattle.gate.proofs.gates.Gate.apply.Goals as goal

pub bounds-lines-at : goal.bounds-lines-at
bounds-lines-at c = let a = c.args in omega (arith, c.target-at.ensures, target_below (length a.lines.now) a.self c.requires.0)

pub xor_bits-requires : goal.xor_bits-requires
xor_bits-requires c = let a = c.args in
    let b = c.requires.1 in
    (bit_below a.lines.now b c.target-at.result, omega (arith, c.addend-addend.ensures, addend_bit a.self a.lines.now b))

pub bounds-lines-at-2 : goal.bounds-lines-at-2
bounds-lines-at-2 c = let a = c.args in omega (arith, c.target-at.ensures, target_below (length a.lines.now) a.self c.requires.0)

pub returns : goal.returns
returns c = step_is c.args.self c.args.lines.now c.target-at.ensures c.addend-addend.ensures c.xor_bits.ensures
