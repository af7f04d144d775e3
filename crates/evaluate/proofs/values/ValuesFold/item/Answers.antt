use native.Mathlib.Omega.{arith}
use Rattle.node.proofs.NodeLaws.{not_operand, xor_operands, and_operands}
use Rattle.node.proofs.ValueLaws.{next_zero, next_one, next_input, next_not, next_xor, next_and}
use Rattle.filling.proofs.FillLaws.{item_of_next}
use Rattle.evaluate.proofs.FillLaws.{item_bit}
use Rattle.evaluate.proofs.values.ValuesFold.item.Goals as goal

pub xor_bits-requires : goal.xor_bits-requires
xor_bits-requires c =
    let l = c.requires.2 in
    let s = c.args.self.now in
    (omega arith, item_bit s.inputs.now s.bits l.trees l.listed _ (not_operand _ _ l.ordered c.in-Not.is))

pub xor_bits-requires-in-Xor : goal.xor_bits-requires-in-Xor
xor_bits-requires-in-Xor c =
    let l = c.requires.2 in
    let s = c.args.self.now in
    let o = xor_operands _ _ l.ordered c.in-Xor.is in
    let first = item_bit s.inputs.now s.bits l.trees l.listed _ o.0 in
    let second = item_bit s.inputs.now s.bits l.trees l.listed _ o.1 in
    (omega (arith, first, second), omega (arith, first, second))

pub and_bits-requires : goal.and_bits-requires
and_bits-requires c =
    let l = c.requires.2 in
    let s = c.args.self.now in
    let o = and_operands _ _ l.ordered c.in-And.is in
    let first = item_bit s.inputs.now s.bits l.trees l.listed _ o.0 in
    let second = item_bit s.inputs.now s.bits l.trees l.listed _ o.1 in
    (omega (arith, first, second), omega (arith, first, second))

pub returns-in-Zero : goal.returns-in-Zero
returns-in-Zero c = rw c.in-Zero.is (item_of_next _ _ (next_zero c.args.self.now.inputs.now _))

pub returns-in-One : goal.returns-in-One
returns-in-One c = rw c.in-One.is (item_of_next _ _ (next_one c.args.self.now.inputs.now _))

pub returns-in-Input : goal.returns-in-Input
returns-in-Input c = rw c.in-Input.is (item_of_next _ _ (next_input c.args.self.now.inputs.now _ c.in-Input.j))

pub returns-in-Not : goal.returns-in-Not
returns-in-Not c = rw c.in-Not.is (item_of_next _ _ (next_not c.args.self.now.inputs.now c.in-Not.a c.xor_bits.ensures))

pub returns-in-Xor : goal.returns-in-Xor
returns-in-Xor c = rw c.in-Xor.is (item_of_next _ _ (next_xor c.args.self.now.inputs.now {vs = c.args.values.now} c.in-Xor.a c.in-Xor.b c.xor_bits-in-Xor.ensures))

pub returns-in-And : goal.returns-in-And
returns-in-And c = rw c.in-And.is (item_of_next _ _ (next_and c.args.self.now.inputs.now {vs = c.args.values.now} c.in-And.field-0 c.in-And.a c.in-And.b c.and_bits.ensures))
