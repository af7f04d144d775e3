use native.Mathlib.Omega.{arith}
use Rattle.node.proofs.NodeLaws.{not_operand, xor_operands, and_operands}
use Rattle.filling.proofs.FillLaws.{item_of_next}
use Rattle.sizing.proofs.SizeLaws.{entry_few, next_zero, next_one, next_input, next_not, next_xor, next_and}
use Rattle.sizing.proofs.SizesFold.item.Goals as goal

pub joined-requires : goal.joined-requires
joined-requires c =
    let l = c.requires.2 in
    let few = entry_few l.trees l.listed _ (not_operand _ _ l.ordered c.in-Not.is) in
    (omega (arith, few), omega arith)

pub joined-requires-in-Xor : goal.joined-requires-in-Xor
joined-requires-in-Xor c =
    let l = c.requires.2 in
    let o = xor_operands _ _ l.ordered c.in-Xor.is in
    let first = entry_few l.trees l.listed _ o.0 in
    let second = entry_few l.trees l.listed _ o.1 in
    (omega (arith, first, second), omega (arith, first, second))

pub joined-requires-in-And : goal.joined-requires-in-And
joined-requires-in-And c =
    let l = c.requires.2 in
    let o = and_operands _ _ l.ordered c.in-And.is in
    let first = entry_few l.trees l.listed _ o.0 in
    let second = entry_few l.trees l.listed _ o.1 in
    (omega (arith, first, second), omega (arith, first, second))

pub returns-in-Zero : goal.returns-in-Zero
returns-in-Zero c = rw c.in-Zero.is (item_of_next _ _ (next_zero _))

pub returns-in-One : goal.returns-in-One
returns-in-One c = rw c.in-One.is (item_of_next _ _ (next_one _))

pub returns-in-Input : goal.returns-in-Input
returns-in-Input c = rw c.in-Input.is (item_of_next _ _ (next_input _ _))

pub returns-in-Not : goal.returns-in-Not
returns-in-Not c =
    rw c.in-Not.is (item_of_next _ _ (next_not c.in-Not.a (not_operand _ _ c.requires.2.ordered c.in-Not.is) c.joined.ensures))

pub returns-in-Xor : goal.returns-in-Xor
returns-in-Xor c =
    rw c.in-Xor.is (item_of_next _ _ (next_xor {ss = c.args.sizes.now} c.in-Xor.a c.in-Xor.b (xor_operands _ _ c.requires.2.ordered c.in-Xor.is) c.joined-in-Xor.ensures))

pub returns-in-And : goal.returns-in-And
returns-in-And c =
    rw c.in-And.is (item_of_next _ _ (next_and {ss = c.args.sizes.now} c.in-And.a c.in-And.b (and_operands _ _ c.requires.2.ordered c.in-And.is) c.joined-in-And.ensures c.in-And.field-0))
