use mathlib.Core.Path.{refl}
use Prim.Native.Nat.{◌<◌, ◌^◌}
use lib.ListN.{get_or}
use Rattle.std.proofs.Common.{rules}
use Rattle.node.proofs.NodeLaws.{not_operand, xor_operands, and_operands}
use Rattle.filling.proofs.FillLaws.{item_of_next}
use Rattle.word_values.specs.WordBits.{question_count}
use Rattle.word_values.proofs.WordValueLaws.{next_zero, next_one, next_input, next_not, next_xor, next_and}
use Rattle.word_values.proofs.WordsFold.item.Goals as goal

pub returns-in-Zero : goal.returns-in-Zero
returns-in-Zero c ts e = rw c.in-Zero.is (item_of_next _ _ (next_zero c.args.self.now.inputs.now _ refl) ts e)

pub returns-in-One : goal.returns-in-One
returns-in-One c ts e = rw c.in-One.is (item_of_next _ _ (next_one c.args.self.now.inputs.now _ refl) ts e)

pub returns-in-Input : goal.returns-in-Input
returns-in-Input c ts e =
    let fits : get_or c.args.self.now.inputs.now c.in-Input.j 0 < 2 ^ question_count = search rules in
    rw c.in-Input.is (item_of_next _ _ (next_input _ _ c.in-Input.j fits) ts e)

pub returns-in-Not : goal.returns-in-Not
returns-in-Not c ts e =
    rw c.in-Not.is (item_of_next _ _ (next_not c.args.self.now.inputs.now _ c.in-Not.a (not_operand _ _ c.requires.2.ordered c.in-Not.is) refl) ts e)

pub returns-in-Xor : goal.returns-in-Xor
returns-in-Xor c ts e =
    let below = xor_operands _ _ c.requires.2.ordered c.in-Xor.is in
    rw c.in-Xor.is (item_of_next _ _ (next_xor c.args.self.now.inputs.now _ c.in-Xor.a c.in-Xor.b below.0 below.1 refl) ts e)

pub returns-in-And : goal.returns-in-And
returns-in-And c ts e =
    let below = and_operands _ _ c.requires.2.ordered c.in-And.is in
    rw c.in-And.is (item_of_next _ _ (next_and c.args.self.now.inputs.now _ c.in-And.a c.in-And.b below.0 below.1 c.in-And.field-0 refl) ts e)
