use native.Mathlib.Omega.{arith}
use mathlib.Core.Path.{◌≡◌, sym, ap, ◌∙◌}
use mathlib.Core.Bool.{not}
use Rattle.node.specs.declared.nodes.Node.TheVariants as node
use Rattle.node.specs.Exprs.{ZERO, ONE, INPUT, NOT, XOR, AND, size}
use Rattle.node.specs.Trees.{tree_of}
use Rattle.program.specs.Tables.{tree_in}
use Rattle.program.proofs.OperandLaws.{Unary, Binary, node_there, tree_is, is_not, is_xor, is_and}
use Rattle.counter.specs.Counter.{one_gate}
use Rattle.counting.proofs.CountedLaws as law
use Rattle.counting.proofs.CountedLaws.{Made, made_input, made_built, made_use, countable_operand}
use Prim.Native.Nat.{◌+◌, ◌*◌}
use Rattle.counting.proofs.+count.Goals as goal
use Rattle.counting.proofs.+count.Goals.{then-is_none, else-is_none, then-is_none-2, else-is_none-2, then-marked, else-marked}

pub node_at-node-requires : goal.node_at-node-requires
node_at-node-requires t c = node_there c.requires.0.valid

pub count_own-requires : goal.count_own-requires
count_own-requires t c = let few = law.one_more c.requires.1 in (few.0, omega (arith, few.1))

pub count_own-requires-in-Input : goal.count_own-requires-in-Input
count_own-requires-in-Input t c = law.one_more c.requires.1

pub count_own-requires-in-Not : goal.count_own-requires-in-Not
count_own-requires-in-Not t c = law.one_more c.requires.1

pub count-requires : goal.count-requires
unfolding size
count-requires t c =
    let as_not : Unary NOT c.args.nodes.now c.args.i c.in-Not.a = is_not c.requires.0.valid (sym c.node_at-node.ensures ∙ c.in-Not.is) in
    let not_size : size (tree_in c.args.nodes.now c.args.i) ≡ 1 + size (tree_in c.args.nodes.now c.in-Not.a) = ap size as_not.is in
    let k = as_not in (omega (arith, k.only.low), (countable_operand c.requires.0 k.only, law.not_room c.requires.1 not_size c.count_own-in-Not.ensures))

pub count-first-requires : goal.count-first-requires
unfolding size
count-first-requires t c =
    let as_xor : Binary XOR c.args.nodes.now c.args.i c.in-Xor.a c.in-Xor.b = is_xor c.requires.0.valid (sym c.node_at-node.ensures ∙ c.in-Xor.is) in
    let xor_size : size (tree_in c.args.nodes.now c.args.i) ≡ 1 + size (tree_in c.args.nodes.now c.in-Xor.a) + size (tree_in c.args.nodes.now c.in-Xor.b) = ap size as_xor.is in
    let k = as_xor in (omega (arith, k.first.low), (countable_operand c.requires.0 k.first, law.xor_first c.requires.1 _ _ xor_size))

pub count-requires-in-Xor : goal.count-requires-in-Xor
unfolding size
count-requires-in-Xor t c =
    let as_xor : Binary XOR c.args.nodes.now c.args.i c.in-Xor.a c.in-Xor.b = is_xor c.requires.0.valid (sym c.node_at-node.ensures ∙ c.in-Xor.is) in
    let xor_size : size (tree_in c.args.nodes.now c.args.i) ≡ 1 + size (tree_in c.args.nodes.now c.in-Xor.a) + size (tree_in c.args.nodes.now c.in-Xor.b) = ap size as_xor.is in
    let k = as_xor in (omega (arith, k.second.low), (countable_operand c.requires.0 k.second, law.xor_second c.requires.1 _ _ xor_size c.count-first.ensures))

pub input_of-requires : goal.input_of-requires
input_of-requires t c =
    let as_and : Binary (AND c.in-And.marked) c.args.nodes.now c.args.i c.in-And.a c.in-And.b = is_and c.requires.0.valid (sym c.node_at-node.ensures ∙ c.in-And.is) in
    as_and.first.valid

pub take_line-requires : goal.take_line-requires
unfolding size
take_line-requires t c =
    let as_and : Binary (AND c.in-And.marked) c.args.nodes.now c.args.i c.in-And.a c.in-And.b = is_and c.requires.0.valid (sym c.node_at-node.ensures ∙ c.in-And.is) in
    let and_size : size (tree_in c.args.nodes.now c.args.i) ≡ 1 + size (tree_in c.args.nodes.now c.in-And.a) + size (tree_in c.args.nodes.now c.in-And.b) = ap size as_and.is in
    law.take_first c.requires.1 _ _ and_size

pub count-made-requires : goal.count-made-requires
unfolding size
count-made-requires t c =
    let as_and : Binary (AND c.in-And.marked) c.args.nodes.now c.args.i c.in-And.a c.in-And.b = is_and c.requires.0.valid (sym c.node_at-node.ensures ∙ c.in-And.is) in
    let and_size : size (tree_in c.args.nodes.now c.args.i) ≡ 1 + size (tree_in c.args.nodes.now c.in-And.a) + size (tree_in c.args.nodes.now c.in-And.b) = ap size as_and.is in
    let k = as_and in (omega (arith, k.first.low), (countable_operand c.requires.0 k.first, law.first_room c.requires.1 _ _ and_size c.take_line.ensures))

pub input_of-requires-in-And : goal.input_of-requires-in-And
input_of-requires-in-And t c =
    let as_and : Binary (AND c.in-And.marked) c.args.nodes.now c.args.i c.in-And.a c.in-And.b = is_and c.requires.0.valid (sym c.node_at-node.ensures ∙ c.in-And.is) in
    as_and.second.valid

pub take_line-requires-then-is_none-2 : goal.take_line-requires-then-is_none-2
unfolding size
take_line-requires-then-is_none-2 t c =
    let as_and : Binary (AND c.in-And.marked) c.args.nodes.now c.args.i c.in-And.a c.in-And.b = is_and c.requires.0.valid (sym c.node_at-node.ensures ∙ c.in-And.is) in
    let and_size : size (tree_in c.args.nodes.now c.args.i) ≡ 1 + size (tree_in c.args.nodes.now c.in-And.a) + size (tree_in c.args.nodes.now c.in-And.b) = ap size as_and.is in
    let first_made : Made (tree_in c.args.nodes.now c.in-And.a) c.args.state c.if-is_none.made = let take = law.take_first c.requires.1 _ _ and_size in elim c.if-is_none.branch [ then-is_none w ↦ rw w.made-is (made_built _ c.input_of.ensures take.2 take.1 (c.is_none.ensures ∙ ap not w.if-is_none.true) w.take_line.ensures w.count-made.ensures) | else-is_none w ↦ made_input _ c.input_of.ensures c.requires.1.in_use (c.is_none.ensures ∙ ap not w.if-is_none.false) w.made-is ] in
    law.take_second c.requires.1 _ _ and_size first_made

pub count-made-requires-then-is_none-2 : goal.count-made-requires-then-is_none-2
unfolding size
count-made-requires-then-is_none-2 t c =
    let as_and : Binary (AND c.in-And.marked) c.args.nodes.now c.args.i c.in-And.a c.in-And.b = is_and c.requires.0.valid (sym c.node_at-node.ensures ∙ c.in-And.is) in
    let and_size : size (tree_in c.args.nodes.now c.args.i) ≡ 1 + size (tree_in c.args.nodes.now c.in-And.a) + size (tree_in c.args.nodes.now c.in-And.b) = ap size as_and.is in
    let first_made : Made (tree_in c.args.nodes.now c.in-And.a) c.args.state c.if-is_none.made = let take = law.take_first c.requires.1 _ _ and_size in elim c.if-is_none.branch [ then-is_none w ↦ rw w.made-is (made_built _ c.input_of.ensures take.2 take.1 (c.is_none.ensures ∙ ap not w.if-is_none.true) w.take_line.ensures w.count-made.ensures) | else-is_none w ↦ made_input _ c.input_of.ensures c.requires.1.in_use (c.is_none.ensures ∙ ap not w.if-is_none.false) w.made-is ] in
    let k = as_and in (omega (arith, k.second.low), (countable_operand c.requires.0 k.second, law.second_room c.requires.1 _ _ and_size first_made c.take_line-then-is_none-2.ensures))

pub count_cleaning-made-requires : goal.count_cleaning-made-requires
unfolding size
count_cleaning-made-requires t c =
    let as_and : Binary (AND c.in-And.marked) c.args.nodes.now c.args.i c.in-And.a c.in-And.b = is_and c.requires.0.valid (sym c.node_at-node.ensures ∙ c.in-And.is) in
    let and_size : size (tree_in c.args.nodes.now c.args.i) ≡ 1 + size (tree_in c.args.nodes.now c.in-And.a) + size (tree_in c.args.nodes.now c.in-And.b) = ap size as_and.is in
    let first_made : Made (tree_in c.args.nodes.now c.in-And.a) c.args.state c.if-is_none.made = let take = law.take_first c.requires.1 _ _ and_size in elim c.if-is_none.branch [ then-is_none w ↦ rw w.made-is (made_built _ c.input_of.ensures take.2 take.1 (c.is_none.ensures ∙ ap not w.if-is_none.true) w.take_line.ensures w.count-made.ensures) | else-is_none w ↦ made_input _ c.input_of.ensures c.requires.1.in_use (c.is_none.ensures ∙ ap not w.if-is_none.false) w.made-is ] in
    let second_made : Made (tree_in c.args.nodes.now c.in-And.b) c.if-is_none.made c.if-is_none-2.made = let first = first_made in let take = law.take_second c.requires.1 _ _ and_size first in elim c.if-is_none-2.branch [ then-is_none-2 w ↦ rw w.made-is (made_built _ c.input_of-in-And.ensures take.2 take.1 (c.is_none-in-And.ensures ∙ ap not w.if-is_none-2.true) w.take_line-then-is_none-2.ensures w.count-made-then-is_none-2.ensures) | else-is_none-2 w ↦ made_input _ c.input_of-in-And.ensures (made_use first c.requires.1.in_use) (c.is_none-in-And.ensures ∙ ap not w.if-is_none-2.false) w.made-is ] in
    law.operands_made c.requires.1 _ _ and_size first_made second_made

pub count_own-requires-in-And : goal.count_own-requires-in-And
unfolding size
count_own-requires-in-And t c =
    let as_and : Binary (AND c.in-And.marked) c.args.nodes.now c.args.i c.in-And.a c.in-And.b = is_and c.requires.0.valid (sym c.node_at-node.ensures ∙ c.in-And.is) in
    let and_size : size (tree_in c.args.nodes.now c.args.i) ≡ 1 + size (tree_in c.args.nodes.now c.in-And.a) + size (tree_in c.args.nodes.now c.in-And.b) = ap size as_and.is in
    let first_made : Made (tree_in c.args.nodes.now c.in-And.a) c.args.state c.if-is_none.made = let take = law.take_first c.requires.1 _ _ and_size in elim c.if-is_none.branch [ then-is_none w ↦ rw w.made-is (made_built _ c.input_of.ensures take.2 take.1 (c.is_none.ensures ∙ ap not w.if-is_none.true) w.take_line.ensures w.count-made.ensures) | else-is_none w ↦ made_input _ c.input_of.ensures c.requires.1.in_use (c.is_none.ensures ∙ ap not w.if-is_none.false) w.made-is ] in
    let second_made : Made (tree_in c.args.nodes.now c.in-And.b) c.if-is_none.made c.if-is_none-2.made = let first = first_made in let take = law.take_second c.requires.1 _ _ and_size first in elim c.if-is_none-2.branch [ then-is_none-2 w ↦ rw w.made-is (made_built _ c.input_of-in-And.ensures take.2 take.1 (c.is_none-in-And.ensures ∙ ap not w.if-is_none-2.true) w.take_line-then-is_none-2.ensures w.count-made-then-is_none-2.ensures) | else-is_none-2 w ↦ made_input _ c.input_of-in-And.ensures (made_use first c.requires.1.in_use) (c.is_none-in-And.ensures ∙ ap not w.if-is_none-2.false) w.made-is ] in
    let is = and_size in
    let first = first_made in
    let second = second_made in
    elim c.if-marked.branch [ then-marked w ↦ rw w.made-is (law.cleaned_more c.requires.1 _ _ is first second w.count_cleaning-made.ensures) | else-marked w ↦ rw w.made-is (law.last_more c.requires.1 _ _ is first second) ]

pub returns-in-Zero : goal.returns-in-Zero
unfolding tree_of
returns-in-Zero t c =
    let as_zero : tree_in c.args.nodes.now c.args.i ≡ ZERO = tree_is c.requires.0.valid node.Zero (sym c.node_at-node.ensures ∙ c.in-Zero.is) in
    rw as_zero (law.counted_zero c.requires.1)

pub returns-in-One : goal.returns-in-One
unfolding tree_of
returns-in-One t c =
    let as_one : tree_in c.args.nodes.now c.args.i ≡ ONE = tree_is c.requires.0.valid node.One (sym c.node_at-node.ensures ∙ c.in-One.is) in
    rw as_one (law.counted_one c.requires.1 c.count_own.ensures)

pub returns-in-Input : goal.returns-in-Input
unfolding tree_of
returns-in-Input t c =
    let as_input : tree_in c.args.nodes.now c.args.i ≡ INPUT c.in-Input.field-0 = tree_is c.requires.0.valid (node.Input c.in-Input.field-0) (sym c.node_at-node.ensures ∙ c.in-Input.is) in
    rw as_input (law.counted_input c.requires.1 _ c.count_own-in-Input.ensures)

pub returns-in-Not : goal.returns-in-Not
returns-in-Not t c =
    let as_not : Unary NOT c.args.nodes.now c.args.i c.in-Not.a = is_not c.requires.0.valid (sym c.node_at-node.ensures ∙ c.in-Not.is) in
    rw as_not.is (law.counted_not c.requires.1 c.count_own-in-Not.ensures c.count.ensures)

pub returns-in-Xor : goal.returns-in-Xor
returns-in-Xor t c =
    let as_xor : Binary XOR c.args.nodes.now c.args.i c.in-Xor.a c.in-Xor.b = is_xor c.requires.0.valid (sym c.node_at-node.ensures ∙ c.in-Xor.is) in
    rw as_xor.is (law.counted_xor c.requires.1 c.count-first.ensures c.count-in-Xor.ensures)

pub returns-after-marked : goal.returns-after-marked
unfolding size
returns-after-marked t c =
    let as_and : Binary (AND c.in-And.marked) c.args.nodes.now c.args.i c.in-And.a c.in-And.b = is_and c.requires.0.valid (sym c.node_at-node.ensures ∙ c.in-And.is) in
    let and_size : size (tree_in c.args.nodes.now c.args.i) ≡ 1 + size (tree_in c.args.nodes.now c.in-And.a) + size (tree_in c.args.nodes.now c.in-And.b) = ap size as_and.is in
    let first_made : Made (tree_in c.args.nodes.now c.in-And.a) c.args.state c.if-is_none.made = let take = law.take_first c.requires.1 _ _ and_size in elim c.if-is_none.branch [ then-is_none w ↦ rw w.made-is (made_built _ c.input_of.ensures take.2 take.1 (c.is_none.ensures ∙ ap not w.if-is_none.true) w.take_line.ensures w.count-made.ensures) | else-is_none w ↦ made_input _ c.input_of.ensures c.requires.1.in_use (c.is_none.ensures ∙ ap not w.if-is_none.false) w.made-is ] in
    let second_made : Made (tree_in c.args.nodes.now c.in-And.b) c.if-is_none.made c.if-is_none-2.made = let first = first_made in let take = law.take_second c.requires.1 _ _ and_size first in elim c.if-is_none-2.branch [ then-is_none-2 w ↦ rw w.made-is (made_built _ c.input_of-in-And.ensures take.2 take.1 (c.is_none-in-And.ensures ∙ ap not w.if-is_none-2.true) w.take_line-then-is_none-2.ensures w.count-made-then-is_none-2.ensures) | else-is_none-2 w ↦ made_input _ c.input_of-in-And.ensures (made_use first c.requires.1.in_use) (c.is_none-in-And.ensures ∙ ap not w.if-is_none-2.false) w.made-is ] in
    let is = and_size in
    let first = first_made in
    let second = second_made in
    rw as_and.is
    (elim c.if-marked.branch [ then-marked w ↦ law.counted_marked c.requires.1 _ _ is first second w.count_cleaning-made.ensures w.if-marked.true (c.count_own-in-And.ensures ∙ ap (λ k. k + c.args.own * one_gate) w.made-is) | else-marked w ↦ law.counted_plain c.requires.1 _ _ is first second w.if-marked.false (c.count_own-in-And.ensures ∙ ap (λ k. k + c.args.own * one_gate) w.made-is) ])
