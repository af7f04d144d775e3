use native.Mathlib.Omega.{arith}
use mathlib.Core.Path.{◌≡◌, refl, sym, ap, ◌∙◌}
use Rattle.node.specs.declared.nodes.Node.TheVariants as node
use Rattle.node.specs.Exprs.{ZERO, ONE, INPUT, NOT, XOR, AND}
use Rattle.node.specs.Trees.{tree_of}
use Rattle.program.specs.Tables.{tree_in}
use Rattle.program.proofs.OperandLaws.{Unary, Binary, node_there, tree_is, is_not, is_xor, is_and}
use Rattle.pool.proofs.LinePoolLaws.{taken_next, released_back}
use Rattle.controls.specs.Controls.{found}
use Rattle.construct.proofs.BuiltLaws.{built_zero, built_one, built_input, built_not, built_xor, built_plain, built_marked, cleanable, room_one, room_input, room_not, room_under, room_xor_first, room_xor_second, room_and_first, room_and_second, made_input, made_built, next_low, room_and, and_apart, room_cleaned, Made}
use Rattle.construct.proofs.builder.+build.Goals as goal
use Rattle.construct.proofs.builder.+build.Goals.{in-Some, in-None, in-Some-input_of, in-None-input_of}

pub node_at-requires : goal.node_at-requires
node_at-requires t c = node_there c.requires.valid

pub append-requires : goal.append-requires
unfolding tree_of
append-requires t c = room_one c.requires (tree_is c.requires.valid node.One (sym c.node_at.ensures ∙ c.in-One.is))

pub append-requires-in-Input : goal.append-requires-in-Input
unfolding tree_of
append-requires-in-Input t c = room_input c.requires (tree_is c.requires.valid (node.Input c.in-Input.j) (sym c.node_at.ensures ∙ c.in-Input.is))

pub append-requires-in-Not : goal.append-requires-in-Not
append-requires-in-Not t c = room_not c.requires (is_not c.requires.valid (sym c.node_at.ensures ∙ c.in-Not.is))

pub build-requires : goal.build-requires
build-requires t c =
    let k : Unary NOT c.args.nodes.now c.args.i c.in-Not.a = is_not c.requires.valid (sym c.node_at.ensures ∙ c.in-Not.is) in
    (omega (arith, k.only.low), room_under c.requires k c.append-in-Not.ensures)

pub build-next-requires : goal.build-next-requires
build-next-requires t c =
    let k : Binary XOR c.args.nodes.now c.args.i c.in-Xor.a c.in-Xor.b = is_xor c.requires.valid (sym c.node_at.ensures ∙ c.in-Xor.is) in
    (omega (arith, k.first.low), room_xor_first c.requires k)

pub build-requires-in-Xor : goal.build-requires-in-Xor
build-requires-in-Xor t c =
    let k : Binary XOR c.args.nodes.now c.args.i c.in-Xor.a c.in-Xor.b = is_xor c.requires.valid (sym c.node_at.ensures ∙ c.in-Xor.is) in
    (omega (arith, k.second.low), room_xor_second c.requires k c.build-next.ensures)

pub input_of-requires : goal.input_of-requires
input_of-requires t c =
    let k : Binary (AND c.in-And.marked) c.args.nodes.now c.args.i c.in-And.a c.in-And.b = is_and c.requires.valid (sym c.node_at.ensures ∙ c.in-And.is) in
    k.first.valid

pub build-next-requires-in-None : goal.build-next-requires-in-None
build-next-requires-in-None t c =
    let k : Binary (AND c.in-And.marked) c.args.nodes.now c.args.i c.in-And.a c.in-And.b = is_and c.requires.valid (sym c.node_at.ensures ∙ c.in-And.is) in
    (omega (arith, k.first.low), room_and_first c.requires k (sym c.input_of.ensures ∙ ap found c.in-None.is) (taken_next _ c.take.ensures))

pub overflow_cast-second : goal.overflow_cast-second
overflow_cast-second t c =
    let k : Binary (AND c.in-And.marked) c.args.nodes.now c.args.i c.in-And.a c.in-And.b = is_and c.requires.valid (sym c.node_at.ensures ∙ c.in-And.is) in
    let first : Made (tree_in c.args.nodes.now c.in-And.a) c.args.pool.free c.match-input_of.first c.match-input_of.next.free c.args.writer.now c.match-input_of.writer = elim c.match-input_of.branch [ in-Some w ↦ rw (w.first-is, w.next-is, w.writer-is) (made_input (sym c.input_of.ensures ∙ ap found w.in-Some.is) refl refl refl) | in-None w ↦ rw (w.first-is, w.next-is, w.writer-is) (made_built (sym c.input_of.ensures ∙ ap found w.in-None.is) (taken_next _ w.take.ensures) w.build-next-in-None.ensures refl refl refl) ] in
    omega (arith, next_low c.requires k first)

pub input_of-requires-in-And : goal.input_of-requires-in-And
input_of-requires-in-And t c =
    let k : Binary (AND c.in-And.marked) c.args.nodes.now c.args.i c.in-And.a c.in-And.b = is_and c.requires.valid (sym c.node_at.ensures ∙ c.in-And.is) in
    k.second.valid

pub take-requires-in-None-input_of : goal.take-requires-in-None-input_of
take-requires-in-None-input_of t c =
    let k : Binary (AND c.in-And.marked) c.args.nodes.now c.args.i c.in-And.a c.in-And.b = is_and c.requires.valid (sym c.node_at.ensures ∙ c.in-And.is) in
    let first : Made (tree_in c.args.nodes.now c.in-And.a) c.args.pool.free c.match-input_of.first c.match-input_of.next.free c.args.writer.now c.match-input_of.writer = elim c.match-input_of.branch [ in-Some w ↦ rw (w.first-is, w.next-is, w.writer-is) (made_input (sym c.input_of.ensures ∙ ap found w.in-Some.is) refl refl refl) | in-None w ↦ rw (w.first-is, w.next-is, w.writer-is) (made_built (sym c.input_of.ensures ∙ ap found w.in-None.is) (taken_next _ w.take.ensures) w.build-next-in-None.ensures refl refl refl) ] in
    next_low c.requires k first

pub build-next-requires-in-None-input_of : goal.build-next-requires-in-None-input_of
build-next-requires-in-None-input_of t c =
    let k : Binary (AND c.in-And.marked) c.args.nodes.now c.args.i c.in-And.a c.in-And.b = is_and c.requires.valid (sym c.node_at.ensures ∙ c.in-And.is) in
    let first : Made (tree_in c.args.nodes.now c.in-And.a) c.args.pool.free c.match-input_of.first c.match-input_of.next.free c.args.writer.now c.match-input_of.writer = elim c.match-input_of.branch [ in-Some w ↦ rw (w.first-is, w.next-is, w.writer-is) (made_input (sym c.input_of.ensures ∙ ap found w.in-Some.is) refl refl refl) | in-None w ↦ rw (w.first-is, w.next-is, w.writer-is) (made_built (sym c.input_of.ensures ∙ ap found w.in-None.is) (taken_next _ w.take.ensures) w.build-next-in-None.ensures refl refl refl) ] in
    (omega (arith, k.second.low), room_and_second c.requires k first (sym c.input_of-in-And.ensures ∙ ap found c.in-None-input_of.is) (taken_next _ c.take-in-None-input_of.ensures))

pub append_and-requires : goal.append_and-requires
append_and-requires t c =
    let k : Binary (AND c.in-And.marked) c.args.nodes.now c.args.i c.in-And.a c.in-And.b = is_and c.requires.valid (sym c.node_at.ensures ∙ c.in-And.is) in
    let first : Made (tree_in c.args.nodes.now c.in-And.a) c.args.pool.free c.match-input_of.first c.match-input_of.next.free c.args.writer.now c.match-input_of.writer = elim c.match-input_of.branch [ in-Some w ↦ rw (w.first-is, w.next-is, w.writer-is) (made_input (sym c.input_of.ensures ∙ ap found w.in-Some.is) refl refl refl) | in-None w ↦ rw (w.first-is, w.next-is, w.writer-is) (made_built (sym c.input_of.ensures ∙ ap found w.in-None.is) (taken_next _ w.take.ensures) w.build-next-in-None.ensures refl refl refl) ] in
    let second : Made (tree_in c.args.nodes.now c.in-And.b) c.match-input_of.next.free c.match-input_of-2.second c.match-input_of-2.next.free c.match-input_of.writer c.match-input_of-2.writer = elim c.match-input_of-2.branch [ in-Some-input_of w ↦ rw (w.second-is, w.next-is, w.writer-is) (made_input (sym c.input_of-in-And.ensures ∙ ap found w.in-Some-input_of.is) refl refl refl) | in-None-input_of w ↦ rw (w.second-is, w.next-is, w.writer-is) (made_built (sym c.input_of-in-And.ensures ∙ ap found w.in-None-input_of.is) (taken_next _ w.take-in-None-input_of.ensures) w.build-next-in-None-input_of.ensures refl refl refl) ] in
    room_and c.requires k first second

pub append_reversed-requires : goal.append_reversed-requires
append_reversed-requires t c =
    let k : Binary (AND c.in-And.marked) c.args.nodes.now c.args.i c.in-And.a c.in-And.b = is_and c.requires.valid (sym c.node_at.ensures ∙ c.in-And.is) in
    let first : Made (tree_in c.args.nodes.now c.in-And.a) c.args.pool.free c.match-input_of.first c.match-input_of.next.free c.args.writer.now c.match-input_of.writer = elim c.match-input_of.branch [ in-Some w ↦ rw (w.first-is, w.next-is, w.writer-is) (made_input (sym c.input_of.ensures ∙ ap found w.in-Some.is) refl refl refl) | in-None w ↦ rw (w.first-is, w.next-is, w.writer-is) (made_built (sym c.input_of.ensures ∙ ap found w.in-None.is) (taken_next _ w.take.ensures) w.build-next-in-None.ensures refl refl refl) ] in
    let second : Made (tree_in c.args.nodes.now c.in-And.b) c.match-input_of.next.free c.match-input_of-2.second c.match-input_of-2.next.free c.match-input_of.writer c.match-input_of-2.writer = elim c.match-input_of-2.branch [ in-Some-input_of w ↦ rw (w.second-is, w.next-is, w.writer-is) (made_input (sym c.input_of-in-And.ensures ∙ ap found w.in-Some-input_of.is) refl refl refl) | in-None-input_of w ↦ rw (w.second-is, w.next-is, w.writer-is) (made_built (sym c.input_of-in-And.ensures ∙ ap found w.in-None-input_of.is) (taken_next _ w.take-in-None-input_of.ensures) w.build-next-in-None-input_of.ensures refl refl refl) ] in
    let room = room_cleaned c.requires k c.if-marked.true in
    cleanable _ first second c.append_and.ensures (omega arith) (rw c.if-marked.true at (and_apart c.requires k)) room.0 room.1

pub release-next-requires : goal.release-next-requires
release-next-requires t c =
    let k : Binary (AND c.in-And.marked) c.args.nodes.now c.args.i c.in-And.a c.in-And.b = is_and c.requires.valid (sym c.node_at.ensures ∙ c.in-And.is) in
    let first : Made (tree_in c.args.nodes.now c.in-And.a) c.args.pool.free c.match-input_of.first c.match-input_of.next.free c.args.writer.now c.match-input_of.writer = elim c.match-input_of.branch [ in-Some w ↦ rw (w.first-is, w.next-is, w.writer-is) (made_input (sym c.input_of.ensures ∙ ap found w.in-Some.is) refl refl refl) | in-None w ↦ rw (w.first-is, w.next-is, w.writer-is) (made_built (sym c.input_of.ensures ∙ ap found w.in-None.is) (taken_next _ w.take.ensures) w.build-next-in-None.ensures refl refl refl) ] in
    let second : Made (tree_in c.args.nodes.now c.in-And.b) c.match-input_of.next.free c.match-input_of-2.second c.match-input_of-2.next.free c.match-input_of.writer c.match-input_of-2.writer = elim c.match-input_of-2.branch [ in-Some-input_of w ↦ rw (w.second-is, w.next-is, w.writer-is) (made_input (sym c.input_of-in-And.ensures ∙ ap found w.in-Some-input_of.is) refl refl refl) | in-None-input_of w ↦ rw (w.second-is, w.next-is, w.writer-is) (made_built (sym c.input_of-in-And.ensures ∙ ap found w.in-None-input_of.is) (taken_next _ w.take-in-None-input_of.ensures) w.build-next-in-None-input_of.ensures refl refl refl) ] in
    omega (arith, first.free_to, second.free_to)

pub returns-in-Zero : goal.returns-in-Zero
unfolding tree_of
returns-in-Zero t c =
    let is : tree_in c.args.nodes.now c.args.i ≡ ZERO = tree_is c.requires.valid node.Zero (sym c.node_at.ensures ∙ c.in-Zero.is) in
    rw is built_zero

pub returns-in-One : goal.returns-in-One
unfolding tree_of
returns-in-One t c =
    let is : tree_in c.args.nodes.now c.args.i ≡ ONE = tree_is c.requires.valid node.One (sym c.node_at.ensures ∙ c.in-One.is) in
    rw is (built_one c.append.ensures)

pub returns-in-Input : goal.returns-in-Input
unfolding tree_of
returns-in-Input t c =
    let is : tree_in c.args.nodes.now c.args.i ≡ INPUT c.in-Input.j = tree_is c.requires.valid (node.Input c.in-Input.j) (sym c.node_at.ensures ∙ c.in-Input.is) in
    rw is (built_input c.append-in-Input.ensures)

pub returns-in-Not : goal.returns-in-Not
returns-in-Not t c =
    let k : Unary NOT c.args.nodes.now c.args.i c.in-Not.a = is_not c.requires.valid (sym c.node_at.ensures ∙ c.in-Not.is) in
    rw k.is (built_not c.append-in-Not.ensures c.build.ensures)

pub returns-in-Xor : goal.returns-in-Xor
returns-in-Xor t c =
    let k : Binary XOR c.args.nodes.now c.args.i c.in-Xor.a c.in-Xor.b = is_xor c.requires.valid (sym c.node_at.ensures ∙ c.in-Xor.is) in
    rw k.is (built_xor c.build-next.ensures c.build-in-Xor.ensures)

pub returns-then-marked : goal.returns-then-marked
returns-then-marked t c =
    let k : Binary (AND c.in-And.marked) c.args.nodes.now c.args.i c.in-And.a c.in-And.b = is_and c.requires.valid (sym c.node_at.ensures ∙ c.in-And.is) in
    let first : Made (tree_in c.args.nodes.now c.in-And.a) c.args.pool.free c.match-input_of.first c.match-input_of.next.free c.args.writer.now c.match-input_of.writer = elim c.match-input_of.branch [ in-Some w ↦ rw (w.first-is, w.next-is, w.writer-is) (made_input (sym c.input_of.ensures ∙ ap found w.in-Some.is) refl refl refl) | in-None w ↦ rw (w.first-is, w.next-is, w.writer-is) (made_built (sym c.input_of.ensures ∙ ap found w.in-None.is) (taken_next _ w.take.ensures) w.build-next-in-None.ensures refl refl refl) ] in
    let second : Made (tree_in c.args.nodes.now c.in-And.b) c.match-input_of.next.free c.match-input_of-2.second c.match-input_of-2.next.free c.match-input_of.writer c.match-input_of-2.writer = elim c.match-input_of-2.branch [ in-Some-input_of w ↦ rw (w.second-is, w.next-is, w.writer-is) (made_input (sym c.input_of-in-And.ensures ∙ ap found w.in-Some-input_of.is) refl refl refl) | in-None-input_of w ↦ rw (w.second-is, w.next-is, w.writer-is) (made_built (sym c.input_of-in-And.ensures ∙ ap found w.in-None-input_of.is) (taken_next _ w.take-in-None-input_of.ensures) w.build-next-in-None-input_of.ensures refl refl refl) ] in
    rw k.is (built_marked _ first second c.append_and.ensures (omega arith) (rw c.if-marked.true at (and_apart c.requires k)) (room_cleaned c.requires k c.if-marked.true).0 c.if-marked.true c.append_reversed.ensures (released_back _ _ c.release-next.ensures))

pub returns-else-marked : goal.returns-else-marked
returns-else-marked t c =
    let k : Binary (AND c.in-And.marked) c.args.nodes.now c.args.i c.in-And.a c.in-And.b = is_and c.requires.valid (sym c.node_at.ensures ∙ c.in-And.is) in
    let first : Made (tree_in c.args.nodes.now c.in-And.a) c.args.pool.free c.match-input_of.first c.match-input_of.next.free c.args.writer.now c.match-input_of.writer = elim c.match-input_of.branch [ in-Some w ↦ rw (w.first-is, w.next-is, w.writer-is) (made_input (sym c.input_of.ensures ∙ ap found w.in-Some.is) refl refl refl) | in-None w ↦ rw (w.first-is, w.next-is, w.writer-is) (made_built (sym c.input_of.ensures ∙ ap found w.in-None.is) (taken_next _ w.take.ensures) w.build-next-in-None.ensures refl refl refl) ] in
    let second : Made (tree_in c.args.nodes.now c.in-And.b) c.match-input_of.next.free c.match-input_of-2.second c.match-input_of-2.next.free c.match-input_of.writer c.match-input_of-2.writer = elim c.match-input_of-2.branch [ in-Some-input_of w ↦ rw (w.second-is, w.next-is, w.writer-is) (made_input (sym c.input_of-in-And.ensures ∙ ap found w.in-Some-input_of.is) refl refl refl) | in-None-input_of w ↦ rw (w.second-is, w.next-is, w.writer-is) (made_built (sym c.input_of-in-And.ensures ∙ ap found w.in-None-input_of.is) (taken_next _ w.take-in-None-input_of.ensures) w.build-next-in-None-input_of.ensures refl refl refl) ] in
    rw k.is (built_plain _ first second c.append_and.ensures c.if-marked.false)
