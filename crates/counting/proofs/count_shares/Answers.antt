use Prim.Native.Nat.{◌<◌}
use native.Mathlib.Omega.{arith}
use mathlib.Core.Path.{refl}
use Rattle.program.proofs.OperandLaws.{trees_length}
use Rattle.counter.specs.Counter.{gates_in, most_in}
use Rattle.counting.specs.Counters.{Countable}
use Rattle.counting.proofs.CountedLaws.{tallied_start, tallied_few, output_room, tallied_output, tallied_all}
use Rattle.counting.proofs.count_shares.Goals as goal

pub loop-k-init : goal.loop-k-init
loop-k-init c = tallied_start _

pub free_lines-requires : goal.free_lines-requires
free_lines-requires c =
    let below : c.loop-k.k < 64 = omega (arith, c.loop-k-test.true, c.requires.outputs_most) in
    tallied_few c.loop-k.invariant (omega (arith, below))

pub count-state-requires : goal.count-state-requires
count-state-requires c =
    let below : c.loop-k.k < 64 = omega (arith, c.loop-k-test.true, c.requires.outputs_most) in
    let countable : Countable c.args.nodes.now c.output_at.result = rw c.output_at.ensures (c.requires.each c.loop-k.k c.loop-k-test.true) in
    let small = countable in
    (small, output_room c.loop-k.invariant c.free_lines.ensures below small.small)

pub loop-k-preserved : goal.loop-k-preserved
loop-k-preserved c =
    let countable : Countable c.args.nodes.now c.output_at.result = rw c.output_at.ensures (c.requires.each c.loop-k.k c.loop-k-test.true) in
    let o = c.output_at in
    tallied_output c.args.nodes.now c.args.outputs.now c.loop-k.invariant c.loop-k-test.true o.result c.free_lines.result c.count-state.result c.free_lines.ensures o.ensures countable c.count-state.ensures

pub returns : goal.returns
unfolding gates_in most_in
returns c =
    tallied_all c.loop-k.invariant
    (omega (arith, c.loop-k-test.false, trees_length c.args.nodes.now c.args.outputs.now))
    (rw c.shown_gates.ensures refl)
