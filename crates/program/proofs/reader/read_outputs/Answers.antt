use native.Mathlib.Omega.{arith}
use borrow.Author.Tests.{lt-ltb, le-ltb}
use Rattle.refusal.specs.declared.causes.Refusal.TheVariants as cause
use Rattle.refusal.proofs.AnswerLaws.{each_fails, each_holds}
use Rattle.refusal.proofs.CheckLaws.{passed_next, passed_fails, passed_all}
use Rattle.program.specs.Reading.{output_at, output_fits}
use Rattle.program.proofs.reader.read_outputs.Goals as goal

pub returns-then-nodes-output_at : goal.returns-then-nodes-output_at
unfolding output_fits
returns-then-nodes-output_at c =
    let a = c.args in
    let k = c.loop-k.k in
    let fails = passed_fails _ c.loop-k.invariant c.loop-k-test.true (le-ltb (output_at a.outputs.now k) a.nodes (omega (arith, c.output_at.ensures, c.if-nodes-output_at.true))) in
    each_fails _ _ cause.Output fails c.loop-k-test.true

pub loop-k-preserved : goal.loop-k-preserved
unfolding output_fits
loop-k-preserved c =
    let a = c.args in
    let k = c.loop-k.k in
    passed_next _ c.loop-k.invariant c.loop-k-test.true (lt-ltb (output_at a.outputs.now k) a.nodes (omega (arith, c.output_at.ensures, c.if-nodes-output_at.false)))

pub returns : goal.returns
returns c = each_holds _ _ cause.Output (passed_all _ c.loop-k.invariant c.loop-k-test.false)
