use native.Mathlib.Omega.{arith}
use borrow.Author.Tests.{le-leb, lt-leb}
use Rattle.wire.specs.Limits.{most_size}
use Rattle.refusal.specs.declared.causes.Refusal.TheVariants as cause
use Rattle.refusal.proofs.AnswerLaws.{each_fails, each_holds}
use Rattle.refusal.proofs.CheckLaws.{passed_next, passed_fails, passed_all}
use Rattle.sizing.proofs.check_sizes.Goals as goal

pub returns-then-sizes-output_at-gt-MOST_SIZE : goal.returns-then-sizes-output_at-gt-MOST_SIZE
returns-then-sizes-output_at-gt-MOST_SIZE c =
    let at = c.loop-k in
    let large = lt-leb _ most_size (omega (arith, rw c.output_at.ensures at c.if-sizes-output_at-gt-MOST_SIZE.true)) in
    each_fails _ _ cause.Size (passed_fails _ at.invariant c.loop-k-test.true large) c.loop-k-test.true

pub loop-k-preserved : goal.loop-k-preserved
loop-k-preserved c =
    passed_next _ c.loop-k.invariant c.loop-k-test.true (le-leb _ most_size (rw c.output_at.ensures at c.if-sizes-output_at-gt-MOST_SIZE.false))

pub returns : goal.returns
returns c = each_holds _ _ cause.Size (passed_all _ c.loop-k.invariant c.loop-k-test.false)
