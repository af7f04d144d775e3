use native.Mathlib.Omega.{arith}
use Rattle.areas.proofs.TableLaws.{stored_start, stored_next, stored_all, stored_small, tags_count, paired, tag_at, length_at}
use Rattle.areas.proofs.table.write_contents.Goals as goal

pub loop-i-init : goal.loop-i-init
loop-i-init c = rw (← tags_count c.args.bodies.now) (stored_start _ _ _)

pub overflow_add-start-in-loop-i : goal.overflow_add-start-in-loop-i
overflow_add-start-in-loop-i c =
    let bodies = c.args.bodies.now in
    let small = stored_small _ _ _ c.loop-i.invariant (rw (tags_count bodies) c.loop-i-test.true) (paired bodies) in
    omega (arith, rw (tags_count bodies, length_at bodies) at small, c.requires.small)

pub loop-i-preserved : goal.loop-i-preserved
loop-i-preserved c =
    let bodies = c.args.bodies.now in
    rw (← length_at bodies c.loop-i.i)
    (stored_next _ _ _ c.loop-i.invariant (rw (tags_count bodies) c.loop-i-test.true) (paired bodies) (rw (tag_at bodies, length_at bodies) c.put_entry.ensures) c.put_entry.auto.area)

pub returns : goal.returns
returns c =
    let count = tags_count c.args.bodies.now in
    stored_all _ _ _ c.loop-i.invariant _ (rw count c.loop-i-test.false) (rw count c.put16.ensures)
