use native.Mathlib.Omega.{arith}
use mathlib.Core.Path.{refl, ◌∙◌}
use Rattle.std.proofs.Common.{rules}
use Rattle.shares.proofs.ShareLoop.{writing_start, writing_room, writing_next, writing_all}
use Rattle.shares.proofs.write_shares.Goals as goal

pub overflow_add-free : goal.overflow_add-free
overflow_add-free c = omega (arith, c.requires.lines)

pub loop-k-init : goal.loop-k-init
loop-k-init c = record { writing = writing_start _ _ _ refl refl; same_area = refl }

pub overflow_add-target : goal.overflow_add-target
overflow_add-target c = omega (arith, c.requires.lines, c.loop-k-test.true)

pub overflow_cast-target : goal.overflow_cast-target
overflow_cast-target c = omega (arith, c.requires.lines, c.loop-k-test.true)

pub write_share-requires : goal.write_share-requires
write_share-requires c = rw c.output_at.ensures (writing_room _ _ _ c.loop-k.invariant.writing c.loop-k-test.true c.requires (omega arith) (omega (arith, c.loop-k-test.true)))

pub loop-k-preserved : goal.loop-k-preserved
loop-k-preserved c =
    record {
      writing = writing_next _ _ _ c.loop-k.invariant.writing c.loop-k-test.true (rw c.output_at.ensures at c.write_share.ensures);
      same_area = c.write_share.ensures.same_area ∙ c.loop-k.invariant.same_area;
    }

pub returns : goal.returns
returns c =
    let all = writing_all _ _ _ c.loop-k.invariant.writing c.loop-k-test.false in
    let same = c.loop-k.invariant.same_area in
    search rules
