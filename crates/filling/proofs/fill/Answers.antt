use Rattle.wire.proofs.FillLaws.{filled_start}
use Rattle.filling.proofs.FillLaws.{kept_listed, kept_next, kept_all}
use Rattle.filling.proofs.fill.Goals as goal

pub loop-i-init : goal.loop-i-init
loop-i-init g c = filled_start

pub item-requires : goal.item-requires
item-requires g c =
    let pre = c.requires in
    (pre.0, pre.1, rw c.node_at.ensures (kept_listed _ _ c.loop-i.invariant pre.2 c.loop-i-test.true))

pub loop-i-preserved : goal.loop-i-preserved
loop-i-preserved g c =
    kept_next _ _ c.loop-i.invariant c.requires.2 c.loop-i-test.true (rw c.node_at.ensures at c.item.ensures)

pub returns : goal.returns
returns g c = kept_all _ _ c.loop-i.invariant c.loop-i-test.false
