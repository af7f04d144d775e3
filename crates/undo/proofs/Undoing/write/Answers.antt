use Rattle.std.proofs.Common.{rules}
use mathlib.Core.Path.{refl, ◌∙◌}
use Rattle.undo.proofs.UndoLaws.{stored_start, stored_room, stored_next, stored_all}
use Rattle.undo.proofs.Undoing.write.Goals as goal

pub loop-i-init : goal.loop-i-init
loop-i-init c = record { stored = stored_start _ _ _; same_area = refl }

pub append_kept-requires-clause-area_room : goal.append_kept-requires-clause-area_room
append_kept-requires-clause-area_room c = stored_room _ _ _ c.loop-i.invariant.stored c.loop-i-test.true c.requires

pub loop-i-preserved : goal.loop-i-preserved
loop-i-preserved c =
    record {
      stored = stored_next _ _ _ c.loop-i.invariant.stored c.loop-i-test.true c.append_kept.ensures.stored;
      same_area = c.append_kept.ensures.same_area ∙ c.loop-i.invariant.same_area;
    }

pub returns : goal.returns
returns c =
    let all = stored_all _ _ _ c.loop-i.invariant.stored c.loop-i-test.false in
    let same = c.loop-i.invariant.same_area in
    search rules
