use mathlib.Core.Path.{refl, ◌∙◌}
use Rattle.appending.proofs.ReverseLaws.{going_start, going_room, going_next, going_all}
use Rattle.appending.proofs.writer.GateWriter.append_reversed.Goals as goal

pub loop-i-init : goal.loop-i-init
loop-i-init c = record { going = going_start _ _ _ _ _ c.requires; same_area = refl }

pub append_again-requires : goal.append_again-requires
append_again-requires c = going_room _ _ _ _ _ c.requires c.loop-i.invariant.going c.loop-i-test.true

pub loop-i-preserved : goal.loop-i-preserved
loop-i-preserved c =
    record {
      going = going_next _ _ _ _ _ c.requires c.loop-i.invariant.going c.loop-i-test.true c.append_again.ensures.stored;
      same_area = c.append_again.ensures.same_area ∙ c.loop-i.invariant.same_area;
    }

pub returns : goal.returns
returns c =
    record { stored = going_all _ _ _ _ _ c.requires c.loop-i.invariant.going c.loop-i-test.false; same_area = c.loop-i.invariant.same_area }
