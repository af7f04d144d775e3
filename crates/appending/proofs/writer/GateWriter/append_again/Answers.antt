use mathlib.Core.Path.{refl}
use Rattle.appending.proofs.ReverseLaws.{again_there, again_target, again_none, again_room, again_one}
use Rattle.appending.proofs.writer.GateWriter.append_again.Goals as goal

pub target_at-requires : goal.target_at-requires
target_at-requires c = again_there _ _ _ _ c.requires c.body_in.ensures

pub copy_gate-requires : goal.copy_gate-requires
copy_gate-requires c =
    let changes = again_target _ _ _ _ c.requires c.body_in.ensures c.target_at.ensures in
    (c.requires.order, c.requires.before, again_room _ _ _ _ changes c.if-excluded-target_at.true c.requires)

pub returns-then-excluded-target_at : goal.returns-then-excluded-target_at
returns-then-excluded-target_at c =
    let changes = again_target _ _ _ _ c.requires c.body_in.ensures c.target_at.ensures in
    record { stored = again_one _ _ _ _ changes c.if-excluded-target_at.true c.copy_gate.ensures; same_area = refl }

pub returns-else-excluded-target_at : goal.returns-else-excluded-target_at
returns-else-excluded-target_at c =
    let changes = again_target _ _ _ _ c.requires c.body_in.ensures c.target_at.ensures in
    record { stored = again_none _ _ _ _ changes c.if-excluded-target_at.false; same_area = refl }
