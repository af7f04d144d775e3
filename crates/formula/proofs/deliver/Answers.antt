use Rattle.std.proofs.Common.{rules}
use native.Mathlib.Omega.{arith}
use Rattle.formula.proofs.DeliveryLaws.{no_room, room}
use Rattle.formula.proofs.deliver.Goals as goal

pub returns-then-area-long : goal.returns-then-area-long
returns-then-area-long c = let o = no_room c.args.inputs c.args.nodes.now c.args.area.now (omega (arith, c.if-area-long.true)) (c.fill.ensures.after (λ y e. search rules)) in
    record { result_value = o.answer; area_after = o.area_is }

pub returns : goal.returns
returns c = let o = room c.args.inputs c.args.nodes.now c.args.area.now (omega (arith, c.if-area-long.false)) c.write_program.ensures in
    record { result_value = o.answer; area_after = o.area_is }
