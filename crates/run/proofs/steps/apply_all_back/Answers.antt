use Prim.Native.Nat.{◌-◌}
use mathlib.Core.Path.{refl, ap, ◌∙◌}
use native.Mathlib.Omega.{arith}
use Rattle.gate.specs.declared.gates.Gate.{Gate}
use Rattle.gate.specs.Running.{step}
use mathlib.Core.List.{reverse}
use Rattle.circuit.proofs.GateBodyLaws.{gates_whole, gates_first_none}
use Rattle.run.proofs.RunLaws.{moved_start, moved_formed, moved_next, moved_all, back_next}
use Rattle.run.proofs.steps.apply_all_back.Goals as goal

pub loop-i-init : goal.loop-i-init
loop-i-init c = moved_start _ c.requires _ _ (ap reverse (gates_whole _ _ refl))

pub apply-requires : goal.apply-requires
apply-requires c = let at = c.loop-i in rw c.gate_at.ensures (moved_formed _ c.requires at.invariant (at.i - 1) (omega (arith, at.auto.i, c.loop-i-test.true)), at.invariant.bits)

pub loop-i-preserved : goal.loop-i-preserved
loop-i-preserved c = let at = c.loop-i in
    let stepped = c.apply.ensures ∙ ap (λ (g : Gate). step g at.lines) c.gate_at.ensures in
    let more = c.loop-i-test.true in
    moved_next _ c.requires at.invariant (at.i - 1) _ (omega (arith, at.auto.i, more)) (back_next _ at.i more at.auto.i) stepped

pub returns : goal.returns
returns c = let at = c.loop-i in moved_all _ c.requires at.invariant (ap reverse (gates_first_none _ at.i c.loop-i-test.false))
