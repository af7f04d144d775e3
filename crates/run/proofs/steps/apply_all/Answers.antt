use mathlib.Core.Path.{refl, ap, ◌∙◌}
use native.Mathlib.Omega.{arith}
use Rattle.gate.specs.declared.gates.Gate.{Gate}
use Rattle.gate.specs.Running.{step}
use Rattle.circuit.proofs.GateBodyLaws.{gates_from_lem, gates_none}
use Rattle.run.proofs.RunLaws.{moved_start, moved_formed, moved_next, moved_all}
use Rattle.run.proofs.steps.apply_all.Goals as goal

pub loop-i-init : goal.loop-i-init
loop-i-init c = moved_start _ c.requires _ _ refl

pub apply-requires : goal.apply-requires
apply-requires c = let at = c.loop-i in rw c.gate_at.ensures (moved_formed _ c.requires at.invariant at.i c.loop-i-test.true, at.invariant.bits)

pub loop-i-preserved : goal.loop-i-preserved
loop-i-preserved c = let at = c.loop-i in
    let stepped = c.apply.ensures ∙ ap (λ (g : Gate). step g at.lines) c.gate_at.ensures in
    moved_next _ c.requires at.invariant at.i _ c.loop-i-test.true (gates_from_lem _ at.i c.loop-i-test.true) stepped

pub returns : goal.returns
returns c = let at = c.loop-i in moved_all _ c.requires at.invariant (gates_none _ at.i (omega (arith, at.auto.i-end, c.loop-i-test.false)))
