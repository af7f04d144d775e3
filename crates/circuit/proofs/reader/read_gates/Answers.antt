use Rattle.refusal.specs.declared.causes.Refusal.TheVariants as cause
use Rattle.refusal.proofs.AnswerLaws.{each_fails, each_holds}
use Rattle.refusal.proofs.CheckLaws.{passed_start, passed_next, passed_fails, passed_all}
use Rattle.gate_bytes.proofs.GateLaws.{read_good, read_bad, read_index}
use Rattle.circuit.proofs.reader.read_gates.Goals as goal

pub loop-i-init : goal.loop-i-init
loop-i-init c = passed_start _ _

pub returns-in-Bad : goal.returns-in-Bad
returns-in-Bad c =
    let e = c.read_gate.ensures in
    let fails = passed_fails _ c.loop-i.invariant c.loop-i-test.true (read_bad _ _ _ e c.in-Bad.is) in
    rw (read_index _ _ _ e c.in-Bad.is) (each_fails _ _ cause.Gate fails c.loop-i-test.true)

pub loop-i-preserved : goal.loop-i-preserved
loop-i-preserved c = passed_next _ c.loop-i.invariant c.loop-i-test.true (read_good _ _ _ c.read_gate.ensures c.in_default.is)

pub returns : goal.returns
returns c = each_holds _ _ cause.Gate (passed_all _ c.loop-i.invariant c.loop-i-test.false)
