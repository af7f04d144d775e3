use native.Mathlib.Omega.{arith}
use mathlib.Core.Path.{sym, ◌∙◌}
use Rattle.gate.specs.declared.gates.Gate.TheVariants.{Not}
use Rattle.circuit.proofs.GateBodyLaws.{gates_count, gates_at}
use Rattle.line.proofs.PutLaws.{each_start, each_fits, each_next, each_all}
use Rattle.text.proofs.put_gate_lines.Goals as goal

pub loop-k-init : goal.loop-k-init
loop-k-init c = each_start _ _ _

pub put_gate_line-requires : goal.put_gate_line-requires
put_gate_line-requires c =
    rw (c.gate_at.ensures ∙ sym (gates_at c.args.gates.now c.loop-k.k c.loop-k-test.true))
    (each_fits _ _ _ (Not 0) c.loop-k.invariant (omega (arith, gates_count c.args.gates.now, c.loop-k-test.true)) c.requires)

pub loop-k-preserved : goal.loop-k-preserved
loop-k-preserved c =
    each_next _ _ _ (Not 0) c.loop-k.invariant (omega (arith, gates_count c.args.gates.now, c.loop-k-test.true))
    (rw (c.gate_at.ensures ∙ sym (gates_at c.args.gates.now c.loop-k.k c.loop-k-test.true)) at c.put_gate_line.ensures)

pub returns : goal.returns
returns c = each_all _ _ _ c.loop-k.invariant (omega (arith, gates_count c.args.gates.now, c.loop-k-test.false))
