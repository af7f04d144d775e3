use mathlib.Core.Path.{ap, sym, ◌∙◌}
use Rattle.refusal.specs.Answers.{result}
use Rattle.gate_bytes.specs.Steps.{read_gate}
use Rattle.gate_bytes.proofs.GateLaws.{fits_read, gate_read_at}
use Rattle.gate_bytes.proofs.reader.read_gate.Goals as goal

pub returns-then-fit-is_well_formed : goal.returns-then-fit-is_well_formed
unfolding read_gate
returns-then-fit-is_well_formed c =
    let test = fits_read c.args.lines c.args.body.now c.args.i c.at-fields.ensures c.gate-gate.ensures c.fit-fit.ensures c.is_well_formed.ensures in
    simp (sym test ∙ c.if-fit-is_well_formed.true) (ap result (gate_read_at c.args.body.now c.args.i c.at-fields.ensures c.gate-gate.ensures))

pub returns-else-fit-is_well_formed : goal.returns-else-fit-is_well_formed
unfolding read_gate
returns-else-fit-is_well_formed c =
    let test = fits_read c.args.lines c.args.body.now c.args.i c.at-fields.ensures c.gate-gate.ensures c.fit-fit.ensures c.is_well_formed.ensures in
    simp (sym test ∙ c.if-fit-is_well_formed.false)
