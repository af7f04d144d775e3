use mathlib.Core.Path.{ap, ◌∙◌}
use lib.Seq.{sets}
use Rattle.gate_bytes.proofs.writer.put_gate.Goals as goal

pub returns : goal.returns
returns c = c.put.ensures ∙ ap (sets c.args.area.now c.args.at) c.from.ensures
