use mathlib.Core.Path.{sym, ◌∙◌}
use Rattle.gate_bytes.proofs.GateLaws.{target_field}
use Rattle.gate_bytes.proofs.reader.target_at.Goals as goal

pub returns : goal.returns
returns c = c.get16.ensures ∙ sym (target_field _ _)
