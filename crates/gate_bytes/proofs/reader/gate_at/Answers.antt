use Rattle.gate_bytes.proofs.GateLaws.{gate_read_at}
use Rattle.gate_bytes.proofs.reader.gate_at.Goals as goal

pub returns : goal.returns
returns c = gate_read_at _ _ c.at.ensures c.gate.ensures
