use Rattle.progress.proofs.ProgressLaws.{gate_same, gate_first, gate_second}
use Rattle.progress.proofs.append_and.Goals as goal

pub returns-then-a-b : goal.returns-then-a-b
returns-then-a-b c = gate_same c.if-a-b.true c.append.ensures

pub returns-then-a-b-2 : goal.returns-then-a-b-2
returns-then-a-b-2 c = gate_first c.if-a-b-2.true c.append-then-a-b-2.ensures

pub returns-else-a-b-2 : goal.returns-else-a-b-2
returns-else-a-b-2 c = gate_second c.if-a-b.false c.if-a-b-2.false c.append-else-a-b-2.ensures
