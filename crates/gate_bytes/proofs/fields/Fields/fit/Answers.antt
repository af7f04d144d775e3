use Rattle.std.proofs.Common.{rules, tests}
use Rattle.gate_bytes.specs.GateBytes.{fields_fit}
use Rattle.gate_bytes.proofs.fields.Fields.fit.Goals.{in-1, in-2, in_default}
use Rattle.gate_bytes.proofs.fields.Fields.fit.Goals as goal

pub returns : goal.returns
unfolding fields_fit
returns c =
    elim c.match-self.branch [
      | in-1 w ↦ search (rules, tests)
      | in-2 w ↦ search (rules, tests)
      | in_default w ↦ search (rules, tests)
    ]
