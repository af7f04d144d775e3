use mathlib.Core.Path.{◌≡◌, ap, ◌∙◌}
use Rattle.std.specs.Prelude.{Err}
use Rattle.std.proofs.Common.{rules}
use Rattle.refusal.specs.Answers.{answer_of}
use Rattle.circuit.proofs.AcceptedLaws.{head_passed, good_headed, gate_refused, gates_good}
use Rattle.circuit.proofs.ReadingLaws.{lines_most}
use Rattle.circuit.proofs.reader.read_circuit.Goals as goal

pub returns-in_err-head : goal.returns-in_err-head
returns-in_err-head c =
    let passed : c.from_residual.result ≡ Err c.in_err-head.field-0.0 = search rules in
    ap answer_of passed ∙ head_passed _ c.read_head.ensures c.in_err-head.was

pub gate_body-requires : goal.gate_body-requires
gate_body-requires c = (good_headed _ c.read_head.ensures c.in_ok-head.was).sized.laid

pub line_count-requires : goal.line_count-requires
line_count-requires c = lines_most _ (good_headed _ c.read_head.ensures c.in_ok-head.was)

pub returns-in_err-read_gates : goal.returns-in_err-read_gates
returns-in_err-read_gates c =
    let passed : c.from_residual-in_err-read_gates.result ≡ Err c.in_err-read_gates.field-0.0 = search rules in
    ap answer_of passed ∙ gate_refused _ c.read_head.ensures c.in_ok-head.was c.line_count.ensures c.gate_body.ensures c.read_gates.ensures c.in_err-read_gates.was

pub returns : goal.returns
returns c = gates_good _ c.read_head.ensures c.in_ok-head.was c.line_count.ensures c.gate_body.ensures c.read_gates.ensures c.in_ok-read_gates.was
