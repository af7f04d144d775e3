use mathlib.Core.Path.{◌≡◌, ap, ◌∙◌}
use Rattle.std.specs.Prelude.{Err}
use Rattle.std.proofs.Common.{rules}
use Rattle.gate.specs.Running.{run}
use Rattle.circuit.specs.Circuits.{gates_in}
use Rattle.run.specs.RunCircuit.{run_forwards, ran}
use Rattle.run.proofs.RunLaws.{passed_on, laid, runnable, run_whole}
use Rattle.run.proofs.run_forwards.Goals as goal

pub returns-in_err-read_with_lines : goal.returns-in_err-read_with_lines
unfolding run_forwards
returns-in_err-read_with_lines c =
    let passed : c.from_residual.result ≡ Err c.in_err-read_with_lines.field-0.0 = search rules in
    let o = passed_on c.args.file.now c.args.lines.now c.read_with_lines.ensures run c.in_err-read_with_lines.was in
    record { result_value = ap ran passed ∙ o.answer; lines_after = o.lines_are }

pub gate_body-requires : goal.gate_body-requires
gate_body-requires c = laid c.args.file.now c.args.lines.now c.read_with_lines.ensures c.in_ok-read_with_lines.was

pub apply_all-requires : goal.apply_all-requires
apply_all-requires c = rw c.gate_body.ensures (runnable c.args.file.now c.args.lines.now c.read_with_lines.ensures c.in_ok-read_with_lines.was)

pub returns : goal.returns
unfolding run_forwards
returns c =
    let o = run_whole c.args.file.now c.args.lines.now c.read_with_lines.ensures c.in_ok-read_with_lines.was run in
    record { result_value = o.answer; lines_after = c.apply_all.ensures ∙ ap (λ b. run (gates_in b) c.args.lines.now) c.gate_body.ensures ∙ o.lines_are }
