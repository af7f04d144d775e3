use mathlib.Core.Path.{◌≡◌, ap, ◌∙◌}
use Rattle.std.specs.Prelude.{Err}
use Rattle.std.proofs.Common.{rules}
use Rattle.gate.specs.Running.{run_back}
use Rattle.circuit.specs.Circuits.{gates_in}
use Rattle.run.specs.RunCircuit.{run_backwards, ran}
use Rattle.run.proofs.RunLaws.{passed_on, laid, runnable, run_whole}
use Rattle.run.proofs.run_backwards.Goals as goal

pub returns-in_err-read_with_lines : goal.returns-in_err-read_with_lines
unfolding run_backwards
returns-in_err-read_with_lines c =
    let passed : c.from_residual.result ≡ Err c.in_err-read_with_lines.field-0.0 = search rules in
    let o = passed_on c.args.file.now c.args.lines.now c.read_with_lines.ensures run_back c.in_err-read_with_lines.was in
    record { result_value = ap ran passed ∙ o.answer; lines_after = o.lines_are }

pub gate_body-requires : goal.gate_body-requires
gate_body-requires c = laid c.args.file.now c.args.lines.now c.read_with_lines.ensures c.in_ok-read_with_lines.was

pub apply_all_back-requires : goal.apply_all_back-requires
apply_all_back-requires c = rw c.gate_body.ensures (runnable c.args.file.now c.args.lines.now c.read_with_lines.ensures c.in_ok-read_with_lines.was)

pub returns : goal.returns
unfolding run_backwards
returns c =
    let o = run_whole c.args.file.now c.args.lines.now c.read_with_lines.ensures c.in_ok-read_with_lines.was run_back in
    record { result_value = o.answer; lines_after = c.apply_all_back.ensures ∙ ap (λ b. run_back (gates_in b) c.args.lines.now) c.gate_body.ensures ∙ o.lines_are }
