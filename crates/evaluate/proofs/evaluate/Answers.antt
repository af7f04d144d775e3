use native.Mathlib.Omega.{arith}
use mathlib.Core.Path.{sym, ◌∙◌}
use Rattle.node.specs.Trees.{node_values}
use Rattle.wire.proofs.BitLaws.{bits_count, bits_are}
use Rattle.program.proofs.AcceptedLaws.{read}
use Rattle.evaluate.proofs.AskedLaws.{reader_passed, list_refused, inputs_refused, output_refused, fills, entry_there, named_inside, answers}
use Rattle.evaluate.proofs.EvaluateLaws.{evaluate_outcome}
use Rattle.evaluate.proofs.evaluate.Goals as goal

pub returns-in_default : goal.returns-in_default
returns-in_default c =
    let o = evaluate_outcome c.args.file.now c.args.values.now c.args.inputs.now c.args.output in
    let w = reader_passed o c.read_program-read.ensures c.unwrap_err.ensures in
    record { result_value = w.0; values_after = w.1 }

pub returns-then-values-head : goal.returns-then-values-head
returns-then-values-head c =
    let o = evaluate_outcome c.args.file.now c.args.values.now c.args.inputs.now c.args.output in
    let w = list_refused o c.read_program-read.ensures c.in-Ok.is (omega (arith, c.if-values-head.true)) in
    record { result_value = w.0; values_after = w.1 }

pub returns-then-not-bits_fit : goal.returns-then-not-bits_fit
returns-then-not-bits_fit c =
    let o = evaluate_outcome c.args.file.now c.args.values.now c.args.inputs.now c.args.output in
    let w = inputs_refused o c.read_program-read.ensures c.in-Ok.is c.if-values-head.false (sym c.bits_fit.ensures ∙ c.if-not-bits_fit.true) in
    record { result_value = w.0; values_after = w.1 }

pub returns-then-head-output : goal.returns-then-head-output
returns-then-head-output c =
    let o = evaluate_outcome c.args.file.now c.args.values.now c.args.inputs.now c.args.output in
    let w = output_refused o c.read_program-read.ensures c.in-Ok.is c.if-values-head.false (sym c.bits_fit.ensures ∙ c.if-not-bits_fit.false) c.if-head-output.true in
    record { result_value = w.0; values_after = w.1 }

pub node_body-requires : goal.node_body-requires
node_body-requires c = (read _ c.read_program-read.ensures c.in-Ok.is).accepts.sized.laid

pub fill_values-requires : goal.fill_values-requires
fill_values-requires c =
    let o = evaluate_outcome c.args.file.now c.args.values.now c.args.inputs.now c.args.output in
    let fit = sym c.bits_fit.ensures ∙ c.if-not-bits_fit.false in
    (fills o c.read_program-read.ensures c.in-Ok.is c.if-values-head.false fit c.if-head-output.false (bits_count _ c.args.inputs.now fit) c.node_body.ensures, bits_are _ c.args.inputs.now fit)

pub output_body-requires : goal.output_body-requires
output_body-requires c = (read _ c.read_program-read.ensures c.in-Ok.is).accepts.sized.laid

pub output_at-requires : goal.output_at-requires
output_at-requires c =
    let o = evaluate_outcome c.args.file.now c.args.values.now c.args.inputs.now c.args.output in
    entry_there o c.read_program-read.ensures c.in-Ok.is c.if-values-head.false (sym c.bits_fit.ensures ∙ c.if-not-bits_fit.false) c.if-head-output.false c.output_body.ensures

pub bounds-values-output_at : goal.bounds-values-output_at
bounds-values-output_at c =
    let o = evaluate_outcome c.args.file.now c.args.values.now c.args.inputs.now c.args.output in
    named_inside o c.read_program-read.ensures c.in-Ok.is c.if-values-head.false (sym c.bits_fit.ensures ∙ c.if-not-bits_fit.false) c.if-head-output.false c.output_body.ensures c.output_at.ensures c.fill_values.auto.values

pub returns : goal.returns
unfolding node_values
returns c =
    let o = evaluate_outcome c.args.file.now c.args.values.now c.args.inputs.now c.args.output in
    let w = answers o c.read_program-read.ensures c.in-Ok.is c.if-values-head.false (sym c.bits_fit.ensures ∙ c.if-not-bits_fit.false) c.if-head-output.false c.output_body.ensures c.output_at.ensures c.node_body.ensures c.fill_values.ensures in
    record { result_value = w.0; values_after = w.1 }
