use native.Mathlib.Omega.{arith}
use mathlib.Core.Path.{refl}
use Rattle.word_values.specs.WordValues.{node_words}
use borrow.Author.Tests.{eq-eqb, ne_eqb}
use Rattle.program.proofs.AcceptedLaws.{read}
use Rattle.evaluate.proofs.AskedLaws.{reader_passed, list_refused, inputs_refused, output_refused, fills, entry_there, named_inside, answers}
use Rattle.words.proofs.EvaluateWordsLaws.{words_outcome}
use Rattle.words.proofs.evaluate_words.Goals as goal

pub returns-in_default : goal.returns-in_default
returns-in_default c =
    let o = words_outcome c.args.file.now c.args.values.now c.args.inputs.now c.args.output in
    let w = reader_passed o c.read_program-read.ensures c.unwrap_err.ensures in
    record { result_value = w.0; values_after = w.1 }

pub returns-then-values-head : goal.returns-then-values-head
returns-then-values-head c =
    let o = words_outcome c.args.file.now c.args.values.now c.args.inputs.now c.args.output in
    let w = list_refused o c.read_program-read.ensures c.in-Ok.is (omega (arith, c.if-values-head.true)) in
    record { result_value = w.0; values_after = w.1 }

pub returns-then-inputs-head : goal.returns-then-inputs-head
returns-then-inputs-head c =
    let o = words_outcome c.args.file.now c.args.values.now c.args.inputs.now c.args.output in
    let w = inputs_refused o c.read_program-read.ensures c.in-Ok.is c.if-values-head.false (ne_eqb _ _ (λ e. omega (arith, e, c.if-inputs-head.true))) in
    record { result_value = w.0; values_after = w.1 }

pub returns-then-head-output : goal.returns-then-head-output
returns-then-head-output c =
    let o = words_outcome c.args.file.now c.args.values.now c.args.inputs.now c.args.output in
    let w = output_refused o c.read_program-read.ensures c.in-Ok.is c.if-values-head.false (eq-eqb _ _ (omega (arith, c.if-inputs-head.false))) c.if-head-output.true in
    record { result_value = w.0; values_after = w.1 }

pub node_body-requires : goal.node_body-requires
node_body-requires c = (read _ c.read_program-read.ensures c.in-Ok.is).accepts.sized.laid

pub fill_words-requires : goal.fill_words-requires
fill_words-requires c =
    let o = words_outcome c.args.file.now c.args.values.now c.args.inputs.now c.args.output in
    fills o c.read_program-read.ensures c.in-Ok.is c.if-values-head.false (eq-eqb _ _ (omega (arith, c.if-inputs-head.false))) c.if-head-output.false c.if-inputs-head.false c.node_body.ensures

pub output_body-requires : goal.output_body-requires
output_body-requires c = (read _ c.read_program-read.ensures c.in-Ok.is).accepts.sized.laid

pub output_at-requires : goal.output_at-requires
output_at-requires c =
    let o = words_outcome c.args.file.now c.args.values.now c.args.inputs.now c.args.output in
    entry_there o c.read_program-read.ensures c.in-Ok.is c.if-values-head.false (eq-eqb _ _ (omega (arith, c.if-inputs-head.false))) c.if-head-output.false c.output_body.ensures

pub offset_bounds-values-output_at : goal.offset_bounds-values-output_at
offset_bounds-values-output_at c =
    let o = words_outcome c.args.file.now c.args.values.now c.args.inputs.now c.args.output in
    omega (arith, c.well_formed.1.0.1, named_inside o c.read_program-read.ensures c.in-Ok.is c.if-values-head.false (eq-eqb _ _ (omega (arith, c.if-inputs-head.false))) c.if-head-output.false c.output_body.ensures c.output_at.ensures refl)

pub bounds-values-output_at : goal.bounds-values-output_at
bounds-values-output_at c =
    let o = words_outcome c.args.file.now c.args.values.now c.args.inputs.now c.args.output in
    named_inside o c.read_program-read.ensures c.in-Ok.is c.if-values-head.false (eq-eqb _ _ (omega (arith, c.if-inputs-head.false))) c.if-head-output.false c.output_body.ensures c.output_at.ensures c.fill_words.auto.words

pub returns : goal.returns
unfolding node_words
returns c =
    let o = words_outcome c.args.file.now c.args.values.now c.args.inputs.now c.args.output in
    let w = answers o c.read_program-read.ensures c.in-Ok.is c.if-values-head.false (eq-eqb _ _ (omega (arith, c.if-inputs-head.false))) c.if-head-output.false c.output_body.ensures c.output_at.ensures c.node_body.ensures c.fill_words.ensures in
    record { result_value = w.0; values_after = w.1 }
