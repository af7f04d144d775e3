use mathlib.Core.Path.{◌≡◌, ap, ◌∙◌}
use native.Mathlib.Omega.{arith}
use Rattle.std.specs.Prelude.{Err}
use Rattle.std.proofs.Common.{rules}
use Rattle.refusal.specs.Answers.{answer_of, refuse}
use Rattle.refusal.specs.declared.causes.Refusal.TheVariants as cause
use Rattle.contents.specs.Arity.{inputs_of}
use Rattle.program.proofs.AcceptedLaws.{Read, read, read_refused}
use Rattle.quotation.proofs.QuoteLaws as theory
use Rattle.quotation.proofs.QuoteLaws.{Outcome}
use Rattle.program.proofs.BodyLaws.{fillable}
use Rattle.quote.proofs.QuotedLaws.{counts_short, answers_short, quotable, done}
use Rattle.quote.proofs.quote.Goals as goal
use Rattle.quote.proofs.quote.Goals.{then-counts-head-via-then-counts-head, then-counts-head-via-else-counts-head+then-answers-head}

pub returns-in_err-head : goal.returns-in_err-head
returns-in_err-head c =
    let passed : c.from_residual.result ≡ Err c.in_err-head.field-0.0 = search rules in
    let o = theory.reader_refuses c.args.file.now c.args.counts.now c.args.answers.now _ _ (read_refused c.args.file.now c.read_program.ensures c.in_err-head.was) in
    record { result_value = ap answer_of passed ∙ o.answer; counts_after = o.counts_are; answers_after = o.answers_are }

pub returns-then-counts-head : goal.returns-then-counts-head
returns-then-counts-head c =
    let good : Read c.args.file.now c.in_ok-head.head = read c.args.file.now c.read_program.ensures c.in_ok-head.was in
    let o : Outcome c.args.file.now c.args.counts.now c.args.answers.now (refuse cause.ListLength) c.args.counts.now c.args.answers.now =
    elim c.then-counts-head.branch [
      | then-counts-head-via-then-counts-head w ↦ counts_short c.args.file.now c.args.counts.now c.args.answers.now good (omega (arith, w.if-counts-head.true))
      | then-counts-head-via-else-counts-head+then-answers-head w ↦
          answers_short c.args.file.now c.args.counts.now c.args.answers.now good w.if-counts-head.false (omega (arith, w.if-answers-head.true))
    ] in
    record { result_value = o.answer; counts_after = o.counts_are; answers_after = o.answers_are }

pub node_body-requires : goal.node_body-requires
node_body-requires c = (read c.args.file.now c.read_program.ensures c.in_ok-head.was).accepts.sized.laid

pub fill_entries-requires : goal.fill_entries-requires
fill_entries-requires c =
    (inputs_of c.args.file.now, rw c.node_body.ensures (fillable (read c.args.file.now c.read_program.ensures c.in_ok-head.was) _ c.if-counts-head.false))

pub output_body-requires : goal.output_body-requires
output_body-requires c = (read c.args.file.now c.read_program.ensures c.in_ok-head.was).accepts.sized.laid

pub write_answers-requires : goal.write_answers-requires
write_answers-requires c =
    let good : Read c.args.file.now c.in_ok-head.head = read c.args.file.now c.read_program.ensures c.in_ok-head.was in
    rw c.output_body.ensures (quotable c.args.file.now c.args.counts.now c.args.answers.now good c.if-counts-head.false c.if-answers-head.false c.fill_entries.new.counts (rw c.node_body.ensures at c.fill_entries.ensures))

pub returns : goal.returns
returns c =
    let good : Read c.args.file.now c.in_ok-head.head = read c.args.file.now c.read_program.ensures c.in_ok-head.was in
    let o =
    done c.args.file.now c.args.counts.now c.args.answers.now good c.if-counts-head.false c.if-answers-head.false c.fill_entries.new.counts (rw c.node_body.ensures at c.fill_entries.ensures)
    (c.fill.ensures.after (λ y e. e)) (rw c.output_body.ensures at c.write_answers.ensures) in
    record { result_value = o.answer; counts_after = o.counts_are; answers_after = o.answers_are }
