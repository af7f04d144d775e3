use mathlib.Core.Path.{◌≡◌, sym, ap, ◌∙◌}
use mathlib.Core.Bool.{true}
use Rattle.std.specs.Prelude.{Err}
use Rattle.std.proofs.Common.{rules}
use Rattle.refusal.specs.Answers.{answer_of}
use Rattle.contents.specs.Steps.{Laid}
use Rattle.contents.proofs.ContentsLaws.{contents_laid, contents_refused}
use Rattle.program.specs.Format.{tags}
use Rattle.program.specs.Reading.{lengths_fit, read_program}
use Rattle.program.proofs.ReadingLaws.{sized, program_checks, program_checks_lem}
use Rattle.program.proofs.reader.read_program.Goals as goal

pub returns-in_err-read_contents : goal.returns-in_err-read_contents
unfolding read_program
returns-in_err-read_contents c =
    let passed : c.from_residual.result ≡ Err c.in_err-read_contents.field-0.0 = search rules in
    ap answer_of passed ∙ rw (contents_refused tags _ c.read_contents.ensures _ c.in_err-read_contents.was)

pub lengths_fit-requires : goal.lengths_fit-requires
lengths_fit-requires c = contents_laid tags _ c.read_contents.ensures c.in_ok-read_contents.was

pub returns-then-not-lengths_fit : goal.returns-then-not-lengths_fit
returns-then-not-lengths_fit c =
    let goes_on : read_program c.args.file.now ≡ program_checks c.args.file.now = program_checks_lem _ c.read_contents.ensures c.in_ok-read_contents.was in
    rw (goes_on, sym c.lengths_fit.ensures ∙ c.if-not-lengths_fit.true)

pub ranges_fit-requires : goal.ranges_fit-requires
ranges_fit-requires c =
    let l : Laid 3 c.args.file.now = contents_laid tags _ c.read_contents.ensures c.in_ok-read_contents.was in
    let lengths : lengths_fit c.args.file.now ≡ true = sym c.lengths_fit.ensures ∙ c.if-not-lengths_fit.false in
    (l, (sized _ l lengths).four)

pub returns-then-not-ranges_fit : goal.returns-then-not-ranges_fit
returns-then-not-ranges_fit c =
    let lengths : lengths_fit c.args.file.now ≡ true = sym c.lengths_fit.ensures ∙ c.if-not-lengths_fit.false in
    let goes_on : read_program c.args.file.now ≡ program_checks c.args.file.now = program_checks_lem _ c.read_contents.ensures c.in_ok-read_contents.was in
    rw (goes_on, lengths, sym c.ranges_fit.ensures ∙ c.if-not-ranges_fit.true)

pub read_bodies-requires : goal.read_bodies-requires
read_bodies-requires c =
    (contents_laid tags _ c.read_contents.ensures c.in_ok-read_contents.was, sym c.lengths_fit.ensures ∙ c.if-not-lengths_fit.false)

pub returns : goal.returns
returns c =
    let lengths : lengths_fit c.args.file.now ≡ true = sym c.lengths_fit.ensures ∙ c.if-not-lengths_fit.false in
    let goes_on : read_program c.args.file.now ≡ program_checks c.args.file.now = program_checks_lem _ c.read_contents.ensures c.in_ok-read_contents.was in
    rw (goes_on, lengths, sym c.ranges_fit.ensures ∙ c.if-not-ranges_fit.false) c.read_bodies.ensures
