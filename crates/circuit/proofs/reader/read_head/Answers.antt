use mathlib.Core.Path.{◌≡◌, sym, ap, ◌∙◌}
use mathlib.Core.Bool.{true}
use Rattle.std.specs.Prelude.{Err}
use Rattle.std.proofs.Common.{rules}
use Rattle.refusal.specs.Answers.{result, answer_of}
use Rattle.contents.specs.Steps.{Laid}
use Rattle.contents.proofs.ContentsLaws.{contents_laid, contents_refused}
use Rattle.circuit.specs.Format.{tags}
use Rattle.circuit.specs.Reading.{lengths_fit, read_head}
use Rattle.circuit.proofs.ReadingLaws.{sized, head_checks_lem, head_checks}
use Rattle.circuit.proofs.reader.read_head.Goals as goal

pub returns-in_err-read_contents : goal.returns-in_err-read_contents
unfolding read_head
returns-in_err-read_contents c =
    let passed : c.from_residual.result ≡ Err c.in_err-read_contents.field-0.0 = search rules in
    ap answer_of passed ∙ sym (contents_refused tags _ c.read_contents.ensures _ c.in_err-read_contents.was)

pub lengths_fit-requires : goal.lengths_fit-requires
lengths_fit-requires c = contents_laid tags _ c.read_contents.ensures c.in_ok-read_contents.was

pub returns-then-not-lengths_fit : goal.returns-then-not-lengths_fit
returns-then-not-lengths_fit c =
    let goes_on : read_head c.args.file.now ≡ head_checks c.args.file.now = head_checks_lem _ c.read_contents.ensures c.in_ok-read_contents.was in
    sym (goes_on ∙ simp (sym c.lengths_fit.ensures ∙ c.if-not-lengths_fit.true))

pub ranges_fit-requires : goal.ranges_fit-requires
ranges_fit-requires c =
    let l : Laid 2 c.args.file.now = contents_laid tags _ c.read_contents.ensures c.in_ok-read_contents.was in
    (l, (sized _ l (sym c.lengths_fit.ensures ∙ c.if-not-lengths_fit.false)).head)

pub returns-then-not-ranges_fit : goal.returns-then-not-ranges_fit
returns-then-not-ranges_fit c =
    let lengths : lengths_fit c.args.file.now ≡ true = sym c.lengths_fit.ensures ∙ c.if-not-lengths_fit.false in
    let goes_on : read_head c.args.file.now ≡ head_checks c.args.file.now = head_checks_lem _ c.read_contents.ensures c.in_ok-read_contents.was in
    sym (goes_on ∙ simp (lengths, sym c.ranges_fit.ensures ∙ c.if-not-ranges_fit.true))

pub head_in-requires : goal.head_in-requires
head_in-requires c =
    let l : Laid 2 c.args.file.now = contents_laid tags _ c.read_contents.ensures c.in_ok-read_contents.was in
    (l, (sized _ l (sym c.lengths_fit.ensures ∙ c.if-not-lengths_fit.false)).head)

pub returns : goal.returns
returns c =
    let lengths : lengths_fit c.args.file.now ≡ true = sym c.lengths_fit.ensures ∙ c.if-not-lengths_fit.false in
    let goes_on : read_head c.args.file.now ≡ head_checks c.args.file.now = head_checks_lem _ c.read_contents.ensures c.in_ok-read_contents.was in
    ap result c.head_in.ensures ∙ sym (goes_on ∙ simp (lengths, sym c.ranges_fit.ensures ∙ c.if-not-ranges_fit.false))
