use Prim.Native.Nat.{ℕ, ◌*◌}
use mathlib.Core.Path.{ap, ◌∙◌}
use Rattle.entries.specs.CountList.{entry_from}
use Rattle.quote.proofs.AnswerLaws.{answer_stored, answers_stored}
use Rattle.quote.proofs.answers.write_answers.Goals as goal

pub loop-k-preserved : goal.loop-k-preserved
loop-k-preserved c =
    answer_stored _ _ _ c.loop-k.invariant c.requires c.loop-k-test.true (c.get_entry-entry.ensures ∙ ap (λ (o : ℕ). entry_from c.args.counts.now (8 * o)) c.output_at.ensures) (c.copy_from_slice.ensures.after ∙ c.entry_quote.ensures)

pub returns : goal.returns
returns c = answers_stored _ _ _ c.loop-k.invariant c.requires c.loop-k-test.false
