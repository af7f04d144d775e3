use mathlib.Core.Path.{sym, ◌∙◌}
use native.Mathlib.Omega.{arith}
use Rattle.contents.proofs.ContentsLaws.{followed_start, followed_next, followed_tag, followed_other, followed_end}
use Rattle.contents.proofs.reader.entries_fit.Goals.{then-entry_tag-tag-via-then-entry_tag-tag, then-entry_tag-tag-via-else-entry_tag-tag+then-entry_start-start}
use Rattle.contents.proofs.reader.entries_fit.Goals as goal

pub loop-i-init : goal.loop-i-init
loop-i-init c = (followed_start _ _, omega arith)

pub returns-then-entry_tag-tag : goal.returns-then-entry_tag-tag
returns-then-entry_tag-tag c =
    elim c.then-entry_tag-tag.branch [
      | then-entry_tag-tag-via-then-entry_tag-tag w ↦ sym (followed_tag _ _ c.loop-i.invariant.0 c.loop-i-test.true (λ e. w.if-entry_tag-tag.true (c.entry_tag.ensures ∙ e)))
      | then-entry_tag-tag-via-else-entry_tag-tag+then-entry_start-start w ↦
          let tag = sym c.entry_tag.ensures ∙ w.if-entry_tag-tag.false in
          sym (followed_other _ _ c.loop-i.invariant.0 c.loop-i-test.true tag (λ e. w.if-entry_start-start.true (w.entry_start.ensures ∙ e)))
    ]

pub loop-i-preserved : goal.loop-i-preserved
loop-i-preserved c =
    let tag = sym c.entry_tag.ensures ∙ c.if-entry_tag-tag.false in
    let start = sym c.entry_start.ensures ∙ c.if-entry_start-start.false in
    (rw c.entry_length.ensures (followed_next _ _ c.loop-i.invariant.0 c.loop-i-test.true tag start), omega arith)

pub returns : goal.returns
returns c = sym (followed_end _ _ c.loop-i.invariant.0 c.loop-i-test.false)
