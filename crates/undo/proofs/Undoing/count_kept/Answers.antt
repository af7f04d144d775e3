use mathlib.Core.Path.{sym, ◌∙◌}
use Rattle.undo.proofs.UndoLaws.{counted_start, counted_out, counted_kept, counted_all}
use Rattle.undo.proofs.Undoing.count_kept.Goals as goal
use Rattle.undo.proofs.Undoing.count_kept.Goals.{then-not-left_out, else-not-left_out}

pub loop-i-init : goal.loop-i-init
loop-i-init c = counted_start _ _

pub loop-i-preserved : goal.loop-i-preserved
loop-i-preserved c = let at = c.loop-i in
    let below = c.loop-i-test.true in
    elim c.if-not-left_out.branch [
      | then-not-left_out w ↦ rw w.kept-is (counted_kept _ _ at.invariant below (sym c.left_out.ensures ∙ w.if-not-left_out.true))
      | else-not-left_out w ↦ rw w.kept-is (counted_out _ _ at.invariant below (sym c.left_out.ensures ∙ w.if-not-left_out.false))
    ]

pub returns : goal.returns
returns c = counted_all _ _ c.loop-i.invariant c.loop-i-test.false
