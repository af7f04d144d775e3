use Rattle.undo.proofs.UndoLaws.{Counted}
use Rattle.undo.proofs.Undoing.count_kept.Given as goal

abbrev pub invariant-loop-i : goal.invariant-loop-i
invariant-loop-i l = Counted l.self.gates.now l.self.choices.now l.i l.kept
