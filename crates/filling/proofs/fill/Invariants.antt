use Rattle.filling.proofs.FillLaws.{Kept}
use Rattle.filling.proofs.fill.Given as goal

abbrev pub invariant-loop-i : goal.invariant-loop-i
invariant-loop-i g l = Kept (g.F.Fold.of l.fold) l.nodes l.initial.list l.list l.i
