use mathlib.Core.Path.{◌≡◌}
use Rattle.undo.proofs.UndoLaws.{UndoneStored}
use Rattle.undo.proofs.Undoing.write.Given as goal

abbrev pub invariant-loop-i : goal.invariant-loop-i
invariant-loop-i l =
    record {
      stored : UndoneStored l.self.gates.now l.self.choices.now l.initial.writer.area.now l.writer.area.now l.writer.count l.i;
      same_area : l.writer.area.ghost_name ≡ l.initial.writer.area.ghost_name;
    }
