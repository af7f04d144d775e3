use mathlib.Core.Path.{◌≡◌}
use Rattle.appending.proofs.ReverseLaws.{Going}
use Rattle.appending.proofs.writer.GateWriter.append_reversed.Given as goal

abbrev pub invariant-loop-i : goal.invariant-loop-i
invariant-loop-i l =
    record {
      going : Going l.initial.self.area.now l.from l.to l.initial.self.count l.excluded l.self.area.now l.self.count l.i;
      same_area : l.self.area.ghost_name ≡ l.initial.self.area.ghost_name;
    }
