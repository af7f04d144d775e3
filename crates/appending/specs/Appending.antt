-- What appending gates with a writer leaves.
use Rattle.std.specs.Prelude.{◌≡◌, List}
use Rattle.gate.specs.declared.gates.Gate.{Gate}
use Rattle.areas.specs.AreaGates.{Stored}
use Rattle.appending.specs.declared.writer.GateWriter.{GateWriter}

-- the writer has stored these gates behind those that were there, and counted them, in the area that it holds
pub record Appended (gs : List Gate) (old new : GateWriter) : Type 0 where
  pub stored : Stored gs old.count new.count old.area.now new.area.now
  pub same_area : new.area.ghost_name ≡ old.area.ghost_name
