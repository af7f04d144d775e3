use Rattle.areas.specs.Tables.{tags_of, lengths_of}
use Rattle.areas.proofs.TableLaws.{EntriesStored}
use Rattle.areas.proofs.table.write_contents.Given as goal

abbrev pub invariant-loop-i : goal.invariant-loop-i
invariant-loop-i l = EntriesStored (tags_of l.bodies) (lengths_of l.bodies) l.initial.area l.area l.i l.start
