use native.Mathlib.Omega.{arith}
use mathlib.Core.Path.{refl}
use Rattle.wire.proofs.AreaLaws.{part_stored}
use Rattle.line.proofs.LineWriter.put_word.Goals as goal

pub returns : goal.returns
returns c = record { same = refl; ends = refl; stored = part_stored _ _ _ _ c.copy_from_slice.ensures.after (omega arith) c.requires.fits }
