use mathlib.Core.Path.{◌∙◌}
use native.Mathlib.Omega.{arith}
use Rattle.wire.proofs.AreaLaws.{part_stored}
use Rattle.wire.proofs.numbers.put32.Goals as goal

pub returns : goal.returns
returns c = part_stored _ _ _ _ (c.copy_from_slice.ensures.after ∙ c.to_le_bytes.ensures) (omega arith) c.requires
