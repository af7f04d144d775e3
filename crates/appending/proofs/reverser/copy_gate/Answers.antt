use native.Mathlib.Omega.{arith}
use Rattle.appending.proofs.CopyLaws.{copied}
use Rattle.appending.proofs.reverser.copy_gate.Goals as goal

pub returns : goal.returns
returns c =
    copied _ _ c.args.k c.requires.0 c.requires.1 c.requires.2 c.file_length-from.ensures c.file_length.ensures (omega arith) c.copy_within.ensures.after c.copy_within.ensures.by_index.0 (λ j. omega (arith, c.type_inv.area j))
