use Prim.Native.Nat.{◌/◌}
use lib.ListN.{length}
use Rattle.refusal.proofs.CheckLaws.{Passed}
use Rattle.sizing.specs.Steps.{entry_fits}
use Rattle.sizing.proofs.check_sizes.Given as goal

abbrev pub invariant-loop-k : goal.invariant-loop-k
invariant-loop-k l = Passed (entry_fits l.sizes l.outputs) (length l.outputs / 2) l.k
