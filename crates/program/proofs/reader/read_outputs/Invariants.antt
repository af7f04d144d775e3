use Prim.Native.Nat.{◌/◌}
use lib.ListN.{length}
use Rattle.refusal.proofs.CheckLaws.{Passed}
use Rattle.program.specs.Reading.{output_fits}
use Rattle.program.proofs.reader.read_outputs.Given as goal

abbrev pub invariant-loop-k : goal.invariant-loop-k
invariant-loop-k l = Passed (output_fits l.nodes l.outputs) (length l.outputs / 2) l.k
