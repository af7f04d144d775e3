use Rattle.program.specs.Tables.{trees_in}
use Rattle.counting.proofs.CountedLaws.{Tallied}
use Rattle.counting.proofs.count_shares.Given as goal

abbrev pub invariant-loop-k : goal.invariant-loop-k
invariant-loop-k l = Tallied (trees_in l.nodes l.outputs) l.state l.k
