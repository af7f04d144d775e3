use Prim.Native.Nat.{◌*◌}
use Rattle.wire.proofs.FillLaws.{Filled}
use Rattle.quote.proofs.AnswerLaws.{all}
use Rattle.quote.proofs.answers.write_answers.Given as goal

abbrev pub invariant-loop-k : goal.invariant-loop-k
invariant-loop-k l = Filled (all l.outputs l.counts) l.initial.answers l.answers (3 * l.k)
