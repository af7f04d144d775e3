use Rattle.line.specs.Lines.{field}
use Rattle.line.proofs.PutLaws.{EachPut}
use Rattle.line.proofs.LineWriter.put_numbers.Given as goal

abbrev pub invariant-loop-n : goal.invariant-loop-n
invariant-loop-n l = EachPut field l.numbers l.initial.self l.self l.n-index
