use Rattle.circuit.specs.Circuits.{gates_in}
use Rattle.text.specs.Listings.{gate_line}
use Rattle.line.proofs.PutLaws.{EachPut}
use Rattle.text.proofs.put_gate_lines.Given as goal

abbrev pub invariant-loop-k : goal.invariant-loop-k
invariant-loop-k l = EachPut gate_line (gates_in l.gates) l.initial.writer l.writer l.k
