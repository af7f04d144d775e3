-- What compiling leaves, said of what is exported.
use Rattle.std.specs.Prelude.{ℕ, ◌≡◌, List, take}
use Rattle.circuit.specs.declared.reader.CircuitHead.{CircuitHead}
use Rattle.compilation.specs.Demand.{Kept}
use Rattle.abi.specs.declared.OracleAnswer.{OracleAnswer}

-- the bytes at the start of an area, as many as an answer's value says, are a file that compiling wrote and of which demand 3 holds
pub record KeptBytes (file : List ℕ) (answer : OracleAnswer) (area : List ℕ) : Type 0 where
  pub head : CircuitHead
  pub kept : Kept file head (take answer.value area)

-- demand 3 (compile), of an exported answer and of the area at exit: a result has the number 0
abbrev pub ExportedDemand3 : List ℕ → OracleAnswer → List ℕ → Type 0
ExportedDemand3 file answer area = answer.number ≡ 0 → KeptBytes file answer area
