-- What the exported functions answer: plain numbers for each answer of a service.
use Rattle.std.specs.Prelude.{ℕ, length}
use Rattle.refusal.specs.Answers.{Answer, result, refused}
use Rattle.circuit.specs.Circuits.{Circuit}
use Rattle.program.specs.Programs.{Program}
use Rattle.abi.specs.declared.OracleAnswer.{OracleAnswer}
use Rattle.abi.specs.declared.OracleHead.{OracleHead}

-- 0 and the value of a result; the number and the place of a refusal
abbrev pub exported : Answer ℕ → OracleAnswer
exported (result v) = record { number = 0; value = v }
exported (refused n p) = record { number = n; value = p }

-- 0, and how many nodes, inputs and outputs a program has; it has no work lines
abbrev pub program_head : Program → OracleHead
program_head p =
    record {
      number = 0;
      value = length p.nodes;
      inputs = p.inputs;
      outputs = length p.outputs;
      work = 0;
    }

-- 0, and how many gates, inputs, outputs and work lines a circuit has
abbrev pub circuit_head : Circuit → OracleHead
circuit_head c =
    record {
      number = 0;
      value = length c.gates;
      inputs = c.inputs;
      outputs = c.outputs;
      work = c.work;
    }

-- the head of a result; the number and the place of a refusal, and zeros
abbrev pub exported_head : Answer OracleHead → OracleHead
exported_head (result h) = h
exported_head (refused n p) = record { number = n; value = p; inputs = 0; outputs = 0; work = 0 }
