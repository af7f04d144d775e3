use native.Mathlib.Omega.{arith}
use mathlib.Core.Path.{ap}
use Rattle.refusal.specs.Answers.{answer_of}
use Rattle.abi.proofs.file_answer.Goals as goal

pub file_length-requires : goal.file_length-requires
file_length-requires c = omega (arith, c.requires _ (ap answer_of c.in-Ok.is))
