-- What the step that follows sizing asks of its caller.
use Rattle.std.specs.Prelude.{ℕ, ◌≡◌, List, ◌++◌}
use Rattle.refusal.specs.Answers.{result}
use Rattle.program.specs.declared.reader.Head.{Head}
use Rattle.program.specs.Programs.{head_of}
use Rattle.program.specs.Reading.{program_of, read_program}
use Rattle.sizing.specs.Sizing.{node_sizes}

-- a program file that was read, with its numbers and with its nodes' sizes at the front of the size list
pub record Listed (file : List ℕ) (head : Head) (sizes : List ℕ) : Type 0 where
  pub reads : read_program file ≡ result (program_of file)
  pub numbers : head ≡ head_of (program_of file)
  pub later : List ℕ
  pub listed : sizes ≡ node_sizes (program_of file).nodes ++ later
