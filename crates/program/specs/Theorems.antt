-- What is proved of program files; the proofs are in proofs/.
use Rattle.std.specs.Prelude.{ℕ, ◌≡◌, List}
use Rattle.refusal.specs.Answers.{result}
use Rattle.wire.specs.Bytes.{Bytes}
use Rattle.program.specs.Programs.{Program, LegalProgram}
use Rattle.program.specs.Format.{program_file}
use Rattle.program.specs.Reading.{read_program}

-- reading what was written gives it back
abbrev pub ProgramReadsBack : Type 0
ProgramReadsBack = (p : Program) → LegalProgram p → read_program (program_file p) ≡ result p

-- a file is the writing of a program, and the program is legal
pub record WritesProgram (f : List ℕ) (p : Program) : Type 0 where
  pub same : f ≡ program_file p
  pub legal : LegalProgram p

-- an accepted file is the writing of what it gives
abbrev pub OnlyProgramWriting : Type 0
OnlyProgramWriting = (f : List ℕ) (p : Program) → Bytes f → read_program f ≡ result p → WritesProgram f p

-- two accepted files that give the same program are the same bytes
abbrev pub SameProgramBytes : Type 0
SameProgramBytes = (f g : List ℕ) (p : Program) → Bytes f → Bytes g → read_program f ≡ result p → read_program g ≡ result p → f ≡ g
