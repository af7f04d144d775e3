-- What building a tree asks for.
use Rattle.std.specs.Prelude.{ℕ, ◌+◌, ◌≤◌, ◌<◌, List, length}
use Rattle.circuit.specs.Format.{file_length}
use Rattle.appending.specs.declared.writer.GateWriter.{GateWriter}
use Rattle.program.specs.Tables.{tree_in, Valid}
use Rattle.construction.specs.Theorems.{tree_lines}
use Rattle.pool.specs.LinePools.{line_numbers}

-- there are lines for node i, whose line t is taken already, and room for so many gates behind those that the writer has stored
pub record Room (nodes : List ℕ) (i t f gates : ℕ) (w : GateWriter) : Type 0 where
  pub valid : Valid nodes i
  pub behind : valid.inputs ≤ t
  pub taken : t < f
  pub lines : f + tree_lines (tree_in nodes i) t f < line_numbers
  pub room : file_length (w.count + gates) ≤ length w.area.now
