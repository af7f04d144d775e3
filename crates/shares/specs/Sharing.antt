-- What writing the shares of all outputs asks for.
use Rattle.std.specs.Prelude.{ℕ, ◌+◌, ◌/◌, ◌≤◌, ◌<◌, List, length}
use Rattle.wire.specs.Limits.{most_gates}
use Rattle.circuit.specs.Format.{file_length}
use Rattle.node.specs.Nodes.{nodes_in, TableOk}
use Rattle.program.specs.Reading.{output_at}
use Rattle.program.specs.Tables.{trees_in}
use Rattle.construction.specs.Construction.{lines_needed}
use Rattle.construction.specs.Steps.{shares_count}
use Rattle.pool.specs.LinePools.{line_numbers}

-- there are lines and room for the shares of all outputs over n inputs
pub record CircuitRoom (nodes outputs : List ℕ) (n : ℕ) (area : List ℕ) : Type 0 where
  pub ordered : TableOk n (nodes_in nodes)
  pub named : (k : ℕ) → k < length outputs / 2 → output_at outputs k < length nodes / 6
  pub lines : n + length outputs / 2 + lines_needed n (trees_in nodes outputs) < line_numbers
  pub few : shares_count (trees_in nodes outputs) ≤ most_gates
  pub room : file_length (shares_count (trees_in nodes outputs)) ≤ length area
