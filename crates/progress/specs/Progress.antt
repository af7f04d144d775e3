-- What building a tree of the construction appends to the gates of a circuit.
use Rattle.std.specs.Prelude.{ℕ, ◌≡◌}
use Rattle.appending.specs.Appending.{Appended}
use Rattle.appending.specs.declared.writer.GateWriter.{GateWriter}
use Rattle.node.specs.Exprs.{Expr}
use Rattle.construction.specs.Pools.{Pool, lowest_free}
use Rattle.construction.specs.Construction.{build}
use Rattle.construction.specs.Steps.{Reached}

-- a tree is built into line t, as the construction does it with any pool that it reaches and whose lowest free line is f, and r is the lowest free line then
pub record Wrote (e : Expr) (t f r : ℕ) (old new : GateWriter) : Type 0 where
  pub appends : (q : Pool) → Reached q → lowest_free q ≡ f → Appended (build e t q).gates old new
  pub leaves : (q : Pool) → Reached q → lowest_free q ≡ f → lowest_free (build e t q).pool ≡ r
