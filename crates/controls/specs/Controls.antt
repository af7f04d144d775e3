-- What the code asks of an operand of AND, which input it is, and what follows: which line is its control.
use Rattle.std.specs.Prelude.{ℕ, ◌≡◌, Option, Some, None}
use Rattle.std.proofs.Math.Option as math
use Rattle.node.specs.Exprs.{Expr}
use Rattle.construction.specs.Pools.{Pool, lowest_free}
use Rattle.construction.specs.Construction.{input_of, operand, build}

-- the code's answer as the construction's
abbrev pub found : Option ℕ → math.Option ℕ
found (Some j) = math.some j
found None = math.none

-- r is the control of an operand with this tree, made with any pool whose lowest free line is f
pub record ControlIs (e : Expr) (f r : ℕ) : Type 0 where
  pub is : (q : Pool) → lowest_free q ≡ f → r ≡ (operand (input_of e) (build e) q).control
