-- The construction by numbers, a shortcut: where the lines in use are the first ones, the lowest free line is a number and the pool is not needed.
use Prim.Native.Nat.{ℕ, ◌+◌, ◌≤◌, ◌<◌, max}
use mathlib.Core.Bool.{cond}
use mathlib.Core.Option.{Option, none, some}
use mathlib.Core.List.{List, [], ◌∷◌, ◌++◌}
use lib.Dec.{eqb}
use Rattle.gate.specs.declared.gates.Gate.{Gate}
use Rattle.gate.specs.declared.gates.Gate.TheVariants.{Not, Cnot}
use Rattle.gate.specs.Running.{uncompute}
use Rattle.node.specs.Exprs.{Expr, ZERO, ONE, INPUT, NOT, XOR, AND, InputsBelow}
use Rattle.construction.specs.Construction.{input_of, and_gate, cleaning}

-- an operand's control, where f is the lowest free line
unfoldable pub control_from : Option ℕ → ℕ → ℕ
control_from (some j) f = j
control_from none f = f

-- the gates that make an operand, where these build its tree
unfoldable pub operand_gates : Option ℕ → List Gate → List Gate
operand_gates (some j) gs = []
operand_gates none gs = gs

-- the work lines of an operand, where its tree has k besides the line that it is built on
unfoldable pub operand_lines : Option ℕ → ℕ → ℕ
operand_lines (some j) k = 0
operand_lines none k = 1 + k

-- how many work lines a tree still holds when it is built
unfoldable pub held : Expr → ℕ
held ZERO = 0
held ONE = 0
held (INPUT j) = 0
held (NOT a) = held a
held (XOR a b) = held a + held b
held (AND m a b) = cond m 0 (operand_lines (input_of a) (held a) + operand_lines (input_of b) (held b))

-- the most work lines that building a tree holds together
unfoldable pub most : Expr → ℕ
most ZERO = 0
most ONE = 0
most (INPUT j) = 0
most (NOT a) = most a
most (XOR a b) = max (most a) (held a + most b)
most (AND m a b) = max (operand_lines (input_of a) (most a)) (operand_lines (input_of a) (held a) + operand_lines (input_of b) (most b))

-- the lowest free line after an AND's first operand, where it was f before it
unfoldable pub next_free : ℕ → Expr → ℕ
next_free f a = f + operand_lines (input_of a) (held a)

-- the gates that XOR a tree into line t where f is the lowest free line
unfoldable pub build_from : Expr → ℕ → ℕ → List Gate
build_from ZERO t f = []
build_from ONE t f = Not t ∷ []
build_from (INPUT j) t f = Cnot j t ∷ []
build_from (NOT a) t f = Not t ∷ build_from a t f
build_from (XOR a b) t f = build_from a t f ++ build_from b t (f + held a)
build_from (AND m a b) t f =
    let g = next_free f a in
    let made = operand_gates (input_of a) (build_from a f (f + 1)) ++ operand_gates (input_of b) (build_from b g (g + 1)) in
    made ++ (and_gate (control_from (input_of a) f) (control_from (input_of b) g) t ∷ cleaning m made)

-- the gates of a share, and of several
unfoldable pub share_from : Expr → ℕ → ℕ → List Gate
share_from e t f = build_from e t f ++ uncompute (eqb t) (build_from e t f)

unfoldable pub shares_from : List Expr → ℕ → ℕ → List Gate
shares_from [] t f = []
shares_from (e ∷ es) t f = share_from e t f ++ shares_from es (t + 1) f

-- the most work lines that any of several trees holds together
unfoldable pub most_of : List Expr → ℕ
most_of [] = 0
most_of (e ∷ es) = max (most e) (most_of es)

-- inputs, target and work lines are apart: the inputs are below n, the target t is not, and the lines taken start at f, behind it, and end below L
pub record ApartFrom (n : ℕ) (e : Expr) (t f L : ℕ) : Type 0 where
  pub inputs : InputsBelow n e
  pub behind : n ≤ t
  pub free : t < f
  pub below : f + most e ≤ L
