-- The construction (001, 4.1): the gates of a tree, of an output's share, and of a whole circuit.
use Rattle.std.specs.Prelude.{ℕ, ◌+◌, min, max, Bool, cond, List, [], ◌∷◌, ◌++◌, reverse, length, eqb}
use Rattle.std.proofs.Math.Option.{Option, none, some}
use Rattle.gate.specs.declared.gates.Gate.{Gate}
use Rattle.gate.specs.declared.gates.Gate.TheVariants.{Not, Cnot, Toffoli}
use Rattle.gate.specs.Running.{uncompute}
use Rattle.node.specs.Exprs.{Expr, ZERO, ONE, INPUT, NOT, XOR, AND}
use Rattle.construction.specs.Pools.{Pool, all_free, lowest_free, take_line, release}

-- gates that were built, and the pool of work lines after them
pub record Built : Type 0 where
  pub gates : List Gate
  pub pool : Pool

-- the input that a tree is, where it is an INPUT node and nothing else
unfoldable pub input_of : Expr → Option ℕ
input_of ZERO = none
input_of ONE = none
input_of (INPUT j) = some j
input_of (NOT a) = none
input_of (XOR a b) = none
input_of (AND m a b) = none

-- an operand of AND when it is made: the line that is its control, the gates that make it, and the pool of work lines after them
pub record MadeOperand : Type 0 where
  pub control : ℕ
  pub gates : List Gate
  pub pool : Pool

-- making an operand (02, A5): an input is its own line, with no gates and no line taken; any other takes the lowest free work line and is built there, by into
unfoldable pub operand : Option ℕ → (ℕ → Pool → Built) → Pool → MadeOperand
operand (some j) into p = record { control = j; gates = []; pool = p }
operand none into p =
    let x = into (lowest_free p) (take_line p) in
    record { control = lowest_free p; gates = x.gates; pool = x.pool }

-- the gate of an AND to line t: a CNOT where both controls are one line, else a Toffoli, the lower control first (02, A5)
unfoldable pub and_gate : ℕ → ℕ → ℕ → Gate
and_gate c d t = cond (eqb c d) (Cnot c t) (Toffoli (min c d) (max c d) t)

-- what follows the gate of an AND whose operands were made by these gates (02, A7): where it is marked they are undone, last to first; else nothing
unfoldable pub cleaning : Bool → List Gate → List Gate
cleaning m gs = cond m (reverse gs) []

-- and the pool after it, where p was the pool before it and q is the one with its operands made: where it is marked, just the lines in use before it are in use again
unfoldable pub cleaned : Bool → Pool → Pool → Pool
cleaned m p q = cond m (release p.used q) q

-- XORing a tree into line t (001, COMPILE-BEXP); NOT is 1 XOR its operand. An AND makes its first operand, then its second, then writes one gate from their controls to t, and where it is marked cleans up behind it
unfoldable pub build : Expr → ℕ → Pool → Built
build ZERO t p = record { gates = []; pool = p }
build ONE t p = record { gates = Not t ∷ []; pool = p }
build (INPUT j) t p = record { gates = Cnot j t ∷ []; pool = p }
build (NOT a) t p =
    let x = build a t p in
    record { gates = Not t ∷ x.gates; pool = x.pool }
build (XOR a b) t p =
    let x = build a t p in
    let y = build b t x.pool in
    record { gates = x.gates ++ y.gates; pool = y.pool }
build (AND m a b) t p =
    let x = operand (input_of a) (build a) p in
    let y = operand (input_of b) (build b) x.pool in
    let made = x.gates ++ y.gates in
    record { gates = made ++ (and_gate x.control y.control t ∷ cleaning m made); pool = cleaned m p y.pool }

-- the share (01) of an output with target t: its gates, then these reversed without those whose target is t (001, uncompute); then all work lines are free again
unfoldable pub share : Expr → ℕ → Pool → Built
share e t p =
    let x = build e t p in
    record { gates = x.gates ++ uncompute (eqb t) x.gates; pool = release [] x.pool }

-- the shares of outputs in their order, the first with target t
unfoldable pub shares : List Expr → ℕ → Pool → Built
shares [] t p = record { gates = []; pool = p }
shares (e ∷ es) t p =
    let x = share e t p in
    let y = shares es (t + 1) x.pool in
    record { gates = x.gates ++ y.gates; pool = y.pool }

-- the shares of all outputs over n inputs: the targets follow the inputs, the work lines follow the targets
unfoldable pub all_shares : ℕ → List Expr → Built
all_shares n es = shares es n (all_free (n + length es))

-- the gates of a circuit
unfoldable pub circuit_gates : ℕ → List Expr → List Gate
circuit_gates n es = (all_shares n es).gates

-- w (01): the most work lines that any output took
unfoldable pub lines_needed : ℕ → List Expr → ℕ
lines_needed n es = (all_shares n es).pool.most
