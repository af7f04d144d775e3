-- Trees without marks, and the construction as it was before there were marks (02, A7).
use Rattle.std.specs.Prelude.{ℕ, ◌+◌, ◌≡◌, false, List, [], ◌∷◌, ◌++◌, length, eqb}
use Rattle.gate.specs.declared.gates.Gate.TheVariants.{Not, Cnot}
use Rattle.gate.specs.Running.{uncompute}
use Rattle.node.specs.Exprs.{Expr, ZERO, ONE, INPUT, NOT, XOR, AND}
use Rattle.construction.specs.Pools.{Pool, all_free, release}
use Rattle.construction.specs.Construction.{Built, input_of, operand, and_gate, all_shares}

-- no AND of a tree is marked
abbrev pub Unmarked : Expr → Type 0
Unmarked ZERO = Unit {0}
Unmarked ONE = Unit {0}
Unmarked (INPUT j) = Unit {0}
Unmarked (NOT a) = Unmarked a
Unmarked (XOR a b) = Unmarked a × Unmarked b
Unmarked (AND m a b) = (m ≡ false) × Unmarked a × Unmarked b

-- nor of several
abbrev pub EachUnmarked : List Expr → Type 0
EachUnmarked [] = Unit {0}
EachUnmarked (e ∷ es) = Unmarked e × EachUnmarked es

-- the construction before there were marks (02, A5): the gate of an AND is its last, and what its operands took stays in use
unfoldable pub unmarked_build : Expr → ℕ → Pool → Built
unmarked_build ZERO t p = record { gates = []; pool = p }
unmarked_build ONE t p = record { gates = Not t ∷ []; pool = p }
unmarked_build (INPUT j) t p = record { gates = Cnot j t ∷ []; pool = p }
unmarked_build (NOT a) t p =
    let x = unmarked_build a t p in
    record { gates = Not t ∷ x.gates; pool = x.pool }
unmarked_build (XOR a b) t p =
    let x = unmarked_build a t p in
    let y = unmarked_build b t x.pool in
    record { gates = x.gates ++ y.gates; pool = y.pool }
unmarked_build (AND m a b) t p =
    let x = operand (input_of a) (unmarked_build a) p in
    let y = operand (input_of b) (unmarked_build b) x.pool in
    record { gates = (x.gates ++ y.gates) ++ (and_gate x.control y.control t ∷ []); pool = y.pool }

-- its shares, the first with target t: each tree's gates, then these undone but for those on its target, then every line is free
unfoldable pub unmarked_shares : List Expr → ℕ → Pool → Built
unmarked_shares [] t p = record { gates = []; pool = p }
unmarked_shares (e ∷ es) t p =
    let x = unmarked_build e t p in
    let y = unmarked_shares es (t + 1) (release [] x.pool) in
    record { gates = (x.gates ++ uncompute (eqb t) x.gates) ++ y.gates; pool = y.pool }

-- trees without marks have the gates and the work lines of that construction
abbrev pub UnmarkedSame : Type 0
UnmarkedSame = (n : ℕ) (es : List Expr) → EachUnmarked es → all_shares n es ≡ unmarked_shares es n (all_free (n + length es))
