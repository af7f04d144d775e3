-- What the code that counts and builds is held to: no service's definition is here.
use Rattle.std.specs.Prelude.{ℕ, ◌+◌, Bool, false, cond, List, [], ◌∷◌, length, eqb}
use Rattle.std.proofs.Math.Option.{Option, none, some}
use Rattle.node.specs.Exprs.{Expr, ZERO, ONE, INPUT, NOT, XOR, AND}
use Rattle.construction.specs.Pools.{Pool, all_free, take_line, release}
use Rattle.construction.specs.Construction.{input_of, build}

-- a pool that the construction reaches
pub data Reached : Pool → Type 0 where
  fresh : (f : ℕ) → Reached (all_free f)
  taken : (p : Pool) → Reached p → Reached (take_line p)
  built : (e : Expr) (t : ℕ) (p : Pool) → Reached p → Reached (build e t p).pool
  released : (p : Pool) → Reached p → Reached (release [] p)

-- how many work lines a tree still holds when it is built into line t, where every work line from f on was free
abbrev pub tree_held : Expr → ℕ → ℕ → ℕ
tree_held e t f = length (build e t (all_free f)).pool.used

-- how many gates make an operand of AND, where k build its tree: none where it is an input
unfoldable pub operand_count : Option ℕ → ℕ → ℕ
operand_count (some j) k = 0
operand_count none k = k

-- whether two operands of AND name the same input
unfoldable pub same_input : Option ℕ → Option ℕ → Bool
same_input (some i) (some j) = eqb i j
same_input (some i) none = false
same_input none r = false

-- what the gate of an AND counts, where a CNOT counts c and a Toffoli 1: it is a CNOT where both operands name the same input
unfoldable pub and_count : ℕ → Option ℕ → Option ℕ → ℕ
and_count c q r = cond (same_input q r) c 1

-- how many gates clean up behind an AND, where so many made its operands: as many again where it is marked
unfoldable pub cleaning_count : Bool → ℕ → ℕ
cleaning_count m made = cond m made 0

-- how many gates build a tree, where a NOT or CNOT counts c and a Toffoli 1: with c 1 all of them, with c 0 the Toffolis
unfoldable pub built_count : ℕ → Expr → ℕ
built_count c ZERO = 0
built_count c ONE = c
built_count c (INPUT j) = c
built_count c (NOT a) = c + built_count c a
built_count c (XOR a b) = built_count c a + built_count c b
built_count c (AND m a b) =
    let made = operand_count (input_of a) (built_count c a) + operand_count (input_of b) (built_count c b) in
    made + (and_count c (input_of a) (input_of b) + cleaning_count m made)

-- how many of them a share undoes, counted so: all but those on the tree's own line; of an AND only the gate from its controls is on it
unfoldable pub undone_count : ℕ → Expr → ℕ
undone_count c ZERO = 0
undone_count c ONE = 0
undone_count c (INPUT j) = 0
undone_count c (NOT a) = undone_count c a
undone_count c (XOR a b) = undone_count c a + undone_count c b
undone_count c (AND m a b) =
    let made = operand_count (input_of a) (built_count c a) + operand_count (input_of b) (built_count c b) in
    made + cleaning_count m made

-- how many gates or Toffolis a share has: those that build its tree, and those undone
unfoldable pub share_count : ℕ → Expr → ℕ
share_count c e = built_count c e + undone_count c e

-- how many gates the shares of several outputs have together
unfoldable pub shares_count : List Expr → ℕ
shares_count [] = 0
shares_count (e ∷ es) = share_count 1 e + shares_count es
