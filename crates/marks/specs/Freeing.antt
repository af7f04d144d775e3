-- Lines that marked ANDs free (02, A7): each holds what it held before, at the place in a circuit where the AND's gates stand.
use Rattle.std.specs.Prelude.{ℕ, ◌+◌, ◌<◌, ◌≡◌, ◌≢◌, true, false, List, [], ◌∷◌, ◌++◌, length, get_or, take, drop}
use Rattle.wire.specs.Bits.{bit}
use Rattle.gate.specs.declared.gates.Gate.{Gate}
use Rattle.gate.specs.declared.gates.Gate.TheVariants.{Not}
use Rattle.gate.specs.Running.{run}
use Rattle.node.specs.Exprs.{Expr, ZERO, ONE, INPUT, NOT, XOR, AND, EachBelow}
use Rattle.construction.specs.Pools.{Pool, is_among, lowest_free, take_line}
use Rattle.construction.specs.Construction.{input_of, operand, build, circuit_gates, lines_needed}
use Rattle.construction.specs.Theorems.{Start, first_built, first_shares}
use Rattle.marks.specs.Unmarked.{Unmarked}

-- the pool once both operands of an AND are made, where p was the pool before
abbrev pub with_operands : Expr → Expr → Pool → Pool
with_operands a b p =
    let x = operand (input_of a) (build a) p in
    (operand (input_of b) (build b) x.pool).pool

-- line i is freed (02, A7) at a marked AND of a and b: its operands took it, as it was not in use before them and is with them
pub record Freed (a b : Expr) (p : Pool) (i : ℕ) : Type 0 where
  pub was_free : is_among p.used i ≡ false
  pub taken : is_among (with_operands a b p).used i ≡ true

-- a marked AND of a and b that is built into line t with pool p, in a circuit of these gates on so many lines, where the gates `before` stand before its first
pub record CleansUp (gates : List Gate) (lines : ℕ) (before : List Gate) (a b : Expr) (t : ℕ) (p : Pool) : Type 0 where
  -- its gates stand there
  pub after : List Gate
  pub stands : gates ≡ before ++ ((build (AND true a b) t p).gates ++ after)
  -- after it just those lines are in use that were before it
  pub frees : (build (AND true a b) t p).pool.used ≡ p.used
  -- from every start, work lines zero or not, each line freed holds after its last gate what it held before its first
  pub holds : (start : List ℕ) → Start lines start → (i : ℕ) → Freed a b p i → bit (run (before ++ (build (AND true a b) t p).gates) start) i ≡ bit (run before start) i
  -- and so does every line but t
  pub restores : (start : List ℕ) → Start lines start → (i : ℕ) → i ≢ t → bit (run (before ++ (build (AND true a b) t p).gates) start) i ≡ bit (run before start) i

-- P holds of every marked AND of a tree that is built into line t with pool p, the gates `before` standing before the tree's first: P is told the gates before the AND, its operands, its line and its pool. An operand that is an input has no gates, and no AND in it
abbrev pub EachMarked : (List Gate → Expr → Expr → ℕ → Pool → Type 0) → List Gate → Expr → ℕ → Pool → Type 0
EachMarked P before ZERO t p = Unit {0}
EachMarked P before ONE t p = Unit {0}
EachMarked P before (INPUT j) t p = Unit {0}
EachMarked P before (NOT a) t p = EachMarked P (before ++ (Not t ∷ [])) a t p
EachMarked P before (XOR a b) t p =
    let x = build a t p in
    EachMarked P before a t p × EachMarked P (before ++ x.gates) b t x.pool
EachMarked P before (AND m a b) t p =
    let x = operand (input_of a) (build a) p in
    (m ≡ true → P before a b t p)
    × EachMarked P before a (lowest_free p) (take_line p)
    × EachMarked P (before ++ x.gates) b (lowest_free x.pool) (take_line x.pool)

-- no marked AND of a tree is left out: a tree that has none that is met has none
abbrev pub NoneLeftOut : Type 0
NoneLeftOut = (e : Expr) (before : List Gate) (t : ℕ) (p : Pool) → EachMarked (λ x a b i q. ⊥) before e t p → Unmarked e

-- 02, A7: every marked AND of every output of a circuit cleans up, at the place where its gates stand
abbrev pub MarkedCleanUp : Type 0
MarkedCleanUp =
    (n : ℕ) (es : List Expr) → EachBelow n es → (j : ℕ) → j < length es
    → EachMarked (CleansUp (circuit_gates n es) (n + length es + lines_needed n es)) (first_shares n es j) (get_or es j ZERO) (n + j) (first_built n es j).pool

-- in a circuit, the gates of a marked AND behind as many gates as `before` has leave every line but t as it was from this start, in whole parts of the lines
pub record LeavesAllBut (gates : List Gate) (start : List ℕ) (before : List Gate) (a b : Expr) (t : ℕ) (p : Pool) : Type 0 where
  pub below : take t (run (take (length before + length (build (AND true a b) t p).gates) gates) start) ≡ take t (run (take (length before) gates) start)
  pub above : drop (t + 1) (run (take (length before + length (build (AND true a b) t p).gates) gates) start) ≡ drop (t + 1) (run (take (length before) gates) start)

-- what CleansUp says of single lines it says of all but t
abbrev pub CleansUpSays : Type 0
CleansUpSays =
    (gates : List Gate) (lines : ℕ) (start : List ℕ) → Start lines start → (before : List Gate) (a b : Expr) (t : ℕ) (p : Pool)
    → CleansUp gates lines before a b t p → LeavesAllBut gates start before a b t p
