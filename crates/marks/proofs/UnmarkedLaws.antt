-- Laws of trees without marks: they are built as before there were any, and by few gates. Assumes nothing.
use Prim.Native.Nat.{ℕ, ◌+◌, ◌*◌, ◌≤◌}
use native.Mathlib.Omega.{arith}
use mathlib.Core.Path.{◌≡◌, refl, ap}
use mathlib.Core.Bool.{false}
use mathlib.Core.Option.{Option, none, some}
use mathlib.Core.List.{List, [], ◌∷◌}
use lib.ListN.{length}
use Rattle.refusal.specs.Checks.{lowest_from}
use Rattle.gate.specs.declared.gates.Gate.TheVariants.{Toffoli}
use Rattle.gate.specs.Gates.{target}
use Rattle.gate.specs.Running.{without, uncompute}
use Rattle.node.specs.Exprs.{Expr, ZERO, ONE, INPUT, NOT, XOR, AND, size}
use Rattle.construction.specs.Pools.{Pool, is_among, all_free, lowest_free, take_line, release}
use Rattle.construction.specs.Construction.{Built, input_of, operand, and_gate, cleaning, cleaned, build, share, shares, all_shares}
use Rattle.construction.specs.Steps.{cleaning_count, built_count, undone_count, share_count}
use Rattle.construction.proofs.CountLaws.{operand_few, and_one}
use Rattle.marks.specs.Unmarked.{Unmarked, EachUnmarked, unmarked_build, unmarked_shares, UnmarkedSame}

-- the AND of inputs 0 and 1, and of another operand
abbrev and_with : Expr → Expr
and_with e = AND false (AND false (INPUT 0) (INPUT 1)) e

-- in the XOR of two of them, before there were marks, the line of the first stays in use, and a share ends with its undoing
sum_gates : (unmarked_shares (XOR (and_with (INPUT 2)) (and_with (INPUT 3)) ∷ []) 4 (all_free 5)).gates
    ≡ Toffoli 0 1 5 ∷ Toffoli 2 5 4 ∷ Toffoli 0 1 6 ∷ Toffoli 3 6 4 ∷ Toffoli 0 1 6 ∷ Toffoli 0 1 5 ∷ []
unfolding unmarked_shares unmarked_build input_of operand and_gate is_among all_free lowest_free lowest_from take_line release uncompute without target
sum_gates = refl

sum_lines : (unmarked_shares (XOR (and_with (INPUT 2)) (and_with (INPUT 3)) ∷ []) 4 (all_free 5)).pool.most ≡ 2
unfolding unmarked_shares unmarked_build input_of operand and_gate is_among all_free lowest_free lowest_from take_line release
sum_lines = refl

-- an operand is made alike by functions that build alike
operand_alike : (q : Option ℕ) (into other : ℕ → Pool → Built) → ((t : ℕ) (p : Pool) → into t p ≡ other t p) → (p : Pool) → operand q into p ≡ operand q other p
unfolding operand
operand_alike (some j) into other h p = refl
operand_alike none into other h p = ap (λ (x : Built). record { control = lowest_free p; gates = x.gates; pool = x.pool }) (h (lowest_free p) (take_line p))

-- without marks a tree is built as before there were any
build_unmarked : (e : Expr) → Unmarked e → (t : ℕ) (p : Pool) → build e t p ≡ unmarked_build e t p
unfolding build unmarked_build cleaning cleaned
build_unmarked ZERO u t p = refl
build_unmarked ONE u t p = refl
build_unmarked (INPUT j) u t p = refl
build_unmarked (NOT a) u t p = rw (build_unmarked a u t p) refl
build_unmarked (XOR a b) u t p = rw (build_unmarked a u.0 t p, build_unmarked b u.1 t (unmarked_build a t p).pool) refl
build_unmarked (AND m a b) u t p =
    let x = operand (input_of a) (unmarked_build a) p in
    rw (u.0, operand_alike (input_of a) (build a) (unmarked_build a) (build_unmarked a u.1) p, operand_alike (input_of b) (build b) (unmarked_build b) (build_unmarked b u.2) x.pool)
    (refl {a = unmarked_build (AND false a b) t p})

shares_unmarked : (es : List Expr) → EachUnmarked es → (t : ℕ) (p : Pool) → shares es t p ≡ unmarked_shares es t p
unfolding shares share unmarked_shares
shares_unmarked [] u t p = refl
shares_unmarked (e ∷ es) u t p = rw (build_unmarked e u.0 t p, shares_unmarked es u.1 (t + 1) (release [] (unmarked_build e t p).pool)) refl

pub unmarked_same : UnmarkedSame
unfolding all_shares
unmarked_same n es u = shares_unmarked es u n (all_free (n + length es))

-- without marks a tree is built by no more gates than its size, and fewer of them are undone
within_size : (e : Expr) → Unmarked e → (built_count 1 e ≤ size e) × (undone_count 1 e + 1 ≤ size e)
unfolding built_count undone_count cleaning_count size
within_size ZERO u = (omega arith, omega arith)
within_size ONE u = (omega arith, omega arith)
within_size (INPUT j) u = (omega arith, omega arith)
within_size (NOT a) u =
    let x = within_size a u in
    (omega (arith, x.0), omega (arith, x.1))
within_size (XOR a b) u =
    let x = within_size a u.0 in
    let y = within_size b u.1 in
    (omega (arith, x.0, y.0), omega (arith, x.1, y.1))
within_size (AND m a b) u =
    let x = within_size a u.1 in
    let y = within_size b u.2 in
    let first = operand_few (input_of a) (built_count 1 a) in
    let second = operand_few (input_of b) (built_count 1 b) in
    rw u.0 (omega (arith, x.0, y.0, first, second, and_one (input_of a) (input_of b)), omega (arith, x.0, y.0, first, second))

-- so a share has fewer gates than twice the size
pub share_within_size : (e : Expr) → Unmarked e → share_count 1 e + 1 ≤ 2 * size e
unfolding share_count
share_within_size e u =
    let x = within_size e u in
    omega (arith, x.0, x.1)
