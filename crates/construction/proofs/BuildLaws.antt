-- The theorems on building and on a share, from the laws of the construction by numbers. Assumes nothing.
use Prim.Native.Nat.{ℕ, ◌+◌, max}
use native.Mathlib.Omega.{arith}
use mathlib.Core.Path.{◌≡◌, sym, ap, ◌∙◌}
use mathlib.Core.Bool.{true}
use borrow.Author.Tests.{eq-eqb}
use Rattle.node.specs.Exprs.{Expr}
use Rattle.construction.specs.Pools.{Pool, lowest_free}
use Rattle.construction.specs.Construction.{MadeOperand, input_of, operand, build}
use Rattle.construction.specs.Steps.{same_input}
use Rattle.construction.specs.Theorems.{Apart, BuildComputes, BuildLeaves, OneControl, TargetNoControl, ShareFormed, ShareRestores}
use Rattle.construction.proofs.Numbers.{control_from, operand_lines, held, most, next_free, ApartFrom}
use Rattle.construction.proofs.PoolLaws.{in_use_lem, build_is, made_is, tree_gates_lem, tree_lines_lem, share_gates, lowest_behind, reached_first, control_is}
use Rattle.construction.proofs.AndLaws.{is_input, input_below, same_control, same_both, lines_built}
use Rattle.construction.proofs.LineLaws as line
use Rattle.construction.proofs.ComputeLaws as compute
use Rattle.construction.proofs.ShareLaws as share

-- lines that are apart are apart by numbers
apart_from : {n : ℕ} {e : Expr} {t f L : ℕ} → Apart n e t f L → ApartFrom n e t f L
apart_from {n} {e} {t} {f} p = record { inputs = p.inputs; behind = p.behind; free = p.free; below = omega (arith, p.below, tree_lines_lem e t f) }

-- 001, Theorem 1
pub build_computes : BuildComputes
build_computes n e t f s p b zs = rw (tree_gates_lem e t f) (compute.build_computes_from n e t f s (apart_from p) b (rw (tree_lines_lem e t f) at zs))

pub build_leaves : BuildLeaves
build_leaves e t f s i n h = rw (tree_gates_lem e t f) (line.build_leaves_from e t f s i n (rw (tree_lines_lem e t f) at h))

pub target_no_control : TargetNoControl
target_no_control n e t f L p = rw (tree_gates_lem e t f) (line.target_no_control_from n e t f L (apart_from p))

pub share_formed : ShareFormed
share_formed n e t f L p = rw (share_gates e t f) (share.share_formed_from n e t f L (apart_from p))

pub one_control : OneControl
unfolding next_free in_use_lem
one_control n m a b p w h low e =
    let u = reached_first p h in
    let f : ℕ = u.line + u.count in
    let at : lowest_free p ≡ f = ap lowest_free u.is ∙ lowest_behind u.line u.count u.peak in
    let first : p.first ≡ u.line = ap (λ (q : Pool). q.first) u.is in
    let x = operand (input_of a) (build a) p in
    let made = ap (operand (input_of a) (build a)) u.is ∙ made_is (input_of a) a (build_is a) u.line u.count u.peak u.few in
    let next : lowest_free x.pool ≡ next_free f a =
    ap (λ (o : MadeOperand). lowest_free o.pool) made ∙ lowest_behind u.line (u.count + operand_lines (input_of a) (held a)) (max u.peak (u.count + operand_lines (input_of a) (most a))) ∙ omega arith in
    let same : control_from (input_of a) f ≡ control_from (input_of b) (next_free f a) =
    sym (control_is (input_of a) (build a) p ∙ ap (control_from (input_of a)) at) ∙ e ∙ control_is (input_of b) (build b) x.pool ∙ ap (control_from (input_of b)) next in
    let one : same_input (input_of a) (input_of b) ≡ true =
    sym (same_control (input_of a) (input_of b) f (next_free f a) (λ i o. omega (arith, input_below n a w.0 i o)) (λ i o. omega (arith, input_below n b w.1 i o)) (λ o. omega (arith, lines_built o (held a))))
    ∙ eq-eqb _ _ same in
    let j = same_both (input_of a) (input_of b) one in
    record { input = j.0; first = is_input a j.0 j.1; second = is_input b j.0 j.2 }

-- 001, Theorem 2
pub share_restores : ShareRestores
share_restores n e t f s p b i ne = rw (share_gates e t f) (share.share_restores_from n e t f s (apart_from p) b i ne)
