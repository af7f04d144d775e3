-- Laws of programs without marks: nothing is changed. Assumes nothing.
use Prim.Native.Nat.{ℕ, zero, suc, ◌+◌, ◌*◌, ◌≤◌, ◌<◌}
use native.Mathlib.Omega.{arith}
use mathlib.Core.Path.{◌≡◌, refl, ap, ◌∙◌}
use mathlib.Core.Bool.{Bool, true, false, cond}
use mathlib.Core.List.{List, [], ◌∷◌, ◌++◌}
use lib.ListN.{length, get_or}
use Rattle.wire.specs.Limits.{most_size}
use Rattle.wire.specs.Lists.{tabulate_from}
use Rattle.wire.specs.Shown.{shown}
use Rattle.node.specs.declared.nodes.Node.{Node}
use Rattle.node.specs.declared.nodes.Node.TheVariants.{Zero, One, Input, Not, Xor, And}
use Rattle.node.specs.NodeBytes.{node_bytes}
use Rattle.node.specs.Exprs.{Expr, ZERO, size}
use Rattle.node.specs.Trees.{tree_of, trees_from, trees}
use Rattle.program.specs.Programs.{Program, output_tree}
use Rattle.construction.specs.Construction.{Built, all_shares, circuit_gates, lines_needed}
use Rattle.construction.specs.Counting.{gates_shown}
use Rattle.construction.specs.Pools.{all_free}
use Rattle.construction.specs.Steps.{shares_count}
use Rattle.construction.proofs.CountLaws.{circuit_length}
use Rattle.marks.specs.Unmarked.{Unmarked, EachUnmarked, unmarked_shares}
use Rattle.marks.proofs.UnmarkedLaws.{unmarked_same, share_within_size}
use Rattle.compilation.specs.Compiling.{output_trees, program_circuit}
use Rattle.compilation.specs.Unmarked.{NotMarked, WithoutMarks, UnmarkedPrograms, UnmarkedShown}
use Rattle.compilation.proofs.OutputLaws.{trees_length, tree_is}

-- trees are unmarked where the nodes are
unmarked_at : (ts : List Expr) → EachUnmarked ts → (k : ℕ) → Unmarked (get_or ts k ZERO)
unmarked_at [] u k = tt
unmarked_at (t ∷ ts) u zero = u.0
unmarked_at (t ∷ ts) u (suc k) = unmarked_at ts u.1 k

unmarked_snoc : (ts : List Expr) (t : Expr) → EachUnmarked ts → Unmarked t → EachUnmarked (ts ++ (t ∷ []))
unmarked_snoc [] t u w = (w, tt)
unmarked_snoc (s ∷ ts) t u w = (u.0, unmarked_snoc ts t u.1 w)

no_mark : (m : Bool) → ◌≡◌ {A = ℕ} (cond m 1 0) 0 → m ≡ false
no_mark true h = absurd (omega (arith, h))
no_mark false h = refl

unmarked_tree : (node : Node) (ts : List Expr) → NotMarked node → EachUnmarked ts → Unmarked (tree_of ts node)
unfolding tree_of node_bytes
unmarked_tree Zero ts n u = tt
unmarked_tree One ts n u = tt
unmarked_tree (Input j) ts n u = tt
unmarked_tree (Not a) ts n u = unmarked_at ts u a
unmarked_tree (Xor a b) ts n u = (unmarked_at ts u a, unmarked_at ts u b)
unmarked_tree (And m a b) ts n u = (no_mark m n, unmarked_at ts u a, unmarked_at ts u b)

unmarked_from : (ns : List Node) (ts : List Expr) → ((i : ℕ) → i < length ns → NotMarked (get_or ns i Zero)) → EachUnmarked ts → EachUnmarked (trees_from ts ns)
unfolding trees_from
unmarked_from [] ts h u = u
unmarked_from (n ∷ ns) ts h u =
    unmarked_from ns (ts ++ (tree_of ts n ∷ [])) (λ i l. h (suc i) (omega arith)) (unmarked_snoc ts (tree_of ts n) u (unmarked_tree n ts (h zero (omega arith)) u))

unmarked_made : (make : ℕ → Expr) (i k : ℕ) → ((j : ℕ) → Unmarked (make j)) → EachUnmarked (tabulate_from make i k)
unfolding tabulate_from
unmarked_made make i zero h = tt
unmarked_made make i (suc k) h = (h i, unmarked_made make (suc i) k h)

-- so are the trees of a program's outputs
outputs_unmarked : (p : Program) → WithoutMarks p → EachUnmarked (output_trees p)
unfolding output_trees output_tree trees
outputs_unmarked p h = unmarked_made (output_tree p) 0 (length p.outputs) (λ k. unmarked_at (trees p.nodes) (unmarked_from p.nodes [] h tt) (get_or p.outputs k 0))

pub unmarked_programs : UnmarkedPrograms
unfolding program_circuit circuit_gates lines_needed
unmarked_programs p h =
    let same : all_shares p.inputs (output_trees p) ≡ unmarked_shares (output_trees p) p.inputs (all_free (p.inputs + length p.outputs)) =
    unmarked_same p.inputs (output_trees p) (outputs_unmarked p h) ∙ ap (λ (m : ℕ). unmarked_shares (output_trees p) p.inputs (all_free (p.inputs + m))) (trees_length p) in
    (ap (λ (b : Built). b.gates) same, ap (λ (b : Built). b.pool.most) same)

-- shares of small trees without marks have few gates
shares_few : (es : List Expr) → EachUnmarked es → ((k : ℕ) → k < length es → size (get_or es k ZERO) ≤ most_size) → shares_count es ≤ length es * (2 * most_size)
unfolding shares_count
shares_few [] u small = omega arith
shares_few (e ∷ es) u small = omega (arith, share_within_size e u.0, small zero (omega arith), shares_few es u.1 (λ k h. small (suc k) (omega arith)))

pub unmarked_shown : UnmarkedShown
unfolding program_circuit gates_shown shown
unmarked_shown p legal h small =
    let few = shares_few (output_trees p) (outputs_unmarked p h) (λ k l. let l : k < length p.outputs = omega (arith, trees_length p) in rw (tree_is p k l) (small k l)) in
    omega (arith, circuit_length p.inputs (output_trees p), few, trees_length p, legal.outputs_most)
