-- The program of a formula is legal: every operand is lower, every input below n, and the output is the last node. Assumes nothing.
use Prim.Native.Nat.{ℕ, zero, suc, ◌+◌, ◌-◌, ◌≤◌, ◌<◌}
use native.Mathlib.Omega.{arith}
use mathlib.Core.Path.{◌≡◌, ap}
use mathlib.Core.List.{List, [], ◌∷◌, ◌++◌}
use lib.ListN.{length, get_or}
use Rattle.node.specs.declared.nodes.Node.{Node}
use Rattle.node.specs.declared.nodes.Node.TheVariants.{Zero}
use Rattle.node.specs.Nodes.{NodeOk, TableOk}
use Rattle.grammar.specs.Grammar.{Sum, Product, Factor, lone, plus, single, times, constant0, constant1, variable, negation, brackets}
use Rattle.grammar.specs.Extent.{SumBelow, ProductBelow, FactorBelow}
use Rattle.grammar.specs.FormulaNodes.{sum_count, product_count, factor_count, sum_nodes, product_nodes, factor_nodes}
use Rattle.grammar.specs.Theorems.{ProgramLegal}
use Rattle.grammar.proofs.CountLaws.{sum_nodes_lem, product_nodes_lem, factor_nodes_lem, some_sum, some_product, some_factor, sum_short}

-- the nodes, the first of them as node d, are in order
unfoldable pub OkFrom : ℕ → ℕ → List Node → Type 0
OkFrom n d [] = Unit {0}
OkFrom n d (x ∷ xs) = NodeOk n d x × OkFrom n (suc d) xs

pub ok_append : (n d m : ℕ) (a b : List Node) → d + length a ≡ m → OkFrom n d a → OkFrom n m b → OkFrom n d (a ++ b)
unfolding OkFrom
ok_append n d m [] b e p q = let same : m ≡ d = omega arith in rw same at q
ok_append n d m (x ∷ a) b e p q = (p.0, ok_append n (suc d) m a b (omega arith) p.1 q)

ok_each : (n d : ℕ) (ns : List Node) → OkFrom n d ns → (k : ℕ) → k < length ns → NodeOk n (d + k) (get_or ns k Zero)
unfolding OkFrom
ok_each n d [] p k h = absurd (omega arith)
ok_each n d (x ∷ xs) p zero h = let same : d + 0 ≡ d = omega arith in rw same p.0
ok_each n d (x ∷ xs) p (suc k) h = let same : d + suc k ≡ suc d + k = omega arith in rw same (ok_each n (suc d) xs p.1 k (omega arith))

module _ (n : ℕ) where
  mutual
    unfolding sum_nodes sum_count SumBelow OkFrom

    pub ok_sum : (s : Sum) (i : ℕ) → SumBelow n s → OkFrom n i (sum_nodes s i)
    ok_sum (lone p) i h = ok_product p i h
    ok_sum (plus s p) i h =
        ok_append n i (i + sum_count s) (sum_nodes s i) _ (ap (λ (k : ℕ). i + k) (sum_nodes_lem s i)) (ok_sum s i h.0)
        (ok_append n (i + sum_count s) (i + sum_count s + product_count p) (product_nodes p (i + sum_count s)) _
        (ap (λ (k : ℕ). i + sum_count s + k) (product_nodes_lem p (i + sum_count s))) (ok_product p (i + sum_count s) h.1)
        ((omega (arith, some_sum s, some_product p), omega (arith, some_sum s, some_product p)), tt))

    pub ok_product : (p : Product) (i : ℕ) → ProductBelow n p → OkFrom n i (product_nodes p i)
    ok_product (single f) i h = ok_factor f i h
    ok_product (times p f) i h =
        ok_append n i (i + product_count p) (product_nodes p i) _ (ap (λ (k : ℕ). i + k) (product_nodes_lem p i)) (ok_product p i h.0)
        (ok_append n (i + product_count p) (i + product_count p + factor_count f) (factor_nodes f (i + product_count p)) _
        (ap (λ (k : ℕ). i + product_count p + k) (factor_nodes_lem f (i + product_count p))) (ok_factor f (i + product_count p) h.1)
        ((omega (arith, some_product p, some_factor f), omega (arith, some_product p, some_factor f)), tt))

    ok_factor : (f : Factor) (i : ℕ) → FactorBelow n f → OkFrom n i (factor_nodes f i)
    ok_factor constant0 i h = (tt, tt)
    ok_factor constant1 i h = (tt, tt)
    ok_factor (variable j) i h = (h, tt)
    ok_factor (negation f) i h =
        ok_append n i (i + factor_count f) (factor_nodes f i) _ (ap (λ (k : ℕ). i + k) (factor_nodes_lem f i)) (ok_factor f i h)
        (omega (arith, some_factor f), tt)
    ok_factor (brackets s) i h = ok_sum s i h

-- so every node of the table is in order
pub ok_table : (n : ℕ) (ns : List Node) → OkFrom n 0 ns → TableOk n ns
ok_table n ns p k l =
    let q = ok_each n 0 ns p k l in
    let same : 0 + k ≡ k = omega arith in
    rw same at q

-- every node is in order, and there are no more than the text has bytes
pub program_legal : ProgramLegal
program_legal n text s r =
    let count : length (sum_nodes s 0) ≡ sum_count s = sum_nodes_lem s 0 in
    let short : sum_count s ≤ length text = omega (arith, sum_short s, ap length r.written) in
    record {
      inputs_most = r.few;
      outputs_some = omega arith;
      outputs_most = omega arith;
      nodes_some = omega (arith, some_sum s);
      nodes_most = omega arith;
      ordered = ok_table n (sum_nodes s 0) (ok_sum n s 0 r.inputs);
      named = named;
    }
  where
    named : (k : ℕ) → k < 1 → get_or ((sum_count s - 1) ∷ []) k 0 < length (sum_nodes s 0)
    named zero h = omega (arith, some_sum s, sum_nodes_lem s 0)
    named (suc k) h = absurd (omega arith)
