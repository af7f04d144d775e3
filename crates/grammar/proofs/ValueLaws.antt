-- The program of a formula has its truth value. Assumes nothing.
use Prim.Native.Nat.{ℕ, ◌+◌, ◌*◌, ◌-◌}
use native.Mathlib.Omega.{arith}
use mathlib.Core.Path.{◌≡◌, refl, sym, ap, ap₂, ◌∙◌}
use mathlib.Core.Bool.{false}
use mathlib.Core.List.{List, [], ◌∷◌, ◌++◌, append_assoc}
use lib.ListN.{length, get_or, length-append, get_or-append}
use lib.Seq.{get_or_at}
use Rattle.wire.specs.Bits.{xor_bit}
use Rattle.node.specs.declared.nodes.Node.{Node}
use Rattle.node.specs.declared.nodes.Node.TheVariants.{Zero, One, Input, Not, Xor, And}
use Rattle.node.specs.Exprs.{Expr, ZERO, ONE, INPUT, NOT, XOR, AND, value}
use Rattle.node.specs.Trees.{tree_of, trees_from, trees}
use Rattle.program.specs.Programs.{output_tree, output_value}
use Rattle.grammar.specs.Grammar.{Sum, Product, Factor, lone, plus, single, times, constant0, constant1, variable, negation, brackets, sum_value, product_value, factor_value}
use Rattle.grammar.specs.FormulaNodes.{sum_count, product_count, factor_count, sum_nodes, product_nodes, factor_nodes}
use Rattle.grammar.specs.Theorems.{ProgramValue}

-- the expression of each
unfoldable mutual
  pub sum_expr : Sum → Expr
  sum_expr (lone p) = product_expr p
  sum_expr (plus s p) = XOR (sum_expr s) (product_expr p)

  pub product_expr : Product → Expr
  product_expr (single f) = factor_expr f
  product_expr (times p f) = AND false (product_expr p) (factor_expr f)

  pub factor_expr : Factor → Expr
  factor_expr constant0 = ZERO
  factor_expr constant1 = ONE
  factor_expr (variable j) = INPUT j
  factor_expr (negation f) = NOT (factor_expr f)
  factor_expr (brackets s) = sum_expr s

mutual
  unfolding sum_expr sum_value value

  pub sum_value_lem : (s : Sum) (x : List ℕ) → value (sum_expr s) x ≡ sum_value s x
  sum_value_lem (lone p) x = product_value_lem p x
  sum_value_lem (plus s p) x = ap₂ xor_bit (sum_value_lem s x) (product_value_lem p x)

  product_value_lem : (p : Product) (x : List ℕ) → value (product_expr p) x ≡ product_value p x
  product_value_lem (single f) x = factor_value_lem f x
  product_value_lem (times p f) x = ap₂ ◌*◌ (product_value_lem p x) (factor_value_lem f x)

  factor_value_lem : (f : Factor) (x : List ℕ) → value (factor_expr f) x ≡ factor_value f x
  factor_value_lem constant0 x = refl
  factor_value_lem constant1 x = refl
  factor_value_lem (variable j) x = refl
  factor_value_lem (negation f) x = ap (xor_bit 1) (factor_value_lem f x)
  factor_value_lem (brackets s) x = sum_value_lem s x

trees_append : (a b : List Node) (ts : List Expr) → trees_from ts (a ++ b) ≡ trees_from (trees_from ts a) b
unfolding trees_from
trees_append [] b ts = refl
trees_append (n ∷ a) b ts = trees_append a b (ts ++ (tree_of ts n ∷ []))

-- the nodes add m trees behind ts, and the last of them is e
pub record Made (ts : List Expr) (nodes : List Node) (m : ℕ) (e : Expr) : Type 0 where
  pub others : List Expr
  pub all : trees_from ts nodes ≡ ts ++ (others ++ (e ∷ []))
  pub long : length others + 1 ≡ m

-- the last of them
last_in : (ts others : List Expr) (e : Expr) (i : ℕ) → length ts + length others ≡ i → get_or (ts ++ (others ++ (e ∷ []))) i ZERO ≡ e
last_in ts others e i h =
    ap (λ (l : List Expr). get_or l i ZERO) (sym (append_assoc ts others (e ∷ []))) ∙ get_or_at (ts ++ others) e [] ZERO i (length-append ts others ∙ h)

length_three : (ts others : List Expr) (e : Expr) → length (ts ++ (others ++ (e ∷ []))) ≡ length ts + length others + 1
length_three ts others e = simp length-append (omega arith)

made_one : (ts : List Expr) (n : Node) → Made ts (n ∷ []) 1 (tree_of ts n)
unfolding trees_from
made_one ts n = record { others = []; all = refl; long = refl }

made_not : (ts : List Expr) (i : ℕ) (a : List Node) (m : ℕ) (e : Expr) → i ≡ length ts → Made ts a m e → Made ts (a ++ (Not (i + m - 1) ∷ [])) (m + 1) (NOT e)
unfolding trees_from tree_of
made_not ts i a m e h q =
    let u : List Expr = ts ++ (q.others ++ (e ∷ [])) in
    let operand : get_or u (i + m - 1) ZERO ≡ e = last_in ts q.others e (i + m - 1) (omega (arith, q.long)) in
    record {
      others = q.others ++ (e ∷ []);
      all = trees_append a (Not (i + m - 1) ∷ []) ts ∙ ap (λ (v : List Expr). trees_from v (Not (i + m - 1) ∷ [])) q.all
          ∙ ap (λ (v : Expr). u ++ (NOT v ∷ [])) operand ∙ append_assoc ts (q.others ++ (e ∷ [])) (NOT e ∷ []);
      long = omega (arith, length-append q.others (e ∷ []), q.long);
    }

made_two : (op : ℕ → ℕ → Node) (join : Expr → Expr → Expr) → ((ts : List Expr) (x y : ℕ) → tree_of ts (op x y) ≡ join (get_or ts x ZERO) (get_or ts y ZERO))
    → (ts : List Expr) (i : ℕ) (a b : List Node) (m k : ℕ) (e e' : Expr) → i ≡ length ts → Made ts a m e → ((ts' : List Expr) → i + m ≡ length ts' → Made ts' b k e')
    → Made ts (a ++ (b ++ (op (i + m - 1) (i + m + k - 1) ∷ []))) (m + k + 1) (join e e')
unfolding trees_from
made_two op join law ts i a b m k e e' h q r =
    let n : Node = op (i + m - 1) (i + m + k - 1) in
    let u : List Expr = ts ++ (q.others ++ (e ∷ [])) in
    let lu : i + m ≡ length u = omega (arith, length_three ts q.others e, q.long) in
    let q' : Made u b k e' = r u lu in
    let w : List Expr = u ++ (q'.others ++ (e' ∷ [])) in
    let left : get_or w (i + m - 1) ZERO ≡ e =
    get_or-append u (q'.others ++ (e' ∷ [])) ZERO (i + m - 1) (omega (arith, q.long, lu)) ∙ last_in ts q.others e (i + m - 1) (omega (arith, q.long)) in
    let right : get_or w (i + m + k - 1) ZERO ≡ e' = last_in u q'.others e' (i + m + k - 1) (omega (arith, q'.long, lu)) in
    record {
      others = (q.others ++ (e ∷ [])) ++ (q'.others ++ (e' ∷ []));
      all = trees_append a (b ++ (n ∷ [])) ts ∙ ap (λ (v : List Expr). trees_from v (b ++ (n ∷ []))) q.all ∙ trees_append b (n ∷ []) u
          ∙ ap (λ (v : List Expr). trees_from v (n ∷ [])) q'.all
          ∙ ap (λ (v : Expr). w ++ (v ∷ [])) (law w (i + m - 1) (i + m + k - 1) ∙ ap₂ join left right)
          ∙ simp append_assoc;
      long = omega (arith, length-append (q.others ++ (e ∷ [])) (q'.others ++ (e' ∷ [])), length-append q.others (e ∷ []), length-append q'.others (e' ∷ []), q.long, q'.long);
    }

mutual
  unfolding sum_nodes sum_count sum_expr tree_of

  made_sum_lem : (s : Sum) (ts : List Expr) (i : ℕ) → i ≡ length ts → Made ts (sum_nodes s i) (sum_count s) (sum_expr s)
  made_sum_lem (lone p) ts i h = made_product_lem p ts i h
  made_sum_lem (plus s p) ts i h =
      made_two Xor XOR (λ t x y. refl) ts i (sum_nodes s i) (product_nodes p (i + sum_count s)) (sum_count s) (product_count p) (sum_expr s) (product_expr p) h
      (made_sum_lem s ts i h) (λ t g. made_product_lem p t (i + sum_count s) g)

  made_product_lem : (p : Product) (ts : List Expr) (i : ℕ) → i ≡ length ts → Made ts (product_nodes p i) (product_count p) (product_expr p)
  made_product_lem (single f) ts i h = made_factor_lem f ts i h
  made_product_lem (times p f) ts i h =
      made_two (And false) (AND false) (λ t x y. refl) ts i (product_nodes p i) (factor_nodes f (i + product_count p)) (product_count p) (factor_count f) (product_expr p) (factor_expr f) h
      (made_product_lem p ts i h) (λ t g. made_factor_lem f t (i + product_count p) g)

  made_factor_lem : (f : Factor) (ts : List Expr) (i : ℕ) → i ≡ length ts → Made ts (factor_nodes f i) (factor_count f) (factor_expr f)
  made_factor_lem constant0 ts i h = made_one ts Zero
  made_factor_lem constant1 ts i h = made_one ts One
  made_factor_lem (variable j) ts i h = made_one ts (Input j)
  made_factor_lem (negation f) ts i h = made_not ts i (factor_nodes f i) (factor_count f) (factor_expr f) h (made_factor_lem f ts i h)
  made_factor_lem (brackets s) ts i h = made_sum_lem s ts i h

pub program_value : ProgramValue
unfolding output_value output_tree trees
program_value n s x =
    let q = made_sum_lem s [] 0 refl in
    ap (λ (ts : List Expr). value (get_or ts (sum_count s - 1) ZERO) x) q.all
    ∙ ap (λ (e : Expr). value e x) (last_in [] q.others (sum_expr s) (sum_count s - 1) (omega (arith, q.long)))
    ∙ sum_value_lem s x
