-- Laws of a lent list that is filled with an entry for each node of a body, front to back: what f says of the node's tree. Assumes nothing.
use Prim.Native.Nat.{ℕ, ◌+◌, ◌*◌, ◌/◌, ◌<◌, ◌≤◌}
use native.Mathlib.Omega.{arith}
use native.Mathlib.Nat.{one-mul, mul-le-mul_left}
use mathlib.Core.Path.{◌≡◌, refl, sym, ap, ◌∙◌}
use mathlib.Core.List.{List, [], ◌∷◌, ◌++◌, map, flat_map}
use lib.ListN.{length, get_or, take, drop, set, length-map}
use lib.Seq.{sets, get_or-take}
use Rattle.wire.proofs.FillLaws.{Filled, filled_front, filled_all, filled_entry, filled_entries}
use Rattle.wire.proofs.ListLaws.{map_at, flat_take, flat_single}
use Rattle.node.specs.declared.nodes.Node.{Node}
use Rattle.node.specs.declared.nodes.Node.TheVariants.{Zero}
use Rattle.node.specs.Exprs.{Expr, ZERO}
use Rattle.node.specs.Nodes.{node_at, nodes_in, TableOk}
use Rattle.node.specs.Steps.{Fillable}
use Rattle.node.specs.Trees.{tree_of, trees}
use Rattle.node.proofs.TreeLaws.{length_trees, tree_same, trees_at, nodes_count, trees_count, node_in, node_inside}

-- NextOf, for entries of any type
abbrev pub NextIn : {A : Type 0} → (Expr → List A) → Node → List A → List A → Type 0
NextIn f node list entry = (ts : List Expr) → list ≡ flat_map f ts → entry ≡ f (tree_of ts node)

-- entries of w elements each
module _ {A : Type 0} (w : ℕ) (f : Expr → List A) (wide : (e : Expr) → length (f e) ≡ w) where
  -- the next entry is that of the node behind the first i
  entry_next : (ns : List Node) (n i : ℕ) {entry : List A} → TableOk n ns → i < length ns → NextIn f (get_or ns i Zero) (take (w * i) (flat_map f (trees ns))) entry
      → entry ≡ f (get_or (trees ns) i ZERO)
  entry_next ns n i ok h next =
      let front : List Expr = take i (trees ns) in
      let same : tree_of front (get_or ns i Zero) ≡ tree_of (trees ns) (get_or ns i Zero) = tree_same n i (get_or ns i Zero) front (trees ns) (ok i h) (λ k p. get_or-take i (trees ns) k ZERO p) in
      next front (flat_take w f wide (trees ns) i) ∙ ap f (same ∙ sym (trees_at n ns ok i h))

  module _ (body : List ℕ) where
    -- all entries of a body
    abbrev every : List A
    every = flat_map f (trees (nodes_in body))

    -- a loop has stored the entries of the first i nodes: the next one is stored
    pub run_stored : {n i entries : ℕ} (entry : List A) {list₀ list : List A} → Filled every list₀ list (w * i) → Fillable n body entries → w * entries ≤ length list₀ → i < length body / 6
        → NextIn f (node_at body i) (take (w * i) list) entry → Filled every list₀ (sets list (w * i) entry) (w * (i + 1))
    run_stored {n} {i} {entries} entry {list₀} {list} p s room h next =
        let known : entry ≡ f (get_or (trees (nodes_in body)) i ZERO) = entry_next (nodes_in body) n i s.ordered (node_inside body i h) (rw (node_in body i h, ← filled_front p) next) in
        let fits : w * length (trees (nodes_in body)) ≤ w * entries = mul-le-mul_left w (omega (arith, trees_count body, s.fits)) in
        filled_entry w f wide (trees (nodes_in body)) ZERO i entry p (omega (arith, trees_count body)) (omega arith) known

    -- every entry is stored
    pub runs_stored : {list₀ list : List A} {i : ℕ} → Filled every list₀ list (w * i) → length body / 6 ≤ i → list ≡ every ++ drop (w * (length body / 6)) list₀
    runs_stored {list₀} p h = filled_entries w f wide (trees (nodes_in body)) p (omega (arith, trees_count body)) ∙ ap (λ (n : ℕ). every ++ drop (w * n) list₀) (trees_count body)

-- entries of one element each: that of every node of a table
module _ {A : Type 0} (f : Expr → A) (ns : List Node) where
  pub entries_length : length (map f (trees ns)) ≡ length ns
  entries_length = length-map (trees ns) f ∙ length_trees ns

-- that of node i, where they are numbers
module _ (f : Expr → ℕ) (ns : List Node) where
  pub entry_at : (i : ℕ) → i < length ns → get_or (map f (trees ns)) i 0 ≡ f (get_or (trees ns) i ZERO)
  entry_at i h = map_at f (trees ns) i ZERO 0 (omega (arith, length_trees ns))

-- where a list has the numbers of some trees, entry a is that of tree a
pub entry_is : (f : Expr → ℕ) {list : List ℕ} (ts : List Expr) → list ≡ flat_map (λ e. f e ∷ []) ts → (a : ℕ) → a < length list → get_or list a 0 ≡ f (get_or ts a ZERO)
entry_is f {list} ts e a h =
    let is : list ≡ map f ts = e ∙ flat_single f ts in
    let count : length list ≡ length ts = ap length is ∙ length-map ts f in
    ap (λ (l : List ℕ). get_or l a 0) is ∙ map_at f ts a ZERO 0 (omega arith)

module _ {A : Type 0} (f : Expr → A) (body : List ℕ) where
  abbrev single : Expr → List A
  single e = f e ∷ []

  abbrev all : List A
  all = map f (trees (nodes_in body))

  pub entries_count : length all ≡ length body / 6
  entries_count = entries_length f (nodes_in body) ∙ nodes_count body

  -- the next one is stored
  pub entry_stored : {n i : ℕ} {v : A} {list₀ list : List A} → Filled all list₀ list i → Fillable n body (length list₀) → i < length body / 6
      → NextIn single (node_at body i) (take i list) (v ∷ []) → Filled all list₀ (set list i v) (i + 1)
  entry_stored {n} {i} {v} {list₀} {list} p s h next =
      let same : every 1 single (λ e. refl) body ≡ all = flat_single f (trees (nodes_in body)) in
      let before : Filled (every 1 single (λ e. refl) body) list₀ list (1 * i) = rw (one-mul i, same) p in
      let said : NextIn single (node_at body i) (take (1 * i) list) (v ∷ []) = rw (one-mul i) next in
      let stored : Filled (every 1 single (λ e. refl) body) list₀ (sets list (1 * i) (v ∷ [])) (1 * (i + 1)) = run_stored 1 single (λ e. refl) body (v ∷ []) before s (omega arith) h said in
      rw (one-mul i, one-mul (i + 1), same) at stored

  -- every one is stored
  pub entries_stored : {list₀ list : List A} {i : ℕ} → Filled all list₀ list i → length body / 6 ≤ i → list ≡ all ++ drop (length body / 6) list₀
  entries_stored {list₀} p h = filled_all p (omega (arith, entries_count)) ∙ ap (λ (n : ℕ). all ++ drop n list₀) entries_count
