-- Laws of the sizes that the size list shows. Assumes nothing.
use Prim.Native.Nat.{ℕ, ◌+◌, ◌/◌, ◌<◌, ◌≤◌}
use native.Mathlib.Omega.{arith}
use native.Mathlib.Nat.{add-zero}
use mathlib.Core.Path.{◌≡◌, refl, sym, ap, ◌∙◌}
use mathlib.Core.Bool.{Bool}
use mathlib.Core.List.{List, [], ◌∷◌, ◌++◌, map}
use lib.ListN.{length, get_or, take, get_or-append}
use lib.Seq.{get_or-take, length-take-le}
use lib.Dec.{leb}
use borrow.Author.Tests.{leb-true, leb-false, le-leb, lt-leb}
use Rattle.wire.specs.Limits.{most_size}
use Rattle.wire.specs.Shown.{shown}
use Rattle.refusal.specs.Checks.{lowest}
use Rattle.refusal.proofs.CheckLaws.{by_test, lowest_same}
use Rattle.wire.proofs.FillLaws.{Filled, filled_front}
use Rattle.wire.proofs.ListLaws.{flat_single}
use Rattle.wire.proofs.ShownLaws.{shown_few, shown_more, shown_sum}
use Rattle.node.specs.declared.nodes.Node.{Node}
use Rattle.node.specs.declared.nodes.Node.TheVariants.{Zero, One, Input, Not, Xor, And}
use Rattle.node.specs.Exprs.{Expr, ZERO, size}
use Rattle.node.specs.Nodes.{nodes_in}
use Rattle.program.specs.Reading.{output_at}
use Rattle.node.specs.Steps.{NextOf}
use Rattle.node.specs.Trees.{tree_of, trees}
use Rattle.filling.proofs.FillLaws.{item_is}
use Rattle.node.proofs.TreeLaws.{nodes_count}
use Rattle.node.proofs.FilledLaws.{entries_length, entry_at}
use Rattle.sizing.specs.Sizing.{shown_size, node_sizes}
use Rattle.sizing.specs.Steps.{entry_fits}

-- a size as shown is at most 16,384 just where the size is
pub size_within : (s : ℕ) → leb (shown most_size s) most_size ≡ leb s most_size
unfolding shown
size_within s =
    by_test (leb s most_size)
    (λ t. le-leb (shown most_size s) most_size (omega (arith, leb-true s most_size t)) ∙ sym t)
    (λ t. lt-leb (shown most_size s) most_size (omega (arith, leb-false s most_size t)) ∙ sym t)

-- there is an entry for each node; it shows the size of the node's tree
pub sizes_length : (ns : List Node) → length (node_sizes ns) ≡ length ns
unfolding node_sizes
sizes_length ns = entries_length shown_size ns

sizes_at : (ns : List Node) (i : ℕ) → i < length ns → get_or (node_sizes ns) i 0 ≡ shown_size (get_or (trees ns) i ZERO)
unfolding node_sizes
sizes_at ns i h = entry_at shown_size ns i h

-- where a list shows the sizes of trees, an entry is at most 16,385, and a sum of entries shows the sum of their trees' sizes
module _ {sizes : List ℕ} (ts : List Expr) (e : sizes ≡ map shown_size ts) (a : ℕ) (h : a < length sizes) where
  pub entry_few : get_or sizes a 0 ≤ most_size + 1
  entry_few = rw (item_is shown_size ts e a 0 h) (shown_few most_size (size (get_or ts a ZERO)))

  pub more_is : shown most_size (1 + get_or sizes a 0 + 0) ≡ shown most_size (1 + size (get_or ts a ZERO))
  more_is = rw (add-zero, item_is shown_size ts e a 0 h) (shown_more most_size 1 (size (get_or ts a ZERO)))

  pub sum_is : (b : ℕ) → b < length sizes → shown most_size (1 + get_or sizes a 0 + get_or sizes b 0) ≡ shown most_size (1 + size (get_or ts a ZERO) + size (get_or ts b ZERO))
  sum_is b g = rw (item_is shown_size ts e a 0 h, item_is shown_size ts e b 0 g) (shown_sum most_size 1 (size (get_or ts a ZERO)) (size (get_or ts b ZERO)))

module _ (body : List ℕ) where
  -- the lowest output whose entry is too large is the lowest whose tree is
  pub sizes_lowest : (outputs rest : List ℕ) (k : ℕ) → ((j : ℕ) → j < k → output_at outputs j < length body / 6)
      → lowest (entry_fits (node_sizes (nodes_in body) ++ rest) outputs) k ≡ lowest (λ j. leb (size (get_or (trees (nodes_in body)) (output_at outputs j) ZERO)) most_size) k
  sizes_lowest outputs rest k named =
      let ns : List Node = nodes_in body in
      let entry : (i : ℕ) → i < length body / 6 → get_or (node_sizes ns ++ rest) i 0 ≡ shown_size (get_or (trees (nodes_in body)) i ZERO) =
      λ i h. get_or-append (node_sizes ns) rest 0 i (omega (arith, sizes_length ns, nodes_count body)) ∙ sizes_at ns i (omega (arith, nodes_count body)) in
      lowest_same (entry_fits (node_sizes ns ++ rest) outputs) (λ (j : ℕ). leb (size (get_or (trees (nodes_in body)) (output_at outputs j) ZERO)) most_size) k
      (λ j h. ap (λ (s : ℕ). leb s most_size) (entry (output_at outputs j) (named j h)) ∙ size_within (size (get_or (trees (nodes_in body)) (output_at outputs j) ZERO)))

-- where a loop has stored the first entries of a table, each of them is at most 16,385
pub stored_few : (ns : List Node) {list₀ list : List ℕ} {i : ℕ} → Filled (node_sizes ns) list₀ list i → (k : ℕ) → k < length (take i list) → get_or (take i list) k 0 ≤ most_size + 1
stored_few ns {list₀} {list} {i} p k h =
    let front : take i list ≡ take i (node_sizes ns) = filled_front p in
    let low : k < i = omega (arith, ap length front, length-take-le i (node_sizes ns) p.within) in
    let inside : k < length ns = omega (arith, p.within, sizes_length ns) in
    rw (front, get_or-take i (node_sizes ns) k 0 low, sizes_at ns k inside) (shown_few most_size (size (get_or (trees ns) k ZERO)))

-- what a node adds to a list of sizes, by its kind: where the list shows the sizes of trees, its entry is made of its operands' entries
abbrev pub NextSize : Node → List ℕ → ℕ → Type 0
NextSize node list r = NextOf (λ e. shown_size e ∷ []) node list (r ∷ [])

pub next_zero : (ss : List ℕ) → NextSize Zero ss 1
unfolding tree_of size shown
next_zero ss ts e = refl

pub next_one : (ss : List ℕ) → NextSize One ss 1
unfolding tree_of size shown
next_one ss ts e = refl

pub next_input : (ss : List ℕ) (j : ℕ) → NextSize (Input j) ss 1
unfolding tree_of size shown
next_input ss j ts e = refl

pub next_not : {ss : List ℕ} (a : ℕ) {r : ℕ} → a < length ss → r ≡ shown most_size (1 + get_or ss a 0 + 0) → NextSize (Not a) ss r
unfolding tree_of size
next_not a h p ts e = ap (λ (s : ℕ). s ∷ []) (p ∙ more_is ts (e ∙ flat_single shown_size ts) a h)

module _ {ss : List ℕ} (a b : ℕ) {r : ℕ} (h : (a < length ss) × (b < length ss)) (p : r ≡ shown most_size (1 + get_or ss a 0 + get_or ss b 0)) where
  pub next_xor : NextSize (Xor a b) ss r
  unfolding tree_of size
  next_xor ts e = ap (λ (s : ℕ). s ∷ []) (p ∙ sum_is ts (e ∙ flat_single shown_size ts) a h.0 b h.1)

  pub next_and : (m : Bool) → NextSize (And m a b) ss r
  unfolding tree_of size
  next_and m ts e = ap (λ (s : ℕ). s ∷ []) (p ∙ sum_is ts (e ∙ flat_single shown_size ts) a h.0 b h.1)
