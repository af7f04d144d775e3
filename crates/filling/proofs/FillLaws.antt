-- Laws of a loop that stores what a fold says of the nodes of a body, front to back. Assumes nothing.
use Prim.Native.Nat.{ℕ, ◌+◌, ◌/◌, ◌<◌, ◌≤◌}
use native.Mathlib.Omega.{arith}
use mathlib.Core.Path.{◌≡◌, sym, ap, ◌∙◌}
use mathlib.Core.List.{List, [], ◌∷◌, ◌++◌, map}
use lib.ListN.{length, get_or, take, drop, set, length-map, length-append, length-drop}
use lib.Seq.{drop_at, length-take-le}
use Rattle.std.proofs.lemmas.List.{get_or-map, take-map}
use Rattle.wire.proofs.FillLaws.{Filled as Stored, filled_front}
use Rattle.wire.proofs.ListLaws.{flat_single}
use Rattle.node.specs.declared.nodes.Node.{Node}
use Rattle.node.specs.Exprs.{Expr, ZERO}
use Rattle.node.specs.Nodes.{node_at, nodes_in}
use Rattle.node.specs.Steps.{Fillable, NextOf}
use Rattle.node.specs.Trees.{trees}
use Rattle.node.proofs.FilledLaws.{entries_count, entry_stored, entries_stored}
use Rattle.node.proofs.TreeLaws.{trees_count, next_ok}
use Rattle.filling.specs.Filling.{Listed, ItemOf}

-- where a list has what f says of some trees, item a is what it says of tree a
pub item_is : {A : Type 0} (f : Expr → A) {list : List A} (ts : List Expr) → list ≡ map f ts → (a : ℕ) (d : A) → a < length list → get_or list a d ≡ f (get_or ts a ZERO)
item_is f ts e a d h = ap (λ l. get_or l a d) e ∙ get_or-map f ts a ZERO d (omega (arith, ap length e ∙ length-map ts f))

-- a number that is the next entry of one number is the item
pub item_of_next : (f : Expr → ℕ) (node : Node) {list : List ℕ} {item : ℕ} → NextOf (λ e. f e ∷ []) node list (item ∷ []) → ItemOf f list node item
item_of_next f node next ts e =
    let same = next ts (e ∙ sym (flat_single f ts)) in
    cc

module _ {A : Type 0} (f : Expr → A) (body : List ℕ) where
  -- what f says of the first i nodes
  abbrev front : ℕ → List A
  front i = map f (take i (trees (nodes_in body)))

  stored : (i : ℕ) → i ≤ length body / 6 → length (front i) ≡ i
  stored i h = length-map (take i (trees (nodes_in body))) f ∙ length-take-le i (trees (nodes_in body)) (omega (arith, trees_count body))

  -- a loop has stored it in the list, which was list₀
  pub record Filled (list₀ list : List A) (i : ℕ) : Type 0 where
    pub within : i ≤ length body / 6
    pub is : list ≡ front i ++ drop i list₀

  -- the same, and the list has the length that it had
  abbrev pub Kept : List A → List A → ℕ → Type 0
  Kept list₀ list i = Stored (map f (trees (nodes_in body))) list₀ list i

  pub filled : {i : ℕ} {list₀ list : List A} → Kept list₀ list i → Filled list₀ list i
  filled {i} {list₀} p =
      record {
        within = omega (arith, p.within, entries_count f body);
        is = p.is ∙ ap (λ l. l ++ drop i list₀) (take-map f i (trees (nodes_in body)));
      }

  -- it has, where list₀ had i elements or more
  pub kept : {i : ℕ} {list₀ list : List A} → Filled list₀ list i → i ≤ length list₀ → Kept list₀ list i
  kept {i} {list₀} p h =
      record {
        within = omega (arith, p.within, entries_count f body);
        same = omega (arith, ap length p.is, length-append (front i) (drop i list₀), stored i p.within, length-drop i list₀);
        is = p.is ∙ ap (λ l. l ++ drop i list₀) (sym (take-map f i (trees (nodes_in body))));
      }

  -- node i is the next
  module _ {n i : ℕ} {list₀ list : List A} (p : Filled list₀ list i) (s : Fillable n body (length list₀)) (h : i < length body / 6) where
    long : Kept list₀ list i
    long = kept p (omega (arith, s.fits))

    -- it is in order behind what is stored
    pub next_listed : Listed f n (take i list) (node_at body i)
    next_listed =
        record {
          trees = take i (trees (nodes_in body));
          listed = filled_front long ∙ take-map f i (trees (nodes_in body));
          ordered = next_ok body i h list s long.same;
        }

    -- its item is stored
    pub filled_next : {item : A} → ItemOf f (take i list) (node_at body i) item → Filled list₀ (set list i item) (i + 1)
    filled_next next = filled (entry_stored f body long s h (λ ts e. ap (λ a. a ∷ []) (next ts (e ∙ flat_single f ts))))

  -- every item is stored, where list₀ had fewer elements too: behind the first i the list has those of list₀, so it may stand in the place of list₀
  pub filled_all : {i : ℕ} {list₀ list : List A} → Filled list₀ list i → length body / 6 ≤ i → list ≡ map f (trees (nodes_in body)) ++ drop (length body / 6) list₀
  filled_all {i} {list₀} {list} p h =
      let e : i ≡ length body / 6 = omega (arith, p.within) in
      let behind : drop i list ≡ drop i list₀ = ap (drop i) p.is ∙ drop_at (front i) (drop i list₀) i (stored i p.within) in
      let own : Filled list list i = record { within = p.within; is = p.is ∙ ap (λ l. front i ++ l) (sym behind) } in
      let enough : i ≤ length list = omega (arith, ap length p.is, length-append (front i) (drop i list₀), stored i p.within) in
      entries_stored f body (kept own enough) h ∙ ap (λ l. map f (trees (nodes_in body)) ++ l) (rw (← e) behind)

  -- the same where the list has the length that it had
  module _ {n i : ℕ} {list₀ list : List A} (p : Kept list₀ list i) (s : Fillable n body (length list₀)) (h : i < length body / 6) where
    pub kept_listed : Listed f n (take i list) (node_at body i)
    kept_listed = next_listed (filled p) s h

    pub kept_next : {item : A} → ItemOf f (take i list) (node_at body i) item → Kept list₀ (set list i item) (i + 1)
    kept_next next = kept (filled_next (filled p) s h next) (omega (arith, s.fits))

  pub kept_all : {i : ℕ} {list₀ list : List A} → Kept list₀ list i → length body / 6 ≤ i → list ≡ map f (trees (nodes_in body)) ++ drop (length body / 6) list₀
  kept_all p h = filled_all (filled p) h
