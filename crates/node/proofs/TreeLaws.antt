-- Laws of trees: a node's tree is made of its operands' trees, and its inputs are below n. Assumes nothing.
use Prim.Native.Nat.{ℕ, zero, suc, ◌+◌, ◌/◌, ◌<◌, suc-le-suc}
use native.Mathlib.Omega.{arith}
use native.Mathlib.Nat.{not-suc-le-zero, le_of_suc-le-suc, zero-add, add-zero, suc-add, add-suc, zero-lt-suc}
use mathlib.Core.Path.{◌≡◌, refl, sym, ap, ap₂, ◌∙◌}
use mathlib.Core.List.{List, [], ◌∷◌, ◌++◌}
use lib.ListN.{length, get_or, take, length-append, get_or-append}
use lib.Seq.{get_or-append_seam, length-take-le}
use Rattle.wire.proofs.ListLaws.{tabulate_length, tabulate_at}
use Rattle.node.specs.declared.nodes.Node.{Node}
use Rattle.node.specs.declared.nodes.Node.TheVariants.{Zero, One, Input, Not, Xor, And}
use Rattle.node.specs.Exprs.{Expr, ZERO, NOT, XOR, AND, InputsBelow, EachBelow}
use Rattle.node.specs.Nodes.{node_at, nodes_in, NodeOk, TableOk}
use Rattle.node.specs.Trees.{tree_of, trees_from, trees}
use Rattle.node.specs.Steps.{Fillable}

-- a tree already made stays
from_before : (ts : List Expr) (ns : List Node) (i : ℕ) → i < length ts → get_or (trees_from ts ns) i ZERO ≡ get_or ts i ZERO
unfolding trees_from
from_before ts [] i h = refl
from_before ts (n ∷ ns) i h =
    from_before (ts ++ (tree_of ts n ∷ [])) ns i (rw (length-append ts (tree_of ts n ∷ [])) (omega arith))
    ∙ get_or-append ts (tree_of ts n ∷ []) ZERO i h

from_length : (ts : List Expr) (ns : List Node) → length (trees_from ts ns) ≡ length ts + length ns
unfolding trees_from
from_length ts [] = sym (add-zero (length ts))
from_length ts (n ∷ ns) = omega (arith, from_length (ts ++ (tree_of ts n ∷ [])) ns, length-append ts (tree_of ts n ∷ []))

pub length_trees : (ns : List Node) → length (trees ns) ≡ length ns
unfolding trees
length_trees ns = from_length [] ns ∙ zero-add (length ns)

-- a node's tree depends on the trees below it alone
pub tree_same : (m i : ℕ) (n : Node) (ts us : List Expr) → NodeOk m i n → ((k : ℕ) → k < i → get_or ts k ZERO ≡ get_or us k ZERO) → tree_of ts n ≡ tree_of us n
unfolding tree_of
tree_same m i Zero ts us w h = refl
tree_same m i One ts us w h = refl
tree_same m i (Input j) ts us w h = refl
tree_same m i (Not a) ts us w h = ap NOT (h a w)
tree_same m i (Xor a b) ts us w h = ap₂ XOR (h a w.0) (h b w.1)
tree_same m i (And k a b) ts us w h = ap₂ (AND k) (h a w.0) (h b w.1)

from_at : (m : ℕ) (ts : List Expr) (ns : List Node) (k : ℕ) → k < length ns → NodeOk m (length ts + k) (get_or ns k Zero)
    → get_or (trees_from ts ns) (length ts + k) ZERO ≡ tree_of (trees_from ts ns) (get_or ns k Zero)
unfolding trees_from
from_at m ts [] k h w = absurd (not-suc-le-zero h)
from_at m ts (n ∷ ns) zero h w =
    let t : Expr = tree_of ts n in
    let us : List Expr = ts ++ (t ∷ []) in
    let l : length us ≡ length ts + 1 = length-append ts (t ∷ []) in
    let w' : NodeOk m (length ts) n = rw (add-zero (length ts)) at w in
    rw (add-zero (length ts))
    (from_before us ns (length ts) (omega arith)
    ∙ get_or-append_seam ts t [] ZERO
    ∙ tree_same m (length ts) n ts (trees_from us ns) w'
    (λ k p. sym (from_before us ns k (omega arith) ∙ get_or-append ts (t ∷ []) ZERO k p)))
from_at m ts (n ∷ ns) (suc k) h w =
    let us : List Expr = ts ++ (tree_of ts n ∷ []) in
    let e : length us + k ≡ length ts + suc k = omega (arith, length-append ts (tree_of ts n ∷ [])) in
    rw (← e) (from_at m us ns k (le_of_suc-le-suc h) (rw e w))

-- the tree at each index: made of the trees at its operands
pub trees_at : (n : ℕ) (ns : List Node) → TableOk n ns → (i : ℕ) → i < length ns → get_or (trees ns) i ZERO ≡ tree_of (trees ns) (get_or ns i Zero)
unfolding trees
trees_at n ns w i h =
    ap (λ (k : ℕ). get_or (trees_from [] ns) k ZERO) (sym (zero-add i))
    ∙ from_at n [] ns i h (rw (zero-add i) (w i h))

each_at : (n : ℕ) (ts : List Expr) → EachBelow n ts → (k : ℕ) → InputsBelow n (get_or ts k ZERO)
each_at n [] h k = tt
each_at n (t ∷ ts) h zero = h.0
each_at n (t ∷ ts) h (suc k) = each_at n ts h.1 k

each_snoc : (n : ℕ) (ts : List Expr) (t : Expr) → EachBelow n ts → InputsBelow n t → EachBelow n (ts ++ (t ∷ []))
each_snoc n [] t h w = (w, tt)
each_snoc n (u ∷ ts) t h w = (h.0, each_snoc n ts t h.1 w)

tree_below : (n i : ℕ) (o : Node) (ts : List Expr) → NodeOk n i o → EachBelow n ts → InputsBelow n (tree_of ts o)
unfolding tree_of
tree_below n i Zero ts v h = tt
tree_below n i One ts v h = tt
tree_below n i (Input j) ts v h = v
tree_below n i (Not a) ts v h = each_at n ts h a
tree_below n i (Xor a b) ts v h = (each_at n ts h a, each_at n ts h b)
tree_below n i (And m a b) ts v h = (each_at n ts h a, each_at n ts h b)

from_below : (n d : ℕ) (ts : List Expr) (ns : List Node) → ((k : ℕ) → k < length ns → NodeOk n (d + k) (get_or ns k Zero)) → EachBelow n ts → EachBelow n (trees_from ts ns)
unfolding trees_from
from_below n d ts [] v h = h
from_below n d ts (o ∷ ns) v h =
    from_below n (suc d) (ts ++ (tree_of ts o ∷ [])) ns
    (λ k p. rw (suc-add d k) (rw (add-suc d k) at (v (suc k) (suc-le-suc p))))
    (each_snoc n ts (tree_of ts o) h (tree_below n (d + 0) o ts (v zero (zero-lt-suc (length ns))) h))

-- in a table in order the inputs of every tree are below n
pub trees_below : (n : ℕ) (ns : List Node) → TableOk n ns → (i : ℕ) → InputsBelow n (get_or (trees ns) i ZERO)
unfolding trees
trees_below n ns w i = each_at n (trees_from [] ns) (from_below n 0 [] ns (λ k p. rw (zero-add k) (w k p)) tt) i

-- a node body has a node for every six bytes
pub nodes_count : (body : List ℕ) → length (nodes_in body) ≡ length body / 6
nodes_count body = tabulate_length (node_at body) (length body / 6)

pub trees_count : (body : List ℕ) → length (trees (nodes_in body)) ≡ length body / 6
trees_count body = length_trees (nodes_in body) ∙ nodes_count body

-- node i of a node body
module _ (body : List ℕ) (i : ℕ) (h : i < length body / 6) where
  pub node_in : get_or (nodes_in body) i Zero ≡ node_at body i
  node_in = tabulate_at (node_at body) (length body / 6) i Zero h

  pub node_inside : i < length (nodes_in body)
  node_inside = omega (arith, nodes_count body)

  -- it is in order behind a list with an entry for each node before it
  pub next_ok : {A : Type 0} {n entries : ℕ} (list : List A) → Fillable n body entries → length list ≡ entries → NodeOk n (length (take i list)) (node_at body i)
  next_ok list f e =
      let l : length (take i list) ≡ i = length-take-le i list (omega (arith, f.fits)) in
      rw (l, ← node_in) (f.ordered i node_inside)
