-- Laws of written nodes: they read back, and bytes whose nodes are in order are the writing of those nodes. Assumes nothing.
use Prim.Native.Nat.{ℕ, ◌+◌, ◌*◌, ◌<◌, ◌≤◌}
use native.Mathlib.Omega.{arith}
use native.Mathlib.Nat.{add-zero}
use mathlib.Core.Path.{◌≡◌, refl, sym, ap, ap₂, ◌∙◌}
use mathlib.Core.Bool.{Bool, true, false, cond, ◌&&◌, false≢true}
use mathlib.Core.List.{List, ◌++◌}
use lib.ListN.{length, get_or, drop}
use lib.Seq.{ext_get_or, get_or-drop}
use lib.Dec.{eqb, ltb}
use borrow.Author.Tests.{eqb-true, eqb-false, leb-true, lt-leb, lt-ltb}
use Rattle.wire.specs.Bytes.{at16, Bytes}
use Rattle.wire.specs.Lists.{tabulate}
use Rattle.wire.proofs.ByteLaws.{number16, drop_fields}
use Rattle.wire.proofs.ListLaws.{tabulate_length, tabulate_at, flat_length, flat_drop, flat_only}
use Rattle.refusal.proofs.CheckLaws.{both_first, both_second, by_test}
use Rattle.node.specs.declared.nodes.Node.{Node}
use Rattle.node.specs.declared.nodes.Node.TheVariants.{Zero, One, Input, Not, Xor, And}
use Rattle.node.specs.Nodes.{node_of, mark_fits, operands_fit, node_at, node_fits, NodeOk, TableOk}
use Rattle.node.specs.NodeBytes.{node_fields, node_bytes, nodes_bytes}

-- a node takes six bytes
node_length : (node : Node) → length (node_bytes node) ≡ 6
unfolding node_bytes
node_length Zero = refl
node_length One = refl
node_length (Input j) = refl
node_length (Not a) = refl
node_length (Xor a b) = refl
node_length (And m a b) = refl

pub nodes_length : (ns : List Node) → length (nodes_bytes ns) ≡ 6 * length ns
nodes_length ns = flat_length 6 node_bytes node_length ns

-- the node whose six bytes s opens with, and whether they are in order as node i over n inputs
abbrev node_in_lem : List ℕ → Node
node_in_lem s = node_of (get_or s 0 0) (get_or s 1 0) (at16 s 2) (at16 s 4)

abbrev fits_in_lem : ℕ → ℕ → List ℕ → Bool
fits_in_lem n i s = mark_fits (get_or s 0 0) (get_or s 1 0) && operands_fit n i (get_or s 0 0) (at16 s 2) (at16 s 4)

-- node i of a body is that with which the body from its first byte on opens
module _ (body : List ℕ) (i : ℕ) where
  from : (j : ℕ) → get_or body (6 * i + j) 0 ≡ get_or (drop (6 * i) body) j 0
  from j = sym (get_or-drop (6 * i) body j 0)

  first : get_or body (6 * i) 0 ≡ get_or (drop (6 * i) body) 0 0
  first = ap (λ (k : ℕ). get_or body k 0) (sym (add-zero (6 * i))) ∙ from 0

  at_in : node_at body i ≡ node_in_lem (drop (6 * i) body)
  unfolding node_at
  at_in =
      let three : 6 * i + 2 + 1 ≡ 6 * i + 3 = omega arith in
      let five : 6 * i + 4 + 1 ≡ 6 * i + 5 = omega arith in
      rw (three, five, first, from 1, from 2, from 3, from 4, from 5) refl

  fits_in : (n : ℕ) → node_fits n body i ≡ fits_in_lem n i (drop (6 * i) body)
  unfolding node_fits
  fits_in n =
      let three : 6 * i + 2 + 1 ≡ 6 * i + 3 = omega arith in
      let five : 6 * i + 4 + 1 ≡ 6 * i + 5 = omega arith in
      rw (three, five, first, from 1, from 2, from 3, from 4, from 5) refl

-- over at most 65,536 inputs, the fields of node i, i at most 65,536, hold its numbers
module _ (n i : ℕ) (few : n ≤ 65536) (low : i ≤ 65536) where
  in_back : (node : Node) (rest : List ℕ) → NodeOk n i node → node_in_lem (node_bytes node ++ rest) ≡ node
  unfolding node_bytes
  in_back Zero rest ok = refl
  in_back One rest ok = refl
  in_back (Input j) rest ok = ap Input (number16 j (omega arith))
  in_back (Not a) rest ok = ap Not (number16 a (omega arith))
  in_back (Xor a b) rest ok = ap₂ Xor (number16 a (omega (arith, ok.0))) (number16 b (omega (arith, ok.1)))
  in_back (And true a b) rest ok = ap₂ (And true) (number16 a (omega (arith, ok.0))) (number16 b (omega (arith, ok.1)))
  in_back (And false a b) rest ok = ap₂ (And false) (number16 a (omega (arith, ok.0))) (number16 b (omega (arith, ok.1)))

  in_fits : (node : Node) (rest : List ℕ) → NodeOk n i node → fits_in_lem n i (node_bytes node ++ rest) ≡ true
  unfolding node_bytes mark_fits operands_fit
  in_fits Zero rest ok = refl
  in_fits One rest ok = refl
  in_fits (Input j) rest ok = rw (number16 j (omega arith), lt-ltb j n ok) refl
  in_fits (Not a) rest ok = rw (number16 a (omega arith), lt-ltb a i ok) refl
  in_fits (Xor a b) rest ok = rw (number16 a (omega (arith, ok.0)), number16 b (omega (arith, ok.1)), lt-ltb a i ok.0, lt-ltb b i ok.1) refl
  in_fits (And true a b) rest ok = rw (number16 a (omega (arith, ok.0)), number16 b (omega (arith, ok.1)), lt-ltb a i ok.0, lt-ltb b i ok.1) refl
  in_fits (And false a b) rest ok = rw (number16 a (omega (arith, ok.0)), number16 b (omega (arith, ok.1)), lt-ltb a i ok.0, lt-ltb b i ok.1) refl

-- the nodes of a table in order, written
module _ (n : ℕ) (ns : List Node) (few : n ≤ 65536) (short : length ns ≤ 65536) (ok : TableOk n ns) where
  behind : (i : ℕ) → i < length ns → drop (6 * i) (nodes_bytes ns) ≡ node_bytes (get_or ns i Zero) ++ drop (6 * i + 6) (nodes_bytes ns)
  behind i h = flat_drop 6 node_bytes node_length ns i Zero h

  at_each : (i : ℕ) → i < length ns → node_at (nodes_bytes ns) i ≡ get_or ns i Zero
  at_each i h = at_in (nodes_bytes ns) i ∙ ap node_in_lem (behind i h) ∙ in_back n i few (omega arith) (get_or ns i Zero) _ (ok i h)

  -- they are found in order
  pub nodes_fit : (i : ℕ) → i < length ns → node_fits n (nodes_bytes ns) i ≡ true
  nodes_fit i h = fits_in (nodes_bytes ns) i n ∙ ap (fits_in_lem n i) (behind i h) ∙ in_fits n i few (omega arith) (get_or ns i Zero) _ (ok i h)

  -- and read back
  pub nodes_back : tabulate (node_at (nodes_bytes ns)) (length ns) ≡ ns
  nodes_back =
      let make : ℕ → Node = node_at (nodes_bytes ns) in
      let k : length (tabulate make (length ns)) ≡ length ns = tabulate_length make (length ns) in
      ext_get_or Zero (tabulate make (length ns)) ns k (λ i h. tabulate_at make (length ns) i Zero (omega arith) ∙ at_each i (omega arith))

-- a mark that is right is 0 where its node is no AND
no_mark : (kind mark : ℕ) → eqb kind 5 ≡ false → mark_fits kind mark ≡ true → mark ≡ 0
unfolding mark_fits
no_mark kind mark k e = eqb-true mark 0 (rw k at e)

-- and on an AND it is the byte of what is read
own_mark : (mark : ℕ) → mark_fits 5 mark ≡ true → mark ≡ cond (eqb mark 1) 1 0
unfolding mark_fits
own_mark mark e =
    let low : mark ≤ 1 = leb-true mark 1 e in
    by_test (eqb mark 1) (λ k. rw k (eqb-true mark 1 k)) (λ k. rw k (omega (arith, low, eqb-false mark 1 k)))

-- a mark and fields that are right for their kind are the writing of their node
module _ (n i kind mark a b : ℕ) (m : mark_fits kind mark ≡ true) where
  unmarked : {k : ℕ} → kind ≡ k → eqb k 5 ≡ false → mark ≡ 0
  unmarked z e = no_mark kind mark (ap (λ (j : ℕ). eqb j 5) z ∙ e) m

  only_fields : operands_fit n i kind a b ≡ true → node_fields kind mark a b ≡ node_bytes (node_of kind mark a b)
  unfolding operands_fit node_bytes
  only_fields e =
      by_test (eqb kind 0)
      (λ k.
      let z : kind ≡ 0 = eqb-true kind 0 k in
      let t : (eqb a 0 && eqb b 0) ≡ true = rw z at e in
      rw (unmarked z refl, z, eqb-true a 0 (both_first (eqb a 0) (eqb b 0) t), eqb-true b 0 (both_second (eqb a 0) (eqb b 0) t)) refl)
      (λ k0. by_test (eqb kind 1)
      (λ k.
      let z : kind ≡ 1 = eqb-true kind 1 k in
      let t : (eqb a 0 && eqb b 0) ≡ true = rw z at e in
      rw (unmarked z refl, z, eqb-true a 0 (both_first (eqb a 0) (eqb b 0) t), eqb-true b 0 (both_second (eqb a 0) (eqb b 0) t)) refl)
      (λ k1. by_test (eqb kind 2)
      (λ k.
      let z : kind ≡ 2 = eqb-true kind 2 k in
      let t : (ltb a n && eqb b 0) ≡ true = rw z at e in
      rw (unmarked z refl, z, eqb-true b 0 (both_second (ltb a n) (eqb b 0) t)) refl)
      (λ k2. by_test (eqb kind 3)
      (λ k.
      let z : kind ≡ 3 = eqb-true kind 3 k in
      let t : (ltb a i && eqb b 0) ≡ true = rw z at e in
      rw (unmarked z refl, z, eqb-true b 0 (both_second (ltb a i) (eqb b 0) t)) refl)
      (λ k3. by_test (eqb kind 4)
      (λ k. let z : kind ≡ 4 = eqb-true kind 4 k in rw (unmarked z refl, z) refl)
      (λ k4. by_test (eqb kind 5)
      (λ k.
      let z : kind ≡ 5 = eqb-true kind 5 k in
      let own : mark ≡ cond (eqb mark 1) 1 0 = own_mark mark (rw z at m) in
      rw z (ap (λ (l : ℕ). node_fields 5 l a b) own))
      (λ k5.
      let large : 5 < kind = omega (arith, eqb-false kind 0 k0, eqb-false kind 1 k1, eqb-false kind 2 k2, eqb-false kind 3 k3, eqb-false kind 4 k4, eqb-false kind 5 k5) in
      absurd (false≢true (simp (lt-leb kind 1 (omega arith), k2, k3, lt-leb kind 5 large) at e))))))))

module _ (n : ℕ) (body : List ℕ) (bytes : Bytes body) where
  -- a node in order is the writing of what is read
  only_node : (i : ℕ) → 6 * i + 6 ≤ length body → node_fits n body i ≡ true → drop (6 * i) body ≡ node_bytes (node_at body i) ++ drop (6 * i + 6) body
  unfolding node_fits node_at
  only_node i h e =
      let kind : ℕ = get_or body (6 * i) 0 in
      let mark : ℕ = get_or body (6 * i + 1) 0 in
      let a : ℕ = at16 body (6 * i + 2) in
      let b : ℕ = at16 body (6 * i + 4) in
      let marked : mark_fits kind mark ≡ true = both_first (mark_fits kind mark) (operands_fit n i kind a b) e in
      let right : operands_fit n i kind a b ≡ true = both_second (mark_fits kind mark) (operands_fit n i kind a b) e in
      rw (drop_fields body bytes (6 * i) h) (ap (λ (s : List ℕ). s ++ drop (6 * i + 6) body) (only_fields n i kind mark a b marked right))

  -- bytes whose nodes are in order are the writing of those nodes
  pub nodes_only : (k : ℕ) → length body ≡ 6 * k → ((i : ℕ) → i < k → node_fits n body i ≡ true) → body ≡ nodes_bytes (tabulate (node_at body) k)
  nodes_only k sixes fit = flat_only 6 node_bytes node_length (node_at body) body k sixes (λ i h. only_node i (omega arith) (fit i h))
