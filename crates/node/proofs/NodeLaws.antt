-- Laws of reading nodes. Assumes nothing.
use Prim.Native.Nat.{ℕ, ◌+◌, ◌*◌, ◌<◌}
use native.Mathlib.Omega.{arith}
use mathlib.Core.Path.{◌≡◌, refl, sym, ap, subst, ◌∙◌}
use mathlib.Core.Bool.{Bool, true, false, ◌&&◌, false≢true}
use mathlib.Core.List.{List}
use lib.ListN.{get_or}
use lib.Dec.{eqb, leb, ltb}
use borrow.Author.Tests.{ne_eqb, le-leb, lt-leb, ltb-true, eqb-true, eqb-false}
use Rattle.std.specs.Prelude.{Result, Ok, Err}
use Rattle.refusal.specs.Answers.{Answer, answer_of, result, refuse, number_of, place_of}
use Rattle.refusal.specs.declared.causes.Refusal.{Refusal}
use Rattle.wire.specs.Bytes.{at16}
use Rattle.refusal.specs.declared.causes.Refusal.TheVariants as cause
use Rattle.refusal.proofs.AnswerLaws.{checked, failed, same_refusal}
use Rattle.refusal.proofs.CheckLaws.{by_test, both_first, both_second}
use Rattle.node.specs.declared.fields.Fields.{Fields}
use Rattle.node.specs.declared.nodes.Node.{Node}
use Rattle.node.specs.declared.nodes.Node.TheVariants.{Input, Not, Xor, And}
use Rattle.node.specs.Nodes.{node_of, mark_fits, operands_fit, node_at, node_fits, NodeOk}
use Rattle.node.specs.Steps.{fields_at, read_node}

module _ (n : ℕ) (body : List ℕ) (i : ℕ) {r : Result Node Refusal} (e : answer_of r ≡ read_node n body i) where
  -- a node that was read is in order
  pub read_good : {x : Node} → r ≡ Ok x → node_fits n body i ≡ true
  unfolding read_node
  read_good {x} g = checked x (node_fits n body i) (cause.Node i) (result (node_at body i)) (sym e ∙ ap answer_of g)

  -- a node that was refused is not, and it is refused with its index
  module _ {why : Refusal} (g : r ≡ Err why) where
    pub read_bad : node_fits n body i ≡ false
    unfolding read_node
    read_bad = failed (node_at body i) (node_fits n body i) (cause.Node i) (number_of why) (place_of why) (sym e ∙ ap answer_of g)

    pub read_why : ◌≡◌ {A = Answer (Unit {0})} (refuse why) (refuse (cause.Node i))
    unfolding read_node
    read_why = same_refusal why (cause.Node i) (let said : read_node n body i ≡ refuse why = sym e ∙ ap answer_of g in simp read_bad at said)

-- the fields of node i
module _ (body : List ℕ) (i : ℕ) {s : Fields} (is : s ≡ fields_at body i) where
  -- are tested as the node is
  pub fields_test : (n : ℕ) {b : Bool} → b ≡ (mark_fits s.kind s.mark && operands_fit n i s.kind s.a s.b) → node_fits n body i ≡ b
  unfolding node_fits
  fields_test n e = sym (e ∙ ap (λ (t : Fields). mark_fits t.kind t.mark && operands_fit n i t.kind t.a t.b) is)

  -- and make it
  pub fields_node : {node : Node} → node ≡ node_of s.kind s.mark s.a s.b → node ≡ node_at body i
  unfolding node_at
  fields_node e = e ∙ ap (λ (t : Fields). node_of t.kind t.mark t.a t.b) is

-- the test of a mark: 0 is right for every node, and any other only as 1 on an AND
module _ (kind mark : ℕ) where
  pub no_mark_fits : mark ≡ 0 → true ≡ mark_fits kind mark
  unfolding mark_fits
  no_mark_fits e = rw e (by_test (eqb kind 5) (λ k. rw k refl) (λ k. rw k refl))

  pub some_mark_fits : (mark ≡ 0 → ⊥) → (eqb kind 5 && eqb mark 1) ≡ mark_fits kind mark
  unfolding mark_fits
  some_mark_fits e =
      by_test (eqb kind 5)
      (λ k. by_test (eqb mark 1)
      (λ m. rw (k, m, le-leb mark 1 (omega (arith, eqb-true mark 1 m))) refl)
      (λ m. rw (k, m, lt-leb mark 1 (omega (arith, eqb-false mark 1 m, e))) refl))
      (λ k. rw (k, ne_eqb mark 0 e) refl)

-- the operands of a node in order are lower, and its input is below n
module _ (n i kind mark a b : ℕ) where
  above_one : eqb kind 0 ≡ false → eqb kind 1 ≡ false → leb kind 1 ≡ false
  above_one z o = lt-leb kind 1 (omega (arith, eqb-false kind 0 z, eqb-false kind 1 o))

  operands_ok : operands_fit n i kind a b ≡ true → NodeOk n i (node_of kind mark a b)
  unfolding operands_fit
  operands_ok e =
      by_test (eqb kind 0) (λ k. rw k tt)
      (λ k0. by_test (eqb kind 1) (λ k. rw (k0, k) tt)
      (λ k1. let up : leb kind 1 ≡ false = above_one k0 k1 in by_test (eqb kind 2)
      (λ k. let t : (ltb a n && eqb b 0) ≡ true = simp (up, k) at e in rw (k0, k1, k) (ltb-true a n (both_first (ltb a n) (eqb b 0) t)))
      (λ k2. by_test (eqb kind 3)
      (λ k. let t : (ltb a i && eqb b 0) ≡ true = simp (up, k2, k) at e in rw (k0, k1, k2, k) (ltb-true a i (both_first (ltb a i) (eqb b 0) t)))
      (λ k3. by_test (leb kind 5)
      (λ k.
      let t : (ltb a i && ltb b i) ≡ true = simp (up, k2, k3, k) at e in
      let p : (a < i) × (b < i) = (ltb-true a i (both_first (ltb a i) (ltb b i) t), ltb-true b i (both_second (ltb a i) (ltb b i) t)) in
      by_test (eqb kind 4) (λ k4. rw (k0, k1, k2, k3, k4) p) (λ k4. rw (k0, k1, k2, k3, k4) p))
      (λ k. absurd (false≢true (simp (up, k2, k3, k) at e)))))))

-- a node that passes the test of cause 5 is in order
pub node_ok : (n : ℕ) (body : List ℕ) (i : ℕ) → node_fits n body i ≡ true → NodeOk n i (node_at body i)
unfolding node_fits node_at
node_ok n body i e =
    let kind : ℕ = get_or body (6 * i) 0 in
    let mark : ℕ = get_or body (6 * i + 1) 0 in
    let a : ℕ = at16 body (6 * i + 2) in
    let b : ℕ = at16 body (6 * i + 4) in
    operands_ok n i kind mark a b (both_second (mark_fits kind mark) (operands_fit n i kind a b) e)

-- a node in order has an input that is there, and operands that are lower
module _ (n i : ℕ) {node : Node} (ok : NodeOk n i node) where
  pub input_below : {j : ℕ} → node ≡ Input j → j < n
  input_below e = subst (NodeOk n i) e ok

  pub not_operand : {a : ℕ} → node ≡ Not a → a < i
  not_operand e = subst (NodeOk n i) e ok

  pub xor_operands : {a b : ℕ} → node ≡ Xor a b → (a < i) × (b < i)
  xor_operands e = subst (NodeOk n i) e ok

  pub and_operands : {m : Bool} {a b : ℕ} → node ≡ And m a b → (a < i) × (b < i)
  and_operands e = subst (NodeOk n i) e ok
