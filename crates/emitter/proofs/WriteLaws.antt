-- Laws of nodes stored one behind the other. Assumes nothing.
use Prim.Native.Nat.{ℕ, ◌+◌, ◌*◌}
use native.Mathlib.Omega.{arith}
use mathlib.Core.Path.{◌≡◌, refl, sym, ap, ◌∙◌}
use mathlib.Core.Bool.{false}
use mathlib.Core.List.{List, [], ◌∷◌, ◌++◌, flat_map}
use lib.ListN.{length, set}
use lib.Seq.{sets}
use Rattle.wire.specs.Bytes.{bytes16}
use Rattle.wire.proofs.ByteLaws.{fields_stored}
use Rattle.wire.proofs.ListLaws.{sets_then, flat_append}
use Rattle.node.specs.declared.nodes.Node.{Node}
use Rattle.node.specs.declared.nodes.Node.TheVariants.{Not, Xor, And}
use Rattle.node.specs.NodeBytes.{node_fields, node_bytes, nodes_bytes}
use Rattle.node.proofs.WrittenLaws.{nodes_length}
use Rattle.emitter.specs.Emitting.{put_fields, put_nodes}

module _ (body : List ℕ) (i : ℕ) where
  -- the stores of a node's fields, one after the other, are one run
  pub fields_put : (kind a b : ℕ) {l₁ l₂ : List ℕ}
      → l₁ ≡ sets (set (set body (6 * i) kind) (6 * i + 1) 0) (6 * i + 2) (bytes16 a)
      → l₂ ≡ sets l₁ (6 * i + 4) (bytes16 b)
      → l₂ ≡ put_fields body i kind a b
  unfolding put_fields
  fields_put kind a b e₁ e₂ = fields_stored body (6 * i) kind 0 a b e₁ e₂

  -- and the node of these fields
  pub put_as : (ns : List Node) (kind a b : ℕ) → nodes_bytes ns ≡ node_fields kind 0 a b → put_fields body i kind a b ≡ put_nodes body i ns
  unfolding put_fields put_nodes
  put_as ns kind a b e = ap (sets body (6 * i)) (sym e)

  pub put_not : (a : ℕ) → put_fields body i 3 a 0 ≡ put_nodes body i (Not a ∷ [])
  unfolding node_bytes flat_map
  put_not a = put_as (Not a ∷ []) 3 a 0 refl

  pub put_xor : (a b : ℕ) → put_fields body i 4 a b ≡ put_nodes body i (Xor a b ∷ [])
  unfolding node_bytes flat_map
  put_xor a b = put_as (Xor a b ∷ []) 4 a b refl

  pub put_and : (a b : ℕ) → put_fields body i 5 a b ≡ put_nodes body i (And false a b ∷ [])
  unfolding node_bytes flat_map
  put_and a b = put_as (And false a b ∷ []) 5 a b refl

-- nodes behind nodes
put_append : (a b : List Node) (body : List ℕ) (i m : ℕ) → m ≡ i + length a → put_nodes (put_nodes body i a) m b ≡ put_nodes body i (a ++ b)
unfolding put_nodes
put_append a b body i m e =
    sets_then body (6 * i) (6 * m) (nodes_bytes a) (nodes_bytes b) (omega (arith, nodes_length a))
    ∙ ap (sets body (6 * i)) (sym (flat_append node_bytes a b))

-- one node behind some
pub put_then : (a : List Node) (node : Node) (body : List ℕ) (i m : ℕ) {old new : List ℕ} → m ≡ i + length a → old ≡ put_nodes body i a → new ≡ put_nodes old m (node ∷ [])
    → new ≡ put_nodes body i (a ++ (node ∷ []))
put_then a node body i m e p q = q ∙ ap (λ (l : List ℕ). put_nodes l m (node ∷ [])) p ∙ put_append a (node ∷ []) body i m e

-- one node behind two runs
pub put_both : (a b : List Node) (node : Node) (body : List ℕ) (i m k : ℕ) {one two new : List ℕ} → m ≡ i + length a → k ≡ m + length b
    → one ≡ put_nodes body i a → two ≡ put_nodes one m b → new ≡ put_nodes two k (node ∷ []) → new ≡ put_nodes body i (a ++ (b ++ (node ∷ [])))
put_both a b node body i m k e₁ e₂ p q r =
    put_then b node (put_nodes body i a) m k e₂ (q ∙ ap (λ (l : List ℕ). put_nodes l m b) p) r ∙ put_append a (b ++ (node ∷ [])) body i m e₁
