-- Laws of values: a node's value is made of its operands' values. Assumes nothing.
use Prim.Native.Nat.{ℕ, ◌*◌, ◌<◌}
use native.Mathlib.Omega.{arith}
use mathlib.Core.Path.{◌≡◌, refl, ap, ap₂, ◌∙◌}
use mathlib.Core.Bool.{Bool}
use mathlib.Core.List.{List, [], ◌∷◌, flat_map}
use lib.ListN.{length, get_or, get_or-map}
use Rattle.wire.specs.Bits.{xor_bit, bit, Bits}
use Rattle.wire.proofs.BitLaws.{xor_bit_lem, and_bit, bit_below}
use Rattle.wire.proofs.ListLaws.{flat_single}
use Rattle.node.specs.declared.nodes.Node.{Node}
use Rattle.node.specs.declared.nodes.Node.TheVariants.{Zero, One, Input, Not, Xor, And}
use Rattle.node.specs.Exprs.{Expr, ZERO, ONE, INPUT, NOT, XOR, AND, value}
use Rattle.node.specs.Steps.{NextOf}
use Rattle.node.specs.Trees.{node_values, tree_of, trees}
use Rattle.node.proofs.FilledLaws.{entries_length}

-- a value is a bit
pub value_bit : (e : Expr) (x : List ℕ) → Bits x → value e x < 2
unfolding value
value_bit ZERO x h = omega arith
value_bit ONE x h = omega arith
value_bit (INPUT j) x h = bit_below x h j
value_bit (NOT a) x h = xor_bit_lem 1 (value a x)
value_bit (XOR a b) x h = xor_bit_lem (value a x) (value b x)
value_bit (AND m a b) x h = and_bit (value a x) (value b x) (value_bit a x h) (value_bit b x h)

-- there is a value for each node, and it is its tree's
pub values_length : (ns : List Node) (x : List ℕ) → length (node_values ns x) ≡ length ns
unfolding node_values
values_length ns x = entries_length (λ e. value e x) ns

pub values_at : (ns : List Node) (x : List ℕ) (i : ℕ) → get_or (node_values ns x) i 0 ≡ value (get_or (trees ns) i ZERO) x
unfolding node_values value
values_at ns x i = get_or-map (λ e. value e x) (trees ns) i ZERO

pub values_bits : (ns : List Node) (x : List ℕ) → Bits x → Bits (node_values ns x)
values_bits ns x h i l = rw (values_at ns x i) (value_bit (get_or (trees ns) i ZERO) x h)

-- what a node adds to a list of values, by its kind: where the list has the values of trees, its value is made of its operands' entries
module _ (x : List ℕ) where
  abbrev pub NextValue : Node → List ℕ → ℕ → Type 0
  NextValue node list r = NextOf (λ e. value e x ∷ []) node list (r ∷ [])

  pub next_zero : (vs : List ℕ) → NextValue Zero vs 0
  unfolding tree_of value
  next_zero vs ts e = refl

  pub next_one : (vs : List ℕ) → NextValue One vs 1
  unfolding tree_of value
  next_one vs ts e = refl

  pub next_input : (vs : List ℕ) (j : ℕ) → NextValue (Input j) vs (bit x j)
  unfolding tree_of value
  next_input vs j ts e = refl

  module _ {vs : List ℕ} (ts : List Expr) (e : vs ≡ flat_map (λ e. value e x ∷ []) ts) where
    entry : (a : ℕ) → bit vs a ≡ value (get_or ts a ZERO) x
    unfolding value
    entry a = ap (λ (l : List ℕ). bit l a) (e ∙ flat_single (λ t. value t x) ts) ∙ get_or-map (λ t. value t x) ts a ZERO

  pub next_not : {vs : List ℕ} (a : ℕ) {r : ℕ} → r ≡ xor_bit 1 (bit vs a) → NextValue (Not a) vs r
  unfolding tree_of value
  next_not a p ts e = ap (λ (v : ℕ). v ∷ []) (p ∙ ap (xor_bit 1) (entry ts e a))

  pub next_xor : {vs : List ℕ} (a b : ℕ) {r : ℕ} → r ≡ xor_bit (bit vs a) (bit vs b) → NextValue (Xor a b) vs r
  unfolding tree_of value
  next_xor a b p ts e = ap (λ (v : ℕ). v ∷ []) (p ∙ ap₂ xor_bit (entry ts e a) (entry ts e b))

  pub next_and : {vs : List ℕ} (m : Bool) (a b : ℕ) {r : ℕ} → r ≡ bit vs a * bit vs b → NextValue (And m a b) vs r
  unfolding tree_of value
  next_and m a b p ts e = ap (λ (v : ℕ). v ∷ []) (p ∙ ap₂ (λ (v w : ℕ). v * w) (entry ts e a) (entry ts e b))
