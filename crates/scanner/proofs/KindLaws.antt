-- The kind of a leaf that was read, a byte, is the number of a kind: who reads a leaf may take it for one. Assumes nothing.
use Prim.Native.Nat.{ℕ}
use mathlib.Core.Path.{◌≡◌}
use mathlib.Core.List.{List, [], ◌∷◌, ◌++◌, flat_map}
use Rattle.node.specs.declared.nodes.Node.{Node}
use Rattle.node.specs.declared.nodes.Node.TheVariants.{Zero, One, Input, Not, Xor, And}
use Rattle.node.specs.declared.kinds.Kind.{Kind}
use Rattle.node.specs.declared.kinds.Kind.TheVariants as kind
use Rattle.node.specs.Kinds.{kind_number}
use Rattle.node.specs.NodeBytes.{node_fields, node_bytes, nodes_bytes}
use Rattle.grammar.specs.FormulaNodes.{factor_nodes}
use Rattle.automaton.specs.States.{AroundFactor, State}
use Rattle.scanner.specs.Scanning.{LeafEnd}

-- a node's bytes begin with its kind
kind_first : (x : Node) (rest : List ℕ) (a : ℕ) {k : ℕ} → node_bytes x ++ rest ≡ node_fields k 0 a 0 → (c : Kind) × (kind_number c ≡ k)
unfolding node_bytes
kind_first Zero rest a e = (kind.Zero, cc)
kind_first One rest a e = (kind.One, cc)
kind_first (Input j) rest a e = (kind.Input, cc)
kind_first (Not i) rest a e = (kind.Not, cc)
kind_first (Xor i j) rest a e = (kind.Xor, cc)
kind_first (And m i j) rest a e = (kind.And, cc)

-- so nodes whose bytes have the shape of one node's begin with a kind's number
kind_in : (xs : List Node) (a : ℕ) {k : ℕ} → nodes_bytes xs ≡ node_fields k 0 a 0 → (c : Kind) × (kind_number c ≡ k)
unfolding flat_map
kind_in [] a e = absurd cc
kind_in (x ∷ xs) a e = kind_first x (flat_map node_bytes xs) a e

-- a leaf's kind is a kind's number
pub leaf_kind : {n : ℕ} {text : List ℕ} {from : AroundFactor → State} {at k a e : ℕ} → LeafEnd n text from at k a e → (c : Kind) × (kind_number c ≡ k)
leaf_kind {a = a} g = kind_in (factor_nodes g.tree 0) a (g.stored 0)
