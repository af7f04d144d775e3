-- The bytes of nodes in a program file.
use Rattle.std.specs.Prelude.{ℕ, cond}
use mathlib.Core.List.{List, ◌∷◌, ◌++◌, flat_map}
use Rattle.wire.specs.Bytes.{bytes16}
use Rattle.node.specs.declared.nodes.Node.{Node}
use Rattle.node.specs.declared.nodes.Node.TheVariants.{Zero, One, Input, Not, Xor, And}

-- kind, mark, first and second field
abbrev pub node_fields : ℕ → ℕ → ℕ → ℕ → List ℕ
node_fields kind mark a b = kind ∷ mark ∷ (bytes16 a ++ bytes16 b)

-- the bytes of a node: its kind, its mark (02, A7), which is 1 on a marked AND and else 0, and the number of its input or the indices of its operands; a field that it does not use is written as 0
unfoldable pub node_bytes : Node → List ℕ
node_bytes Zero = node_fields 0 0 0 0
node_bytes One = node_fields 1 0 0 0
node_bytes (Input j) = node_fields 2 0 j 0
node_bytes (Not a) = node_fields 3 0 a 0
node_bytes (Xor a b) = node_fields 4 0 a b
node_bytes (And m a b) = node_fields 5 (cond m 1 0) a b

-- the bytes of nodes, one behind the other
abbrev pub nodes_bytes : List Node → List ℕ
nodes_bytes ns = flat_map node_bytes ns
