-- The bytes of a program file.
use Rattle.std.specs.Prelude.{ℕ, ◌*◌, length}
use mathlib.Core.List.{List, [], ◌∷◌, ◌++◌, flat_map}
use Rattle.wire.specs.Bytes.{bytes16}
use Rattle.contents.specs.Contents.{contents_bytes}
use Rattle.node.specs.NodeBytes.{nodes_bytes}
use Rattle.program.specs.Programs.{Program}

-- the tags of the three bodies: inputs and outputs, nodes, outputs' nodes
abbrev pub tags : List ℕ
tags = 1 ∷ 2 ∷ 3 ∷ []

-- how many bytes the bodies take: four, six a node and two an output
abbrev pub body_lengths : Program → List ℕ
body_lengths p = 4 ∷ 6 * length p.nodes ∷ 2 * length p.outputs ∷ []

-- the first body: the numbers of inputs and outputs
abbrev pub arity_bytes : Program → List ℕ
arity_bytes p = bytes16 p.inputs ++ bytes16 (length p.outputs)

-- the third body: the index of each output's node
abbrev pub outputs_bytes : List ℕ → List ℕ
outputs_bytes outputs = flat_map bytes16 outputs

-- the file of a program: the table of contents, and the bodies in the order of their tags
unfoldable pub program_file : Program → List ℕ
program_file p =
    contents_bytes tags (body_lengths p) ++ (arity_bytes p ++ (nodes_bytes p.nodes ++ outputs_bytes p.outputs))
