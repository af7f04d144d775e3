-- A program file of one output, around its node body.
use Rattle.std.specs.Prelude.{ℕ, ◌+◌, ◌*◌, ◌-◌, ◌/◌, ◌≤◌, List, [], ◌∷◌, ◌++◌, length}
use Rattle.wire.specs.Limits.{most_inputs, most_nodes}
use Rattle.wire.specs.Bytes.{bytes16}
use Rattle.contents.specs.Contents.{table_length, contents_bytes}
use Rattle.program.specs.Format.{tags}

-- the bytes of a program file over n inputs with this node body, whose one output is the last node
unfoldable pub body_file : ℕ → List ℕ → List ℕ
body_file n body = contents_bytes tags (4 ∷ length body ∷ 2 ∷ []) ++ ((bytes16 n ++ bytes16 1) ++ (body ++ bytes16 (length body / 6 - 1)))

-- how many bytes it has with a node body of so many
abbrev pub body_file_length : ℕ → ℕ
body_file_length long = table_length 3 + 4 + long + 2

-- n is no more than a file may have, and a node body has a node and no more than that either
pub record FewNodes (n long : ℕ) : Type 0 where
  pub inputs : n ≤ most_inputs
  pub some : 6 ≤ long
  pub most : long ≤ 6 * most_nodes
