-- What the steps of reading and filling ask of their callers, and what they answer: no service's definition is here.
use Rattle.std.specs.Prelude.{ℕ, ◌+◌, ◌*◌, ◌/◌, ◌≤◌, ◌≡◌, length, get_or}
use Rattle.wire.specs.Bytes.{at16}
use Rattle.node.specs.declared.fields.Fields.{Fields}
use mathlib.Core.List.{List, flat_map}
use Rattle.refusal.specs.Answers.{Answer, result, check}
use Rattle.refusal.specs.declared.causes.Refusal.TheVariants as cause
use Rattle.node.specs.declared.nodes.Node.{Node}
use Rattle.node.specs.Exprs.{Expr}
use Rattle.node.specs.Nodes.{node_at, nodes_in, node_fits, TableOk}
use Rattle.node.specs.Trees.{tree_of}

-- the fields of node i of a node body
abbrev pub fields_at : List ℕ → ℕ → Fields
fields_at body i = record { kind = get_or body (6 * i) 0; mark = get_or body (6 * i + 1) 0; a = at16 body (6 * i + 2); b = at16 body (6 * i + 4) }

-- what reading node i gives: the node, or cause 5 with its index
unfoldable pub read_node : ℕ → List ℕ → ℕ → Answer Node
read_node n body i = check (node_fits n body i) (cause.Node i) (result (node_at body i))

-- a node body in order over n inputs, with an entry of a lent list for each of its nodes
pub record Fillable (n : ℕ) (body : List ℕ) (entries : ℕ) : Type 0 where
  pub ordered : TableOk n (nodes_in body)
  pub fits : length body / 6 ≤ entries

-- the numbers of an entry are what f says of the node's tree, where the list has what it says of the trees before it, one entry behind the other
abbrev pub NextOf : (Expr → List ℕ) → Node → List ℕ → List ℕ → Type 0
NextOf f node list entry = (ts : List Expr) → list ≡ flat_map f ts → entry ≡ f (tree_of ts node)
