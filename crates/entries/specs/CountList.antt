-- The count list: eight numbers a node, the entry of node i from index 8 i on; for the steps of quoting only.
use Rattle.std.specs.Prelude.{ℕ, zero, suc, ◌+◌, ◌≡◌, Option, Some, None, length, get_or}
use mathlib.Core.List.{List, [], ◌∷◌, flat_map}
use Rattle.node.specs.declared.nodes.Node.{Node}
use Rattle.node.specs.Exprs.{Expr}
use Rattle.node.specs.Nodes.{NodeOk}
use Rattle.node.specs.Trees.{trees}
use Rattle.entry.specs.declared.Entry.{Entry}
use Rattle.entry.specs.Entries.{entry_of}

-- an input as one number: 1 more than its own, and 0 for none
unfoldable pub input_number : Option ℕ → ℕ
input_number None = 0
input_number (Some j) = 1 + j

-- the input that such a number says
unfoldable pub input_from : ℕ → Option ℕ
input_from zero = None
input_from (suc j) = Some j

-- the eight numbers of an entry (02, A1), in their order: the gates that build the node's tree and those of them that a share undoes, the same two of the Toffolis, the work lines that the tree still holds when it is built (02, A7), the most that it holds together, 1 more than the number of the input that it is or 0 for none (02, A5), and one that is 0, since no later node has to know more
unfoldable pub numbers_of : Entry → List ℕ
numbers_of e = e.gates.built ∷ e.gates.undone ∷ e.toffolis.built ∷ e.toffolis.undone ∷ e.held ∷ e.lines ∷ input_number e.input ∷ 0 ∷ []

-- the entry whose first number has index at
abbrev pub entry_from : List ℕ → ℕ → Entry
entry_from list at =
    record {
      gates = record { built = get_or list at 0; undone = get_or list (at + 1) 0 };
      toffolis = record { built = get_or list (at + 2) 0; undone = get_or list (at + 3) 0 };
      held = get_or list (at + 4) 0;
      lines = get_or list (at + 5) 0;
      input = input_from (get_or list (at + 6) 0);
    }

-- the numbers of the entry of a node with this tree
abbrev pub tree_numbers : Expr → List ℕ
tree_numbers e = numbers_of (entry_of e)

-- the numbers of every node of a table
abbrev pub node_numbers : List Node → List ℕ
node_numbers ns = flat_map tree_numbers (trees ns)

-- a node whose operands are among those that the list has entries of
pub record OperandsListed (list : List ℕ) (node : Node) : Type 0 where
  pub trees : List Expr
  pub listed : list ≡ flat_map tree_numbers trees
  pub inputs : ℕ
  pub ordered : NodeOk inputs (length trees) node
