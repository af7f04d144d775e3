-- The nodes of a program file: six bytes each, and which of them are in order.
use Rattle.std.specs.Prelude.{ℕ, ◌+◌, ◌*◌, ◌/◌, ◌<◌, Bool, false, cond, ◌&&◌, List, length, get_or, eqb, leb, ltb}
use Rattle.wire.specs.Bytes.{at16}
use Rattle.wire.specs.Lists.{tabulate}
use Rattle.node.specs.declared.nodes.Node.{Node}
use Rattle.node.specs.declared.nodes.Node.TheVariants.{Zero, One, Input, Not, Xor, And}

-- the node of a kind with this mark and these fields, once cause 5 has refused every kind above 5 and every mark that is not right
abbrev pub node_of : ℕ → ℕ → ℕ → ℕ → Node
node_of kind mark a b =
    cond (eqb kind 0) Zero
    (cond (eqb kind 1) One
    (cond (eqb kind 2) (Input a)
    (cond (eqb kind 3) (Not a)
    (cond (eqb kind 4) (Xor a b) (And (eqb mark 1) a b)))))

-- the mark (02, A7) is right for the kind of its node: 0 or 1 on an AND, 0 on any other
unfoldable pub mark_fits : ℕ → ℕ → Bool
mark_fits kind mark = cond (eqb kind 5) (leb mark 1) (eqb mark 0)

-- the fields a and b of node i over n inputs are right for its kind: an input's number is below n, an operand is lower than i, an unused field is zero
unfoldable pub operands_fit : ℕ → ℕ → ℕ → ℕ → ℕ → Bool
operands_fit n i kind a b =
    cond (leb kind 1) (eqb a 0 && eqb b 0)
    (cond (eqb kind 2) (ltb a n && eqb b 0)
    (cond (eqb kind 3) (ltb a i && eqb b 0)
    (cond (leb kind 5) (ltb a i && ltb b i) false)))

-- node i of a node body
unfoldable pub node_at : List ℕ → ℕ → Node
node_at body i = node_of (get_or body (6 * i) 0) (get_or body (6 * i + 1) 0) (at16 body (6 * i + 2)) (at16 body (6 * i + 4))

-- the nodes of a node body
abbrev pub nodes_in : List ℕ → List Node
nodes_in body = tabulate (node_at body) (length body / 6)

-- the test of cause 5 at node i: its mark, its kind and its fields are right
unfoldable pub node_fits : ℕ → List ℕ → ℕ → Bool
node_fits n body i =
    mark_fits (get_or body (6 * i) 0) (get_or body (6 * i + 1) 0)
    && operands_fit n i (get_or body (6 * i) 0) (at16 body (6 * i + 2)) (at16 body (6 * i + 4))

-- a node's operands are lower than i, and its input's number, if it has one, is below n
abbrev pub NodeOk : ℕ → ℕ → Node → Type 0
NodeOk n i Zero = Unit {0}
NodeOk n i One = Unit {0}
NodeOk n i (Input j) = j < n
NodeOk n i (Not a) = a < i
NodeOk n i (Xor a b) = (a < i) × (b < i)
NodeOk n i (And m a b) = (a < i) × (b < i)

-- every node of the table is in order
abbrev pub TableOk : ℕ → List Node → Type 0
TableOk n ns = (i : ℕ) → i < length ns → NodeOk n i (get_or ns i Zero)
