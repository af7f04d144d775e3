-- The tree of each node of a table: its expression, front to back.
use Rattle.std.specs.Prelude.{ℕ, List, [], ◌∷◌, ◌++◌, map, get_or}
use Rattle.node.specs.declared.nodes.Node.{Node}
use Rattle.node.specs.declared.nodes.Node.TheVariants.{Zero, One, Input, Not, Xor, And}
use Rattle.node.specs.Exprs.{Expr, ZERO, ONE, INPUT, NOT, XOR, AND, value}

-- a node's tree, where the trees of the nodes before it are given
unfoldable pub tree_of : List Expr → Node → Expr
tree_of ts Zero = ZERO
tree_of ts One = ONE
tree_of ts (Input j) = INPUT j
tree_of ts (Not a) = NOT (get_or ts a ZERO)
tree_of ts (Xor a b) = XOR (get_or ts a ZERO) (get_or ts b ZERO)
tree_of ts (And m a b) = AND m (get_or ts a ZERO) (get_or ts b ZERO)

-- the trees of further nodes, behind those already there
unfoldable pub trees_from : List Expr → List Node → List Expr
trees_from ts [] = ts
trees_from ts (n ∷ ns) = trees_from (ts ++ (tree_of ts n ∷ [])) ns

-- the tree of every node of the table
unfoldable pub trees : List Node → List Expr
trees ns = trees_from [] ns

-- the value of every node of a table on the input bits x
unfoldable pub node_values : List Node → List ℕ → List ℕ
node_values ns x = map (λ e. value e x) (trees ns)
