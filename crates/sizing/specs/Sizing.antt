-- The unfolded sizes of the nodes of a table, as the size list holds them.
use Rattle.std.specs.Prelude.{ℕ, List, map}
use Rattle.wire.specs.Limits.{most_size}
use Rattle.wire.specs.Shown.{shown}
use Rattle.node.specs.declared.nodes.Node.{Node}
use Rattle.node.specs.Exprs.{Expr, size}
use Rattle.node.specs.Trees.{trees}

-- a tree's size as the list shows it: 16,385 if that is less
abbrev pub shown_size : Expr → ℕ
shown_size e = shown most_size (size e)

-- the entry of every node of a table
unfoldable pub node_sizes : List Node → List ℕ
node_sizes ns = map shown_size (trees ns)
