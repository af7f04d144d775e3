use Rattle.node.proofs.NodeLaws.{fields_node}
use Rattle.node.proofs.nodes.node_at.Goals as goal

pub returns : goal.returns
returns c = fields_node _ _ c.at.ensures c.node.ensures
