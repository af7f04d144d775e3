use Rattle.node.specs.Trees.{node_values}
use Rattle.evaluate.proofs.values.fill_values.Goals as goal

pub returns : goal.returns
unfolding node_values
returns c = c.fill.ensures
