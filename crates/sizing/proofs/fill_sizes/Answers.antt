use Rattle.sizing.specs.Sizing.{node_sizes}
use Rattle.sizing.proofs.fill_sizes.Goals as goal

pub returns : goal.returns
unfolding node_sizes
returns c = c.fill.ensures
