use native.Mathlib.Omega.{arith}
use mathlib.Core.Path.{refl, ◌∙◌}
use Rattle.pool.proofs.LinePoolLaws.{released_back}
use Rattle.counter.specs.Counter.{gates_in, most_in}
use Rattle.counter.proofs.free_lines.Goals as goal

pub pack_counts-requires : goal.pack_counts-requires
unfolding gates_in
pack_counts-requires c = (c.requires, omega arith, omega (arith, released_back 0 _ c.release-used.ensures))

pub returns : goal.returns
unfolding gates_in most_in
returns c = c.pack_counts.ensures ∙ rw (released_back 0 _ c.release-used.ensures) refl
