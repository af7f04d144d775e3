use native.Mathlib.Omega.{arith}
use mathlib.Core.Path.{refl, ◌∙◌}
use Rattle.pool.proofs.LinePoolLaws.{taken_next}
use Rattle.counter.specs.Counter.{gates_in, most_in, used_in}
use Rattle.counter.proofs.take_line.Goals as goal

pub pack_counts-requires : goal.pack_counts-requires
unfolding gates_in most_in used_in
pack_counts-requires c =
    let used = taken_next _ c.take-used.ensures in
    let few = c.requires in
    (few.0, omega (arith, c.max.ensures, used, few.1, few.2), omega (arith, used, few.2))

pub returns : goal.returns
unfolding gates_in most_in used_in
returns c = c.pack_counts.ensures ∙ rw (c.max.ensures, taken_next _ c.take-used.ensures) refl
