use native.Mathlib.Omega.{arith}
use mathlib.Core.Path.{refl, ◌∙◌}
use Rattle.pool.proofs.LinePoolLaws.{released_back}
use Rattle.counter.specs.Counter.{gates_in, most_in, used_in}
use Rattle.counter.proofs.CounterLaws.{more_few}
use Rattle.counter.proofs.count_cleaning.Goals as goal

pub once_more-gates-requires : goal.once_more-gates-requires
unfolding gates_in
once_more-gates-requires c = c.requires.gates_least

pub release-used-requires : goal.release-used-requires
unfolding used_in
release-used-requires c = omega (arith, c.requires.used_least)

pub pack_counts-requires : goal.pack_counts-requires
unfolding gates_in
pack_counts-requires c =
    let p = c.requires in
    (rw c.once_more-gates.ensures (more_few _ p.gates_few), omega arith, omega (arith, released_back _ _ c.release-used.ensures))

pub returns : goal.returns
unfolding gates_in most_in used_in
returns c = c.pack_counts.ensures ∙ rw (c.once_more-gates.ensures, released_back _ _ c.release-used.ensures) refl
