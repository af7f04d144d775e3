use Rattle.node.specs.Exprs.{XOR, AND}
use Rattle.entries.proofs.CountListLaws.{next_zero, next_one, next_input, not_fits, not_small, next_not, xor_tree, xor_lows, and_tree, and_lows, first_fits, second_fits, both_small, next_both}
use Rattle.entries.proofs.next_entry.Goals as goal

pub get_entry-requires : goal.get_entry-requires
get_entry-requires c = not_fits c.requires c.in-Not.is

pub negated-requires : goal.negated-requires
negated-requires c = not_small c.requires c.in-Not.is c.get_entry.ensures

pub get_entry-x-requires : goal.get_entry-x-requires
get_entry-x-requires c = first_fits c.requires XOR (xor_tree c.in-Xor.is) (xor_lows c.requires c.in-Xor.is)

pub get_entry-requires-in-Xor : goal.get_entry-requires-in-Xor
get_entry-requires-in-Xor c = second_fits c.requires XOR (xor_tree c.in-Xor.is) (xor_lows c.requires c.in-Xor.is)

pub xor-requires : goal.xor-requires
xor-requires c = both_small c.requires XOR (xor_tree c.in-Xor.is) (xor_lows c.requires c.in-Xor.is) c.get_entry-x.ensures c.get_entry-in-Xor.ensures

pub get_entry-x-requires-in-And : goal.get_entry-x-requires-in-And
get_entry-x-requires-in-And c = first_fits c.requires (AND c.in-And.marked) (and_tree c.in-And.is) (and_lows c.requires c.in-And.is)

pub get_entry-requires-in-And : goal.get_entry-requires-in-And
get_entry-requires-in-And c = second_fits c.requires (AND c.in-And.marked) (and_tree c.in-And.is) (and_lows c.requires c.in-And.is)

pub and-requires : goal.and-requires
and-requires c = both_small c.requires (AND c.in-And.marked) (and_tree c.in-And.is) (and_lows c.requires c.in-And.is) c.get_entry-x-in-And.ensures c.get_entry-in-And.ensures

pub returns-in-Zero-clause-counts : goal.returns-in-Zero-clause-counts
returns-in-Zero-clause-counts c = next_zero c.requires c.in-Zero.is c.leaf.ensures

pub returns-in-One-clause-counts : goal.returns-in-One-clause-counts
returns-in-One-clause-counts c = next_one c.requires c.in-One.is c.leaf-in-One.ensures

pub returns-in-Input-clause-counts : goal.returns-in-Input-clause-counts
returns-in-Input-clause-counts c = next_input c.requires c.in-Input.is c.leaf-in-Input.ensures

pub returns-in-Not-clause-counts : goal.returns-in-Not-clause-counts
returns-in-Not-clause-counts c = next_not c.requires c.in-Not.is c.get_entry.ensures c.negated.ensures.counts

pub returns-in-Xor-clause-counts : goal.returns-in-Xor-clause-counts
returns-in-Xor-clause-counts c = next_both c.requires XOR (xor_tree c.in-Xor.is) (xor_lows c.requires c.in-Xor.is) c.get_entry-x.ensures c.get_entry-in-Xor.ensures c.xor.ensures.counts

pub returns-in-And-clause-counts : goal.returns-in-And-clause-counts
returns-in-And-clause-counts c = next_both c.requires (AND c.in-And.marked) (and_tree c.in-And.is) (and_lows c.requires c.in-And.is) c.get_entry-x-in-And.ensures c.get_entry-in-And.ensures c.and.ensures.counts
