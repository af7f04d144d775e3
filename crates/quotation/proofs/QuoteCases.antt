-- Quotes that are computed: three outputs, an input with itself, marked ANDs, and the numbers at the limit. Assumes nothing.
use mathlib.Core.Path.{◌≡◌, refl}
use mathlib.Core.Bool.{true, false}
use mathlib.Core.List.{[], ◌∷◌, flat_map}
use Rattle.refusal.specs.Checks.{lowest_from}
use Rattle.wire.specs.Limits.{most_quoted}
use Rattle.wire.specs.Lists.{tabulate_from}
use Rattle.wire.specs.Shown.{shown}
use Rattle.gate.specs.Gates.{target, toffoli_count}
use Rattle.gate.specs.Running.{without, uncompute}
use Rattle.node.specs.declared.nodes.Node.TheVariants.{Input, Not, Xor, And}
use Rattle.node.specs.Trees.{tree_of, trees_from, trees}
use Rattle.program.specs.Programs.{Program, output_tree}
use Rattle.construction.specs.Pools.{is_among, all_free, lowest_free, take_line, release}
use Rattle.construction.specs.Construction.{input_of, operand, and_gate, cleaning, cleaned, build, share}
use Rattle.quotation.specs.Quoting.{output_share, share_quote, quotes}

-- outputs: the AND of inputs 0 and 1, its AND with input 2, and 1 XOR input 0 XOR the first
abbrev three_outputs : Program
three_outputs =
    record {
      inputs = 3;
      nodes = Input 0 ∷ Input 1 ∷ And false 0 1 ∷ Input 2 ∷ And false 2 3 ∷ Not 0 ∷ Xor 5 2 ∷ [];
      outputs = 2 ∷ 4 ∷ 6 ∷ [];
    }

-- the gates, Toffolis and work lines of each share
pub three_quoted : quotes three_outputs ≡ 1 ∷ 1 ∷ 0 ∷ 3 ∷ 3 ∷ 1 ∷ 3 ∷ 1 ∷ 0 ∷ []
unfolding quotes flat_map tabulate_from share_quote output_share output_tree trees trees_from tree_of share build input_of operand and_gate cleaning cleaned is_among all_free lowest_free lowest_from take_line release uncompute without target toffoli_count shown
three_quoted = refl

-- the AND of an input with itself has a gate, which is no Toffoli
pub same_quoted : quotes (record { inputs = 1; nodes = Input 0 ∷ And false 0 0 ∷ []; outputs = 1 ∷ [] }) ≡ 1 ∷ 0 ∷ 0 ∷ []
unfolding quotes flat_map tabulate_from share_quote output_share output_tree trees trees_from tree_of share build input_of operand and_gate cleaning cleaned is_among all_free lowest_free lowest_from take_line release uncompute without target toffoli_count shown
same_quoted = refl

-- marked, it is the same: its operands have no gates that would be undone
pub same_marked_quoted : quotes (record { inputs = 1; nodes = Input 0 ∷ And true 0 0 ∷ []; outputs = 1 ∷ [] }) ≡ 1 ∷ 0 ∷ 0 ∷ []
unfolding quotes flat_map tabulate_from share_quote output_share output_tree trees trees_from tree_of share build input_of operand and_gate cleaning cleaned is_among all_free lowest_free lowest_from take_line release uncompute without target toffoli_count shown
same_marked_quoted = refl

-- outputs: the AND of inputs 0, 1 and 2, whose last AND is marked; its XOR with the same of inputs 1, 2 and 3; and their AND, which is marked too
abbrev marked_outputs : Program
marked_outputs =
    record {
      inputs = 4;
      nodes = Input 0 ∷ Input 1 ∷ Input 2 ∷ Input 3 ∷ And false 0 1 ∷ And true 4 2 ∷ And false 1 2 ∷ And true 6 3 ∷ Xor 5 7 ∷ And true 5 7 ∷ [];
      outputs = 5 ∷ 8 ∷ 9 ∷ [];
    }

-- a share undoes what cleans up too, and a line that was freed is taken again
pub marked_quoted : quotes marked_outputs ≡ 5 ∷ 5 ∷ 1 ∷ 10 ∷ 10 ∷ 1 ∷ 25 ∷ 25 ∷ 3 ∷ []
unfolding quotes flat_map tabulate_from share_quote output_share output_tree trees trees_from tree_of share build input_of operand and_gate cleaning cleaned is_among all_free lowest_free lowest_from take_line release uncompute without target toffoli_count shown
marked_quoted = refl

-- 1,000,000 is shown as it is, and every larger number as 1,000,001
pub at_limit : shown most_quoted 1000000 ≡ 1000000
unfolding shown
at_limit = refl

pub above_limit : shown most_quoted 1000002 ≡ 1000001
unfolding shown
above_limit = refl

pub far_above : shown most_quoted 18446744073709551616 ≡ 1000001
unfolding shown
far_above = refl
