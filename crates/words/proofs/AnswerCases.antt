-- Computed cases of the definitions: the words of two outputs. Assumes nothing.
use Prim.Native.Nat.{ℕ}
use mathlib.Core.Path.{◌≡◌, refl}
use mathlib.Core.Bool.{false}
use mathlib.Core.List.{List, [], ◌∷◌}
use Rattle.wire.specs.Lists.{sum_of}
use Rattle.wire.specs.Bits.{xor_bit}
use Rattle.node.specs.declared.nodes.Node.TheVariants.{Input, Not, And}
use Rattle.node.specs.Exprs.{value}
use Rattle.node.specs.Trees.{tree_of, trees_from, trees}
use Rattle.word_values.specs.WordBits.{word_bit, bits_at, word_of}
use Rattle.program.specs.Programs.{Program, output_tree, output_value}
use Rattle.words.specs.EvaluatingWords.{output_word}

-- two input words: input 0 is 1 on questions 0, 1 and 63, input 1 on questions 0 and 2
abbrev words : List ℕ
words = 9223372036854775811 ∷ 5 ∷ []

-- output 0 names the AND, output 1 the NOT of input 1
abbrev program : Program
program = record { inputs = 2; nodes = Input 0 ∷ Input 1 ∷ And false 0 1 ∷ Not 1 ∷ []; outputs = 2 ∷ 3 ∷ [] }

first_output : output_word program words 0 ≡ 1
unfolding output_word output_value output_tree word_of sum_of bits_at word_bit value xor_bit trees trees_from tree_of
first_output = refl

next_output : output_word program words 1 ≡ 18446744073709551610
unfolding output_word output_value output_tree word_of sum_of bits_at word_bit value xor_bit trees trees_from tree_of
next_output = refl
