-- Computed cases of the definitions: questions, and the words of a table with a node of each kind. Assumes nothing.
use Prim.Native.Nat.{ℕ}
use mathlib.Core.Path.{◌≡◌, refl}
use mathlib.Core.Bool.{false, true}
use mathlib.Core.List.{List, [], ◌∷◌}
use Rattle.wire.specs.Lists.{sum_of}
use Rattle.wire.specs.Bits.{xor_bit}
use Rattle.node.specs.declared.nodes.Node.{Node}
use Rattle.node.specs.declared.nodes.Node.TheVariants.{Zero, One, Input, Not, Xor, And}
use Rattle.node.specs.Exprs.{value}
use Rattle.node.specs.Trees.{tree_of, trees_from, trees}
use Rattle.word_values.specs.WordBits.{word_bit, bits_at, word_of}
use Rattle.word_values.specs.WordValues.{question, value_word, node_words}

-- two input words: input 0 is 1 on questions 0, 1 and 63, input 1 on questions 0 and 2
abbrev words : List ℕ
words = 9223372036854775811 ∷ 5 ∷ []

-- the questions that they ask
first_question : question words 0 ≡ 1 ∷ 1 ∷ []
unfolding bits_at word_bit
first_question = refl

next_question : question words 1 ≡ 1 ∷ 0 ∷ []
unfolding bits_at word_bit
next_question = refl

last_question : question words 63 ≡ 1 ∷ 0 ∷ []
unfolding bits_at word_bit
last_question = refl

-- a node of each kind, and an AND that is marked
abbrev table : List Node
table = Input 0 ∷ Input 1 ∷ Zero ∷ One ∷ Not 1 ∷ Xor 0 1 ∷ And false 0 1 ∷ And true 0 4 ∷ []

-- the word of each
each_word : node_words table words ≡ 9223372036854775811 ∷ 5 ∷ 0 ∷ 18446744073709551615 ∷ 18446744073709551610 ∷ 9223372036854775814 ∷ 1 ∷ 9223372036854775810 ∷ []
unfolding node_words value_word word_of sum_of bits_at word_bit value xor_bit trees trees_from tree_of
each_word = refl
