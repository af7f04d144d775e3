-- What nodes are worth on 64 questions at once: from their value on each.
use Rattle.std.specs.Prelude.{ℕ, List, map}
use Rattle.node.specs.declared.nodes.Node.{Node}
use Rattle.node.specs.Exprs.{Expr, value}
use Rattle.node.specs.Trees.{trees}
use Rattle.word_values.specs.WordBits.{question_count, bits_at, word_of}

-- question k (02, A3) of the input words: the input bits that it asks about, bit k of each
abbrev pub question : List ℕ → ℕ → List ℕ
question inputs k = bits_at k inputs

-- the word of an expression: its bit k is the value on question k
unfoldable pub value_word : Expr → List ℕ → ℕ
value_word e inputs = word_of (λ k. value e (question inputs k)) question_count

-- the word of every node of a table
unfoldable pub node_words : List Node → List ℕ → List ℕ
node_words ns inputs = map (λ e. value_word e inputs) (trees ns)
