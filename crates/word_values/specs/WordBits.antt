-- Words: numbers of 64 bits, a bit for each of 64 questions.
use Rattle.std.specs.Prelude.{ℕ, ◌*◌, ◌/◌, ◌%◌, ◌^◌, List, map}
use Rattle.wire.specs.Lists.{sum_of}

-- how many questions a word has a bit for
abbrev pub question_count : ℕ
question_count = 64

-- bit k of a number, the lowest being bit 0
unfoldable pub word_bit : ℕ → ℕ → ℕ
word_bit w k = w / 2 ^ k % 2

-- bit k of each of some words
unfoldable pub bits_at : ℕ → List ℕ → List ℕ
bits_at k ws = map (λ w. word_bit w k) ws

-- the number whose bit k is bits k, 0 or 1, for each k below n, and which has no other bits
unfoldable pub word_of : (ℕ → ℕ) → ℕ → ℕ
word_of bits n = sum_of (λ k. bits k * 2 ^ k) n
