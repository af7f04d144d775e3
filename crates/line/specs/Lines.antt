-- A line of text in ASCII: a word, numbers in decimal, each behind one blank, and a newline.
use Rattle.std.specs.Prelude.{ℕ, ◌^◌, leb}
use mathlib.Core.List.{List, [], ◌∷◌, ◌++◌, flat_map}
use Rattle.io.specs.Digits.{last_digits}
use Rattle.refusal.specs.Checks.{lowest_from}
use Rattle.wire.specs.Ascii.{ascii}

-- how many decimal digits a number takes, up to the 20 of a 64-bit number
unfoldable pub digit_count : ℕ → ℕ
digit_count n = lowest_from (λ k. leb (10 ^ k) n) 1 19

-- a number in decimal
unfoldable pub decimal : ℕ → List ℕ
decimal n = last_digits 10 (digit_count n) n

-- a field: one blank and a number
unfoldable pub field : ℕ → List ℕ
field n = ascii " " ++ decimal n

-- a line: a word, a field for each number, and a newline
unfoldable pub line : List ℕ → List ℕ → List ℕ
line word ns = word ++ (flat_map field ns ++ ascii "\n")

-- the line of a refusal: its number and its place
unfoldable pub refused_line : ℕ → ℕ → List ℕ
refused_line n p = line (ascii "refused") (n ∷ p ∷ [])
