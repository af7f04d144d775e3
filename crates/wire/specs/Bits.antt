-- Bits, each kept in a byte that is 0 or 1: what an input, a line or a node's value holds.
use Rattle.std.specs.Prelude.{ℕ, ◌+◌, ◌%◌, ◌<◌, Bool, ◌&&◌, List, length, get_or, eqb, ltb}
use Rattle.refusal.specs.Checks.{all_below}

-- the XOR of two bits; their AND is the product
unfoldable pub xor_bit : ℕ → ℕ → ℕ
xor_bit a b = (a + b) % 2

-- the bit with index i
abbrev pub bit : List ℕ → ℕ → ℕ
bit s i = get_or s i 0

-- every byte is 0 or 1
abbrev pub Bits : List ℕ → Type 0
Bits s = (i : ℕ) → i < length s → bit s i < 2

-- the test of causes 13 and 14: there are n bytes, and each is 0 or 1
unfoldable pub bits_fit : ℕ → List ℕ → Bool
bits_fit n s = eqb (length s) n && all_below (λ i. ltb (bit s i) 2) (length s)
