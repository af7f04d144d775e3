-- Numbers of 16 and 32 bits in a list of bytes, low byte first.
use Rattle.std.specs.Prelude.{ℕ, ◌+◌, ◌*◌, ◌/◌, ◌%◌, ◌<◌, List, [], ◌∷◌, length, get_or}

-- the 16-bit number whose first byte has index i
abbrev pub at16 : List ℕ → ℕ → ℕ
at16 s i = get_or s i 0 + 256 * get_or s (i + 1) 0

-- the 32-bit number whose first byte has index i
abbrev pub at32 : List ℕ → ℕ → ℕ
at32 s i = get_or s i 0 + 256 * get_or s (i + 1) 0 + 65536 * get_or s (i + 2) 0 + 16777216 * get_or s (i + 3) 0

-- the two bytes of a 16-bit number
abbrev pub bytes16 : ℕ → List ℕ
bytes16 v = v % 256 ∷ v / 256 % 256 ∷ []

-- the four bytes of a 32-bit number
abbrev pub bytes32 : ℕ → List ℕ
bytes32 v = v % 256 ∷ v / 256 % 256 ∷ v / 65536 % 256 ∷ v / 16777216 % 256 ∷ []

-- every element is a byte
abbrev pub Bytes : List ℕ → Type 0
Bytes s = (i : ℕ) → i < length s → get_or s i 0 < 256
