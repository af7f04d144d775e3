-- The table of contents that opens a file: the number of entries, then for each body its tag, its start and its length.
use Rattle.std.specs.Prelude.{ℕ, suc, ◌+◌, ◌*◌, Bool, ◌&&◌, List, [], ◌∷◌, ◌++◌, length, take, drop, eqb, leb}
use Rattle.wire.specs.Bytes.{at16, at32, bytes16, bytes32}

-- how many bytes a table of k entries takes
abbrev pub table_length : ℕ → ℕ
table_length k = 2 + 10 * k

-- the tag of entry i
abbrev pub entry_tag : List ℕ → ℕ → ℕ
entry_tag f i = at16 f (2 + 10 * i)

-- where the body of entry i starts
abbrev pub entry_start : List ℕ → ℕ → ℕ
entry_start f i = at32 f (2 + 10 * i + 2)

-- how long the body of entry i is
abbrev pub entry_length : List ℕ → ℕ → ℕ
entry_length f i = at32 f (2 + 10 * i + 6)

-- the body that entry i names
abbrev pub body_of : List ℕ → ℕ → List ℕ
body_of f i = take (entry_length f i) (drop (entry_start f i) f)

-- the test of cause 1: the number of entries is there and is k, and the table is not cut short
unfoldable pub table_fits : ℕ → List ℕ → Bool
table_fits k f = leb 2 (length f) && (eqb (at16 f 0) k && leb (table_length k) (length f))

-- the entries from i on have these tags, the first body starts at start, each next one where the last ended, and the last ends with the file
unfoldable pub entries_from : List ℕ → ℕ → ℕ → List ℕ → Bool
entries_from [] i start f = eqb start (length f)
entries_from (t ∷ ts) i start f =
    eqb (entry_tag f i) t && (eqb (entry_start f i) start && entries_from ts (suc i) (start + entry_length f i) f)

-- the test of cause 2: tags, starts and ends are right; the first body starts where the table ends
unfoldable pub entries_fit : List ℕ → List ℕ → Bool
entries_fit tags f = entries_from tags 0 (table_length (length tags)) f

-- the bytes of the entries with these tags and lengths, the first body starting at start
unfoldable pub entries_bytes : List ℕ → List ℕ → ℕ → List ℕ
entries_bytes (t ∷ ts) (l ∷ ls) start = bytes16 t ++ (bytes32 start ++ (bytes32 l ++ entries_bytes ts ls (start + l)))
entries_bytes [] ls start = []
entries_bytes (t ∷ ts) [] start = []

-- the table of contents of bodies with these tags and lengths
unfoldable pub contents_bytes : List ℕ → List ℕ → List ℕ
contents_bytes tags lengths = bytes16 (length tags) ++ entries_bytes tags lengths (table_length (length tags))
