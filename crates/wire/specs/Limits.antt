-- The limits of files and programs (01, 02), one name each.
use Rattle.std.specs.Prelude.{ℕ}

-- the most inputs and the most outputs that a file may have
abbrev pub most_inputs : ℕ
most_inputs = 64

abbrev pub most_outputs : ℕ
most_outputs = 64

-- the most work lines, of a circuit and of a grant
abbrev pub most_work : ℕ
most_work = 1024

-- the most nodes of a program
abbrev pub most_nodes : ℕ
most_nodes = 4096

-- the most gates of a circuit
abbrev pub most_gates : ℕ
most_gates = 8000

-- the largest unfolded size (01) of an output
abbrev pub most_size : ℕ
most_size = 16384

-- the largest number of gates that the place of cause 11 shows as it is (02, A7)
abbrev pub most_counted : ℕ
most_counted = 3000000

-- the largest number that a quote (02, A1) shows as it is
abbrev pub most_quoted : ℕ
most_quoted = 1000000

-- the most bytes of a text (02, A6)
abbrev pub most_text : ℕ
most_text = 4096

-- the most brackets and ! that may be open in it together
abbrev pub most_open : ℕ
most_open = 64
