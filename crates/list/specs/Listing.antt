-- The listing of a program file (01).
use Rattle.std.specs.Prelude.{ℕ, List}
use Rattle.wire.specs.Limits.{most_gates, most_nodes}
use Rattle.circuit.specs.Format.{file_length}
use Rattle.compilation.specs.Compiling.{compile_file}
use Rattle.text.specs.Listings.{listing}

-- the text that is printed for a program file and a grant; no program that compiles needs more sizes, or more bytes, than these
abbrev pub listing_of : List ℕ → ℕ → List ℕ
listing_of file grant = listing (compile_file file grant most_nodes (file_length most_gates))
