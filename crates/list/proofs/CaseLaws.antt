-- A computed case of what is printed. Assumes nothing.
use mathlib.Core.Path.{◌≡◌, refl}
use mathlib.Core.List.{[], flat_map}
use Rattle.refusal.specs.Checks.{lowest_from}
use Rattle.wire.specs.Ascii.{ascii}
use Rattle.contents.specs.Contents.{table_fits}
use Rattle.program.specs.Reading.{read_program}
use Rattle.compilation.specs.Compiling.{read_with_sizes, compile_file}
use Rattle.line.specs.Lines.{digit_count, decimal, field, line, refused_line}
use Rattle.text.specs.Listings.{listing}
use Rattle.list.specs.Listing.{listing_of}

-- empty standard input
pub empty_case : listing_of [] 1024 ≡ ascii "refused 1 0\n"
unfolding compile_file read_with_sizes read_program table_fits listing refused_line line field decimal digit_count lowest_from flat_map
empty_case = refl
