-- A computed case of a line. Assumes nothing.
use mathlib.Core.Path.{◌≡◌, refl}
use mathlib.Core.List.{flat_map}
use Rattle.refusal.specs.Checks.{lowest_from}
use Rattle.wire.specs.Ascii.{ascii}
use Rattle.line.specs.Lines.{digit_count, decimal, field, line, refused_line}

-- the line of a refusal, with numbers of several digits
pub refused_case : refused_line 11 8001 ≡ ascii "refused 11 8001\n"
unfolding refused_line line field decimal digit_count lowest_from flat_map
refused_case = refl
