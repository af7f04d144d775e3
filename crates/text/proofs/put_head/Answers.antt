use mathlib.Core.List.{List, [], ◌∷◌, ◌++◌, flat_map}
use Prim.Native.Nat.{ℕ}
use Rattle.wire.specs.Ascii.{ascii}
use Rattle.circuit.specs.declared.reader.CircuitHead.{CircuitHead}
use Rattle.line.specs.Lines.{field, line}
use Rattle.text.specs.Listings.{first_line}
use Rattle.line.proofs.PutLaws.{put_then, fits_first, fits_second}
use Rattle.text.proofs.put_head.Goals as goal

-- the fields behind the first word, and the rest of the line
abbrev kinds : CircuitHead → List ℕ
kinds h = flat_map field (h.inputs ∷ h.outputs ∷ h.work ∷ [])

abbrev gates : CircuitHead → List ℕ
gates h = line (ascii " gates") (h.gates ∷ [])

pub put_word-requires : goal.put_word-requires
unfolding first_line
put_word-requires c = fits_first (kinds c.args.head ++ gates c.args.head) c.requires

pub put_numbers-requires : goal.put_numbers-requires
unfolding first_line
put_numbers-requires c = fits_first (gates c.args.head) (fits_second c.requires c.put_word.ensures)

pub put_line-requires : goal.put_line-requires
unfolding first_line
put_line-requires c = fits_second (fits_second c.requires c.put_word.ensures) c.put_numbers.ensures

pub returns : goal.returns
unfolding first_line
returns c = put_then c.put_word.ensures (put_then c.put_numbers.ensures c.put_line.ensures)
