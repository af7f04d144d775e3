use mathlib.Core.List.{◌++◌, flat_map}
use Rattle.wire.specs.Ascii.{ascii}
use Rattle.line.specs.Lines.{field, line}
use Rattle.line.proofs.PutLaws.{put_then, fits_first, fits_second}
use Rattle.line.proofs.LineWriter.put_line.Goals as goal

pub put_word-requires : goal.put_word-requires
unfolding line
put_word-requires c = fits_first (flat_map field c.args.numbers.now ++ ascii "\n") c.requires

pub put_numbers-requires : goal.put_numbers-requires
unfolding line
put_numbers-requires c = fits_first (ascii "\n") (fits_second c.requires c.put_word.ensures)

pub put_word-requires-2 : goal.put_word-requires-2
unfolding line
put_word-requires-2 c = fits_second (fits_second c.requires c.put_word.ensures) c.put_numbers.ensures

pub returns : goal.returns
unfolding line
returns c = put_then c.put_word.ensures (put_then c.put_numbers.ensures c.put_word-2.ensures)
