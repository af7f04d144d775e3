use native.Mathlib.Omega.{arith}
use Rattle.line.specs.Lines.{decimal, field}
use Rattle.line.proofs.DigitLaws.{decimal_is}
use Rattle.line.proofs.PutLaws.{put_then, fits_first, fits_second}
use Rattle.line.proofs.LineWriter.put_field.Goals as goal

pub put_word-requires : goal.put_word-requires
unfolding field
put_word-requires c = fits_first (decimal c.args.n) c.requires

pub put_word-requires-2 : goal.put_word-requires-2
unfolding field
put_word-requires-2 c = rw (decimal_is c.args.n _ c.decimal-count.ensures.len (omega (arith, c.ranges.n)) c.decimal-count.ensures.digits) (fits_second c.requires c.put_word.ensures)

pub returns : goal.returns
unfolding field
returns c = put_then c.put_word.ensures (rw (decimal_is c.args.n _ c.decimal-count.ensures.len (omega (arith, c.ranges.n)) c.decimal-count.ensures.digits) at c.put_word-2.ensures)
