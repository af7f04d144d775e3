use mathlib.Core.List.{◌++◌}
use Rattle.circuit.specs.Circuits.{gates_in}
use Rattle.text.specs.Listings.{gate_lines, first_line}
use Rattle.line.specs.Putting.{TextFits}
use Rattle.areas.specs.AreaGates.{body_in}
use Rattle.list.specs.Printing.{printed}
use Rattle.line.proofs.PutLaws.{put_then, fits_first, fits_second}
use Rattle.list.proofs.put_listing.Goals as goal

pub put_head-requires : goal.put_head-requires
unfolding printed
put_head-requires c =
    let fits : TextFits (first_line c.in-Ok.head ++ gate_lines (gates_in (body_in c.args.area.now c.in-Ok.head.gates))) c.args.writer.now = rw c.in-Ok.is at c.requires.fits in
    fits_first (gate_lines (gates_in (body_in c.args.area.now c.in-Ok.head.gates))) fits

pub body_in-requires : goal.body_in-requires
body_in-requires c = c.requires.there _ c.in-Ok.is

pub put_gate_lines-requires : goal.put_gate_lines-requires
unfolding printed
put_gate_lines-requires c =
    let fits : TextFits (first_line c.in-Ok.head ++ gate_lines (gates_in (body_in c.args.area.now c.in-Ok.head.gates))) c.args.writer.now = rw c.in-Ok.is at c.requires.fits in
    rw c.body_in.ensures (fits_second fits c.put_head.ensures)

pub returns-in-Ok : goal.returns-in-Ok
unfolding printed
returns-in-Ok c = rw c.in-Ok.is (put_then c.put_head.ensures (rw c.body_in.ensures at c.put_gate_lines.ensures))
