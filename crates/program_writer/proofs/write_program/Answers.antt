use native.Mathlib.Omega.{arith}
use Rattle.wire.proofs.AreaLaws.{part_stored}
use Rattle.program_writer.proofs.BodyFileLaws.{table_writable, file_stores}
use Rattle.program_writer.proofs.write_program.Goals as goal

pub write_contents-requires : goal.write_contents-requires
write_contents-requires c = table_writable c.args.inputs _ _ c.requires.few_nodes c.requires.area_room

pub returns : goal.returns
returns c =
    let nodes = part_stored c.args.nodes.now c.put16-2.new.s 36 _ c.copy_from_slice.ensures.after (omega arith) (omega arith) in
    file_stores c.args.area.now c.args.inputs c.args.nodes.now c.write_contents.ensures c.put16.ensures c.put16-2.ensures nodes c.put16-3.ensures
