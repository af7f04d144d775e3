use Rattle.areas.proofs.WriterLaws.{writable, opening_stores}
use Rattle.areas.proofs.writer.write_head.Goals as goal

pub write_contents-requires : goal.write_contents-requires
write_contents-requires c = writable c.args.head _ c.requires.0 c.requires.1

pub returns : goal.returns
returns c = opening_stores c.args.area.now c.args.head c.write_contents.ensures c.put16.ensures c.put16-2.ensures c.put16-3.ensures
