use Rattle.emitter.proofs.WriteLaws.{fields_put}
use Rattle.emitter.proofs.write_node.Goals as goal

pub returns : goal.returns
returns c = fields_put c.args.nodes.now c.args.i _ c.args.a c.args.b c.put16.ensures c.put16-2.ensures
