use Rattle.line.proofs.PutLaws.{each_start, each_fits, each_next}
use Rattle.line.proofs.LineWriter.put_numbers.Goals as goal

pub loop-n-init : goal.loop-n-init
loop-n-init c = each_start _ _ _

pub put_field-requires : goal.put_field-requires
put_field-requires c = each_fits _ _ _ 0 c.loop-n.invariant c.loop-n-test.true c.requires

pub loop-n-preserved : goal.loop-n-preserved
loop-n-preserved c = each_next _ _ _ 0 c.loop-n.invariant c.loop-n-test.true c.put_field.ensures
