use Rattle.std.proofs.Common.{◌≡◌, Err, arith, rules}
use Rattle.formula.proofs.WholeLaws.{whole_bad, whole_more, whole_end}
use Rattle.formula.proofs.whole.Goals as goal

pub returns-in_err-read : goal.returns-in_err-read
returns-in_err-read c =
    let passed : c.from_residual.result ≡ Err c.in_err-read.field-0.0 = search rules in
    rw passed (whole_bad c.args.inputs c.args.text.now c.args.nodes.now _ _ c.in_err-read.ensures)

pub returns-then-read-text : goal.returns-then-read-text
returns-then-read-text c = whole_more c.args.inputs c.args.text.now c.args.nodes.now _ _ c.in_ok-read.ensures (omega arith)

pub returns : goal.returns
returns c = whole_end c.args.inputs c.args.text.now c.args.nodes.now _ _ c.in_ok-read.ensures (omega arith) (omega arith)
