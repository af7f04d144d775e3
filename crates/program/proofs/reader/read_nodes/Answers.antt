use mathlib.Core.Path.{◌≡◌, ap, ◌∙◌}
use Rattle.std.specs.Prelude.{Err}
use Rattle.std.proofs.Common.{rules}
use Rattle.refusal.specs.Answers.{answer_of}
use Rattle.refusal.specs.declared.causes.Refusal.TheVariants as cause
use Rattle.refusal.proofs.AnswerLaws.{each_fails, each_holds}
use Rattle.refusal.proofs.CheckLaws.{passed_next, passed_fails, passed_all}
use Rattle.node.proofs.NodeLaws.{read_good, read_bad, read_why}
use Rattle.program.proofs.reader.read_nodes.Goals as goal

pub returns-in_err-read_node : goal.returns-in_err-read_node
returns-in_err-read_node c =
    let passed : c.from_residual.result ≡ Err c.in_err-read_node.field-0.0 = search rules in
    let e = c.read_node.ensures in
    let was = c.in_err-read_node.was in
    let fails = passed_fails _ c.loop-i.invariant c.loop-i-test.true (read_bad _ _ _ e was) in
    ap answer_of passed ∙ read_why _ _ _ e was ∙ each_fails _ _ cause.Node fails c.loop-i-test.true

pub loop-i-preserved : goal.loop-i-preserved
loop-i-preserved c = passed_next _ c.loop-i.invariant c.loop-i-test.true (read_good _ _ _ c.read_node.ensures c.in_ok-read_node.was)

pub returns : goal.returns
returns c = each_holds _ _ cause.Node (passed_all _ c.loop-i.invariant c.loop-i-test.false)
