use mathlib.Core.Path.{ap, ◌∙◌}
use Rattle.refusal.specs.Answers.{result}
use Rattle.node.specs.Steps.{read_node}
use Rattle.node.proofs.NodeLaws.{fields_test, fields_node}
use Rattle.node.proofs.nodes.read_node.Goals as goal

pub returns-then-not-fit : goal.returns-then-not-fit
unfolding read_node
returns-then-not-fit c = simp (fields_test c.args.body.now c.args.i c.at-fields.ensures _ c.fit.ensures ∙ c.if-not-fit.true)

pub returns : goal.returns
unfolding read_node
returns c = simp (fields_test c.args.body.now c.args.i c.at-fields.ensures _ c.fit.ensures ∙ c.if-not-fit.false) (ap result (fields_node c.args.body.now c.args.i c.at-fields.ensures c.node.ensures))
