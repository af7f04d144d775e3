use mathlib.Core.Path.{sym, ap, ◌∙◌}
use Rattle.node.specs.declared.nodes.Node.TheVariants as node
use Rattle.node.specs.Trees.{tree_of}
use Rattle.program.proofs.OperandLaws.{node_there, tree_is}
use Rattle.construction.specs.Construction.{input_of}
use Rattle.construction.proofs.AndLaws.{no_input}
use Rattle.controls.proofs.input_of.Goals as goal

pub node_at-requires : goal.node_at-requires
node_at-requires c = node_there c.requires

pub returns-in-Input : goal.returns-in-Input
unfolding tree_of input_of
returns-in-Input c = sym (ap input_of (tree_is c.requires (node.Input c.in-Input.j) (sym c.node_at.ensures ∙ c.in-Input.is)))

pub returns-in_default : goal.returns-in_default
returns-in_default c = sym (ap input_of (tree_is c.requires c.node_at.result (sym c.node_at.ensures)) ∙ no_input _ c.node_at.result c.in_default.not-Input)
