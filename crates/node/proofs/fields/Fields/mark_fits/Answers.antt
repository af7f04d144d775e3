use mathlib.Core.Path.{◌∙◌}
use borrow.Author.Tests.{eq-eqb}
use Rattle.node.proofs.NodeLaws.{no_mark_fits, some_mark_fits}
use Rattle.node.proofs.fields.Fields.mark_fits.Goals as goal

pub returns-then-self-eq0 : goal.returns-then-self-eq0
returns-then-self-eq0 c = eq-eqb _ _ c.if-self-eq0.true ∙ no_mark_fits _ _ c.if-self-eq0.true

pub returns-else-self-eq0 : goal.returns-else-self-eq0
returns-else-self-eq0 c = some_mark_fits _ _ c.if-self-eq0.false
