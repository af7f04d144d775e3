use mathlib.Core.Path.{refl}
use borrow.Author.Tests.{eq-eqb, ne_eqb, le-leb, lt-leb}
use Rattle.node.specs.Nodes.{operands_fit}
use Rattle.node.proofs.fields.Fields.operands_fit.Goals as goal

pub returns-then-self : goal.returns-then-self
unfolding operands_fit
returns-then-self c = rw (le-leb _ _ c.if-self.true) refl

pub returns-then-self-2 : goal.returns-then-self-2
unfolding operands_fit
returns-then-self-2 c = rw (lt-leb _ _ c.if-self.false, eq-eqb _ _ c.if-self-2.true) refl

pub returns-then-self-3 : goal.returns-then-self-3
unfolding operands_fit
returns-then-self-3 c = rw (lt-leb _ _ c.if-self.false, ne_eqb _ _ c.if-self-2.false, eq-eqb _ _ c.if-self-3.true) refl

pub returns-then-self-4 : goal.returns-then-self-4
unfolding operands_fit
returns-then-self-4 c = rw (lt-leb _ _ c.if-self.false, ne_eqb _ _ c.if-self-2.false, ne_eqb _ _ c.if-self-3.false, le-leb _ _ c.if-self-4.true) refl

pub returns-else-self-4 : goal.returns-else-self-4
unfolding operands_fit
returns-else-self-4 c = rw (lt-leb _ _ c.if-self.false, ne_eqb _ _ c.if-self-2.false, ne_eqb _ _ c.if-self-3.false, lt-leb _ _ c.if-self-4.false) refl
