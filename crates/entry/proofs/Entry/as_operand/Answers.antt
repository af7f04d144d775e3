use mathlib.Core.Path.{sym, ◌≡◌, ◌∙◌}
use Rattle.std.proofs.Common.{rules}
use Rattle.entry.proofs.EntryLaws.{operand_input, operand_built, added_small}
use Rattle.entry.proofs.Entry.as_operand.Goals as goal

pub returns-then-is_some : goal.returns-then-is_some
returns-then-is_some c =
    let none : c.default.result ≡ record { gates = 0; toffolis = 0; held = 0; lines = 0 } = search rules in
    added_small c.requires (none ∙ operand_input c.args.self (sym c.is_some.ensures ∙ c.if-is_some.true))

pub returns : goal.returns
returns c = added_small c.requires (operand_built c.args.self (sym c.is_some.ensures ∙ c.if-is_some.false))
