use native.Mathlib.Omega.{arith}
use mathlib.Core.Path.{ap, ◌∙◌}
use Rattle.wire.specs.Limits.{most_quoted}
use Rattle.wire.specs.Shown.{shown}
use Rattle.entry.proofs.EntryLaws.{toffoli_few, entry_and}
use Rattle.entry.proofs.Entry.and.Goals as goal

pub and-requires-2 : goal.and-requires-2
and-requires-2 c = (rw c.gate_toffolis-toffolis.ensures (toffoli_few _ _), omega arith)

pub returns-clause-counts : goal.returns-clause-counts
returns-clause-counts c =
    λ a b p q.
    entry_and a b p q _
    c.as_operand-first.ensures.0
    c.as_operand-second.ensures.0
    c.gate_toffolis-toffolis.ensures
    c.and.ensures
    c.and-2.ensures
    (c.capped.ensures ∙ ap (shown most_quoted) c.still_held-held.ensures)
    c.most_lines.ensures
