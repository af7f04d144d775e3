use Rattle.entry.proofs.EntryLaws.{entry_not}
use Rattle.entry.proofs.Entry.negated.Goals as goal

pub returns-clause-counts : goal.returns-clause-counts
returns-clause-counts c = λ a p. entry_not a p c.negated.ensures c.negated-2.ensures
