use Rattle.entry.proofs.EntryLaws.{entry_xor}
use Rattle.entry.proofs.Entry.xor.Goals as goal

pub returns-clause-counts : goal.returns-clause-counts
returns-clause-counts c = λ a b p q. entry_xor a b p q c.xor.ensures c.xor-2.ensures c.capped.ensures c.most_lines.ensures
