use mathlib.Core.Path.{sym, ◌∙◌}
use Rattle.contents.specs.Steps.{read_contents}
use Rattle.contents.proofs.ContentsLaws.{table_whole}
use Rattle.contents.proofs.reader.read_contents.Goals as goal

pub returns-then-not-table_fits : goal.returns-then-not-table_fits
unfolding read_contents
returns-then-not-table_fits c = simp (sym c.table_fits.ensures ∙ c.if-not-table_fits.true)

pub entries_fit-requires : goal.entries_fit-requires
entries_fit-requires c = table_whole _ _ (sym c.table_fits.ensures ∙ c.if-not-table_fits.false)

pub returns-then-not-entries_fit : goal.returns-then-not-entries_fit
unfolding read_contents
returns-then-not-entries_fit c = simp ((sym c.table_fits.ensures ∙ c.if-not-table_fits.false), sym c.entries_fit.ensures ∙ c.if-not-entries_fit.true)

pub returns : goal.returns
unfolding read_contents
returns c = simp ((sym c.table_fits.ensures ∙ c.if-not-table_fits.false), sym c.entries_fit.ensures ∙ c.if-not-entries_fit.false)
