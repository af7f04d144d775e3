use Rattle.word_values.specs.WordValues.{node_words}
use Rattle.word_values.proofs.fill_words.Goals as goal

pub returns : goal.returns
unfolding node_words
returns c = c.fill.ensures
