-- Putting text into the lent buffer of a writer.
use Rattle.std.specs.Prelude.{ℕ, ◌+◌, ◌≤◌, ◌≡◌, List, length}
use Rattle.std.proofs.lemmas.List.Edits.{sets}
use Rattle.line.specs.declared.LineWriter.{LineWriter}

-- the text is put where the writer's text ended, in the same buffer, and it ends behind it
pub record Put (text : List ℕ) (old new : LineWriter) : Type 0 where
  pub same : new.out.ghost_name ≡ old.out.ghost_name
  pub ends : new.end ≡ old.end + length text
  pub stored : new.out.now ≡ sets old.out.now old.end text

-- the text fits the writer's buffer behind what it has
pub record TextFits (text : List ℕ) (writer : LineWriter) : Type 0 where
  pub fits : writer.end + length text ≤ length writer.out.now
