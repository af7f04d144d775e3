-- The bodies that a table of contents names, and what storing the table asks for.
use Rattle.std.specs.Prelude.{ℕ, ◌+◌, ◌≤◌, ◌<◌, List, length, map}
use Rattle.contents.specs.Contents.{table_length}
use Rattle.contents.specs.Steps.{total}
use Rattle.areas.specs.declared.table.Body.{Body}

-- the tags of bodies
abbrev pub tags_of : List Body → List ℕ
tags_of bodies = map (λ (b : Body). b.tag) bodies

-- how many bytes each of them takes
abbrev pub lengths_of : List Body → List ℕ
lengths_of bodies = map (λ (b : Body). b.length) bodies

-- a table that can be written: there is room for it, and every number is small enough for its field
pub record WritableTable (bodies : List Body) (room : ℕ) : Type 0 where
  pub few : length bodies < 65536
  pub fits : table_length (length bodies) ≤ room
  pub small : table_length (length bodies) + total (lengths_of bodies) < 4294967296
