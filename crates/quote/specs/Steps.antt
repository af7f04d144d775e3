-- What the steps that write the answers leave, and what they ask of their callers.
use Rattle.std.specs.Prelude.{ℕ, ◌+◌, ◌*◌, ◌/◌, ◌≤◌, ◌<◌, List, [], ◌∷◌, length}
use Rattle.wire.specs.Limits.{most_quoted}
use Rattle.wire.specs.Lists.{tabulate}
use Rattle.wire.specs.Shown.{shown}
use Rattle.program.specs.Reading.{output_at}
use Rattle.entry.specs.declared.Entry.{Entry}
use Rattle.entry.specs.Entries.{SmallEntry}
use Rattle.entries.specs.CountList.{entry_from}

-- what an answer says of an entry: gates, Toffolis, work lines
unfoldable pub entry_quote : Entry → List ℕ
entry_quote e = shown most_quoted (e.gates.built + e.gates.undone) ∷ shown most_quoted (e.toffolis.built + e.toffolis.undone) ∷ e.lines ∷ []

-- the entry of the node that output k names
abbrev pub named_entry : List ℕ → List ℕ → ℕ → Entry
named_entry outputs counts k = entry_from counts (8 * output_at outputs k)

-- and those of all outputs, in their order
abbrev pub named_entries : List ℕ → List ℕ → List Entry
named_entries outputs counts = tabulate (named_entry outputs counts) (length outputs / 2)

-- every output names a node that has an entry with small numbers, and there is room for an answer each
pub record Quotable (outputs counts : List ℕ) (room : ℕ) : Type 0 where
  pub there : (k : ℕ) → k < length outputs / 2 → 8 * output_at outputs k + 8 ≤ length counts
  pub each_small : (k : ℕ) → k < length outputs / 2 → SmallEntry (named_entry outputs counts k)
  pub fits : 3 * (length outputs / 2) ≤ room
