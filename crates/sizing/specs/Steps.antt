-- What the steps of sizing answer.
use Rattle.std.specs.Prelude.{ℕ, Bool, List, get_or, leb}
use Rattle.wire.specs.Limits.{most_size}
use Rattle.program.specs.Reading.{output_at}

-- the entry of the node that output k names is at most 16,384
abbrev pub entry_fits : List ℕ → List ℕ → ℕ → Bool
entry_fits sizes outputs k = leb (get_or sizes (output_at outputs k) 0) most_size
