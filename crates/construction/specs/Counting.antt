-- What is shown of a number of gates that were counted and not written.
use Rattle.std.specs.Prelude.{ℕ}
use Rattle.wire.specs.Limits.{most_counted}
use Rattle.wire.specs.Shown.{shown}

-- the number itself up to 3,000,000, and 3,000,001 for every larger one (02, A7): marks let a few nodes take more gates than can be counted
unfoldable pub gates_shown : ℕ → ℕ
gates_shown k = shown most_counted k
