-- Numbers as a lent list shows them.
use Rattle.std.specs.Prelude.{ℕ, ◌+◌, min}

-- a number, where a list shows numbers up to most as they are and every larger one as most + 1
unfoldable pub shown : ℕ → ℕ → ℕ
shown most k = min k (most + 1)
