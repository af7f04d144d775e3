-- A law of filling the value list: what is filled are bits. Assumes nothing.
use Prim.Native.Nat.{ℕ, ◌<◌}
use mathlib.Core.Path.{◌≡◌}
use mathlib.Core.List.{List, map}
use lib.ListN.{length, get_or}
use Rattle.wire.specs.Bits.{Bits}
use Rattle.node.specs.Exprs.{Expr, ZERO, value}
use Rattle.node.proofs.ValueLaws.{value_bit}
use Rattle.filling.proofs.FillLaws.{item_is}

-- where a list has the values of trees on the input bits x, each is a bit
pub item_bit : (x : List ℕ) → Bits x → {list : List ℕ} (ts : List Expr) → list ≡ map (λ e. value e x) ts → (a : ℕ) → a < length list → get_or list a 0 < 2
item_bit x bits ts e a h = rw (item_is (λ e. value e x) ts e a 0 h) (value_bit (get_or ts a ZERO) x bits)
