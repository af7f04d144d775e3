-- Laws of the byte that follows what was read. Assumes nothing.
use Prim.Native.Nat.{ℕ, ◌≤◌, ◌<◌}
use native.Mathlib.Omega.{arith}
use mathlib.Core.Path.{◌≡◌}
use mathlib.Core.Logic.{◌≢◌}
use mathlib.Core.Bool.{true, false}
use mathlib.Core.List.{List}
use lib.ListN.{length, get_or}
use borrow.Author.Tests.{eqb-true, eqb-false}
use Rattle.std.specs.Prelude.{Ok}
use Rattle.scanner.proofs.PlaceLaws.{byte_inside}
use Rattle.emitter.specs.declared.Part.{Part}
use Rattle.emitter.specs.Emitting.{follows_by}

module _ (text : List ℕ) (so : Part) (b : ℕ) where
  -- the byte stands behind what was read
  pub record Follows : Type 0 where
    pub inside : so.end < length text
    pub is : get_or text so.end 0 ≡ b

  pub byte_follows : 1 ≤ b → follows_by text (Ok so) b ≡ true → Follows
  unfolding follows_by
  byte_follows some e =
      let is : get_or text so.end 0 ≡ b = eqb-true (get_or text so.end 0) b e in
      record { inside = byte_inside text so.end (omega arith); is = is }

  -- or another does, or none
  pub byte_differs : 1 ≤ b → follows_by text (Ok so) b ≡ false → get_or text so.end 0 ≢ b
  unfolding follows_by
  byte_differs some e = eqb-false (get_or text so.end 0) b e
