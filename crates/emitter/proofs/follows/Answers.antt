use mathlib.Core.Path.{ap, ◌∙◌}
use lib.Dec.{eqb}
use Prim.Native.Nat.{ℕ}
use Rattle.std.specs.Prelude.{Option, unwrap_or}
use Rattle.std.proofs.Common.{refl}
use Rattle.std.proofs.lemmas.Option.{unwrap_or-slice_get}
use Rattle.emitter.specs.Emitting.{follows_by}
use Rattle.emitter.proofs.follows.Goals as goal

pub returns-in_default : goal.returns-in_default
unfolding follows_by
returns-in_default c = rw c.in_default.is refl

pub returns : goal.returns
unfolding follows_by
returns c =
    rw c.in-Ok.is
    (ap (λ (x : ℕ). eqb x c.args.b)
    (c.unwrap_or.ensures ∙ ap (λ (o : Option ℕ). unwrap_or o 0) c.byte_at.ensures ∙ unwrap_or-slice_get c.args.text.now.now c.in-Ok.so.end 0))
