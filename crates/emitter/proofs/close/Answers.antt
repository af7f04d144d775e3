use Rattle.std.proofs.Common.{refl, sym, arith, rules, ◌≡◌, Err}
use Rattle.emitter.specs.Emitting.{closed}
use Rattle.emitter.proofs.FollowLaws.{byte_follows}
use Rattle.emitter.proofs.close.Goals as goal

pub returns-then-not-follows : goal.returns-then-not-follows
unfolding closed
returns-then-not-follows c = rw (c.in_ok-inner.was, ← c.follows.ensures, c.if-not-follows.true) refl

pub returns-in_err-inner : goal.returns-in_err-inner
unfolding closed
returns-in_err-inner c = let passed : c.from_residual.result ≡ Err c.in_err-inner.field-0.0 = search rules in rw (c.in_err-inner.was, passed) refl

pub overflow_add-result : goal.overflow_add-result
overflow_add-result c = let f = byte_follows _ _ _ (omega arith) (sym c.if-not-follows.ensures) in omega (arith, f.inside)

pub returns : goal.returns
unfolding closed
returns c = rw (c.in_ok-inner.was, ← c.follows.ensures, c.if-not-follows.false) refl
