use Prim.Native.Nat.{ℕ}
use native.Mathlib.Omega.{arith}
use mathlib.Core.Path.{refl}
use lib.ListN.{length-replicate}
use Rattle.wire.specs.Limits.{most_gates, most_nodes}
use Rattle.circuit.specs.Format.{file_length}
use Rattle.list.proofs.CompiledLaws.{can_list, lists}
use Rattle.list.proofs.list.Goals as goal

pub put_listing-requires : goal.put_listing-requires
put_listing-requires c = can_list _ _ _ _ _ _ _ c.compile-answer.ensures.result_value c.compile-answer.ensures.area_after (omega arith)

-- part by part, so that a wrong answer is refused as such
pub returns : goal.returns
returns c =
    let e = c.compile-answer.ensures in
    let w = lists c.args.input.now c.args.grant _ _ _ _ _ e.result_value e.area_after (omega arith) (length-replicate {A = ℕ} most_nodes 0) (length-replicate {A = ℕ} (file_length most_gates) 0) refl c.put_listing.ensures in
    (w.0, w.1)
