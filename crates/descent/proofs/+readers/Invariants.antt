-- Remaining bytes fall from call to call, and where they stay the level of the grammar falls.
use Prim.Native.Nat.{◌+◌, ◌*◌, ◌-◌}
use mathlib.Core.Path.{◌≡◌}
use lib.ListN.{length}
use Rattle.descent.specs.Readers.{ProductSo, SumSo}
use Rattle.descent.proofs.JoinLaws.{bytes_left}
use Rattle.descent.proofs.+readers.Given as goal

abbrev pub decreases-factor : goal.decreases-factor
decreases-factor l = (length l.text.now.now - l.at) * 3

abbrev pub decreases-product : goal.decreases-product
decreases-product l = (length l.text.now.now - l.at) * 3 + 1

abbrev pub decreases-sum : goal.decreases-sum
decreases-sum l = (length l.text.now.now - l.at) * 3 + 2

abbrev pub invariant-product-loop-nodes : goal.invariant-product-loop-nodes
invariant-product-loop-nodes l = (length l.nodes ≡ length l.fn.nodes) × ProductSo l.inputs l.text.now l.at l.left l.made l.fn.nodes l.nodes l.so.end l.so.made

abbrev pub decreases-product-loop-nodes : goal.decreases-product-loop-nodes
decreases-product-loop-nodes l = bytes_left l.text.now l.so

abbrev pub invariant-sum-loop-nodes : goal.invariant-sum-loop-nodes
invariant-sum-loop-nodes l = (length l.nodes ≡ length l.fn.nodes) × SumSo l.inputs l.text.now l.at l.left l.made l.fn.nodes l.nodes l.so.end l.so.made

abbrev pub decreases-sum-loop-nodes : goal.decreases-sum-loop-nodes
decreases-sum-loop-nodes l = bytes_left l.text.now l.so
