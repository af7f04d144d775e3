use Rattle.std.proofs.Common.{arith}
use Rattle.std.proofs.lemmas.Grind.{common_steps}
use Rattle.scanner.proofs.PlaceLaws.{byte_some, byte_none}
use Rattle.scanner.proofs.LeafLaws.{leaf_bad, leaf_zero, leaf_one, leaf_number}
use Rattle.scanner.proofs.read_leaf.Goals.{then-b-eq48, else-b-eq48}
use Rattle.scanner.proofs.read_leaf.Goals as goal

pub returns-in-Some-eq120 : goal.returns-in-Some-eq120
returns-in-Some-eq120 c = let b = byte_some c.args.text.now.now c.args.at c.byte_at.ensures c.in-Some-eq120.is in
    leaf_number c.args.inputs c.args.text.now.now c.args.at c.args.made (omega arith) _ c.number.ensures

pub returns-after-b-eq48 : goal.returns-after-b-eq48
returns-after-b-eq48 c =
    let b = byte_some c.args.text.now.now c.args.at c.byte_at.ensures c.in-Some-48-to-49.is in
    let number = c.number-in-Some-48-to-49.ensures in
    elim c.if-b-eq48.branch [
      | then-b-eq48 w ↦ rw (number, w.kind-is) (leaf_zero c.args.inputs c.args.text.now.now c.args.at c.args.made (omega arith))
      | else-b-eq48 w ↦ rw (number, w.kind-is) (leaf_one c.args.inputs c.args.text.now.now c.args.at c.args.made (omega arith))
    ]

pub returns-in_default : goal.returns-in_default
returns-in_default c =
    let b = byte_some c.args.text.now.now c.args.at c.byte_at.ensures c.in_default.is in
    leaf_bad c.args.inputs c.args.text.now.now c.args.at c.args.made (omega arith) (grind (arith, common_steps)) (grind (arith, common_steps)) (grind (arith, common_steps))

pub returns-in_default-2 : goal.returns-in_default-2
returns-in_default-2 c =
    let b = byte_some c.args.text.now.now c.args.at c.byte_at.ensures c.in_default.is in
    leaf_bad c.args.inputs c.args.text.now.now c.args.at c.args.made (omega arith) (grind (arith, common_steps)) (grind (arith, common_steps)) (grind (arith, common_steps))

pub returns-in_default-3 : goal.returns-in_default-3
returns-in_default-3 c = let b = byte_none c.args.text.now.now c.args.at c.byte_at.ensures c.in_default.is in
    leaf_bad c.args.inputs c.args.text.now.now c.args.at c.args.made (omega arith) (omega arith) (omega arith) (omega arith)
