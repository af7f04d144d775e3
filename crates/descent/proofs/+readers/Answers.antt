use Prim.Native.Nat.{◌+◌, ◌-◌}
use native.Mathlib.Omega.{arith}
use mathlib.Core.Path.{◌≡◌, sym, ◌∙◌}
use mathlib.Core.Logic.{◌≢◌}
use lib.ListN.{get_or}
use Rattle.std.specs.Prelude.{Err}
use Rattle.std.proofs.Common.{rules}
use Rattle.std.proofs.lemmas.Grind.{common_steps}
use Rattle.grammar.specs.Characters.{exclamation, opening}
use Rattle.scanner.proofs.PlaceLaws.{byte_some, byte_none, byte_inside}
use Rattle.descent.proofs.FactorLaws.{leaf_stores, not_joins, factor_of_leaf, factor_deep_not, factor_of_not, factor_deep_bracket, factor_of_bracket}
use Rattle.descent.proofs.JoinLaws.{factor_joins, product_start, product_refused, product_end, product_place, product_later, product_gives_up, product_goes_on, product_falls}
use Rattle.descent.proofs.JoinLaws.{product_joins, sum_start, sum_refused, sum_end, sum_place, sum_later, sum_gives_up, sum_goes_on, sum_falls}
use Rattle.descent.proofs.+readers.Goals.{factor-in_default-via-in-Some+in_default, factor-in_default-via-in_default}
use Rattle.descent.proofs.+readers.Goals as goal

pub factor-returns-then-left-eq0 : goal.factor-returns-then-left-eq0
factor-returns-then-left-eq0 t c =
    let b = byte_some c.args.text.now.now c.args.at c.byte_at.ensures c.in-Some-eq33.is in
    factor_deep_not c.args.inputs c.args.text.now.now c.args.at c.args.left c.args.made c.args.nodes.now _ (omega arith) (omega arith)

pub factor-factor-under-requires : goal.factor-factor-under-requires
factor-factor-under-requires t c =
    let b = byte_some c.args.text.now.now c.args.at c.byte_at.ensures c.in-Some-eq33.is in
    let h = byte_inside c.args.text.now.now c.args.at (omega arith) in
    omega (arith, h)

pub factor-negate-requires : goal.factor-negate-requires
factor-negate-requires t c =
    not_joins c.args.inputs c.args.text.now.now (c.args.at + 1) (c.args.left - 1) c.args.made _ c.args.nodes.now _ _ c.factor-under.ensures (omega arith) (omega arith) (omega (arith, c.factor-under.auto.nodes))

pub factor-returns-else-left-eq0 : goal.factor-returns-else-left-eq0
factor-returns-else-left-eq0 t c =
    let b = byte_some c.args.text.now.now c.args.at c.byte_at.ensures c.in-Some-eq33.is in
    factor_of_not c.args.inputs c.args.text.now.now c.args.at c.args.left c.args.made c.args.nodes.now _ (omega arith) c.if-left-eq0.false _ _ _ c.factor-under.ensures c.negate.ensures

pub factor-returns-then-left-eq0-2 : goal.factor-returns-then-left-eq0-2
factor-returns-then-left-eq0-2 t c =
    let b = byte_some c.args.text.now.now c.args.at c.byte_at.ensures c.in-Some-eq40.is in
    factor_deep_bracket c.args.inputs c.args.text.now.now c.args.at c.args.left c.args.made c.args.nodes.now _ (omega arith) (omega arith)

pub factor-sum-inner-requires : goal.factor-sum-inner-requires
factor-sum-inner-requires t c =
    let b = byte_some c.args.text.now.now c.args.at c.byte_at.ensures c.in-Some-eq40.is in
    let h = byte_inside c.args.text.now.now c.args.at (omega arith) in
    omega (arith, h)

pub factor-returns-else-left-eq0-2 : goal.factor-returns-else-left-eq0-2
factor-returns-else-left-eq0-2 t c =
    let b = byte_some c.args.text.now.now c.args.at c.byte_at.ensures c.in-Some-eq40.is in
    factor_of_bracket c.args.inputs c.args.text.now.now c.args.at c.args.left c.args.made c.args.nodes.now _ (omega arith) c.if-left-eq0-2.false _ c.sum-inner.ensures c.close.ensures

pub factor-store_leaf-requires : goal.factor-store_leaf-requires
factor-store_leaf-requires t c = leaf_stores c.args.inputs c.args.text.now.now c.args.at c.args.made _ _ c.read_leaf-leaf.ensures (omega arith) (omega arith) (omega arith)

pub factor-returns-in_default : goal.factor-returns-in_default
factor-returns-in_default t c =
    let other : (get_or c.args.text.now.now c.args.at 0 ≢ exclamation) × (get_or c.args.text.now.now c.args.at 0 ≢ opening) =
    elim c.in_default.branch [
      | factor-in_default-via-in-Some+in_default w ↦ (let b = byte_some c.args.text.now.now c.args.at c.byte_at.ensures w.in_default.is in (grind (arith, common_steps), grind (arith, common_steps)))
      | factor-in_default-via-in_default w ↦ (let b = byte_none c.args.text.now.now c.args.at c.byte_at.ensures w.in_default.is in (omega arith, omega arith))
    ] in
    factor_of_leaf c.args.inputs c.args.text.now.now c.args.at c.args.left c.args.made c.args.nodes.now _ other.0 other.1 _ _ (omega arith) c.read_leaf-leaf.ensures c.store_leaf.ensures

pub product-returns-in_err-so : goal.product-returns-in_err-so
product-returns-in_err-so t c =
    let passed : c.from_residual.result ≡ Err c.in_err-so.field-0.0 = search rules in
    rw passed (product_refused c.args.inputs c.args.text.now.now c.args.at c.args.left c.args.made c.args.nodes.now _ _ c.in_err-so.ensures)

pub product-loop-nodes-init : goal.product-loop-nodes-init
product-loop-nodes-init t c = (c.factor.auto.nodes, product_start c.args.inputs c.args.text.now.now c.args.at c.args.left c.args.made c.args.nodes.now _ _ c.in_ok-so.ensures)

pub product-factor-next-requires : goal.product-factor-next-requires
product-factor-next-requires t c =
    let x = sym c.follows.ensures ∙ c.loop-nodes-test.true in (
      let h = product_later c.args.inputs c.args.text.now.now c.args.at c.args.left c.args.made _ _ _ c.loop-nodes.invariant.1 x in omega (arith, h),
      product_place c.args.inputs c.args.text.now.now c.args.at c.args.left c.args.made _ _ _ c.loop-nodes.invariant.1 x (omega (arith, c.loop-nodes.invariant.0)),
    )

pub product-join-requires : goal.product-join-requires
product-join-requires t c =
    factor_joins c.args.inputs c.args.text.now.now c.args.at c.args.left c.args.made _ _ _ c.loop-nodes.invariant.1 (sym c.follows.ensures ∙ c.loop-nodes-test.true) _ _ c.factor-next.ensures
    (omega (arith, c.loop-nodes.invariant.0, c.factor-next.auto.nodes))

pub product-returns-in_err-so-2 : goal.product-returns-in_err-so-2
product-returns-in_err-so-2 t c =
    let passed : c.from_residual-in_err-so-2.result ≡ Err c.in_err-so-2.field-0.0 = search rules in
    rw passed (product_gives_up c.args.inputs c.args.text.now.now c.args.at c.args.left c.args.made c.args.nodes.now _ _ c.loop-nodes.invariant.1 (sym c.follows.ensures ∙ c.loop-nodes-test.true) _ _ _ _ c.factor-next.ensures (rw c.number.ensures at c.in_err-so-2.ensures))

pub product-loop-nodes-smaller : goal.product-loop-nodes-smaller
product-loop-nodes-smaller t c =
    product_falls c.args.inputs c.args.text.now.now c.args.at c.args.left c.args.made c.args.nodes.now _ _ c.loop-nodes.invariant.1 (sym c.follows.ensures ∙ c.loop-nodes-test.true) _ _ _ _ c.factor-next.ensures (rw c.number.ensures at c.in_ok-so-2.ensures)

pub product-loop-nodes-preserved : goal.product-loop-nodes-preserved
product-loop-nodes-preserved t c = (
  c.join.auto.nodes ∙ c.factor-next.auto.nodes ∙ c.loop-nodes.invariant.0,
  product_goes_on c.args.inputs c.args.text.now.now c.args.at c.args.left c.args.made c.args.nodes.now _ _ c.loop-nodes.invariant.1 (sym c.follows.ensures ∙ c.loop-nodes-test.true) _ _ _ _ c.factor-next.ensures (rw c.number.ensures at c.in_ok-so-2.ensures),
)

pub product-returns : goal.product-returns
product-returns t c = product_end c.args.inputs c.args.text.now.now c.args.at c.args.left c.args.made c.args.nodes.now _ _ c.loop-nodes.invariant.1 (sym c.follows.ensures ∙ c.loop-nodes-test.false)

pub sum-returns-in_err-so : goal.sum-returns-in_err-so
sum-returns-in_err-so t c =
    let passed : c.from_residual.result ≡ Err c.in_err-so.field-0.0 = search rules in
    rw passed (sum_refused c.args.inputs c.args.text.now.now c.args.at c.args.left c.args.made c.args.nodes.now _ _ c.in_err-so.ensures)

pub sum-loop-nodes-init : goal.sum-loop-nodes-init
sum-loop-nodes-init t c = (c.product.auto.nodes, sum_start c.args.inputs c.args.text.now.now c.args.at c.args.left c.args.made c.args.nodes.now _ _ c.in_ok-so.ensures)

pub sum-product-next-requires : goal.sum-product-next-requires
sum-product-next-requires t c =
    let x = sym c.follows.ensures ∙ c.loop-nodes-test.true in (
      let h = sum_later c.args.inputs c.args.text.now.now c.args.at c.args.left c.args.made _ _ _ c.loop-nodes.invariant.1 x in omega (arith, h),
      sum_place c.args.inputs c.args.text.now.now c.args.at c.args.left c.args.made _ _ _ c.loop-nodes.invariant.1 x (omega (arith, c.loop-nodes.invariant.0)),
    )

pub sum-join-requires : goal.sum-join-requires
sum-join-requires t c =
    product_joins c.args.inputs c.args.text.now.now c.args.at c.args.left c.args.made _ _ _ c.loop-nodes.invariant.1 (sym c.follows.ensures ∙ c.loop-nodes-test.true) _ _ c.product-next.ensures
    (omega (arith, c.loop-nodes.invariant.0, c.product-next.auto.nodes))

pub sum-returns-in_err-so-2 : goal.sum-returns-in_err-so-2
sum-returns-in_err-so-2 t c =
    let passed : c.from_residual-in_err-so-2.result ≡ Err c.in_err-so-2.field-0.0 = search rules in
    rw passed (sum_gives_up c.args.inputs c.args.text.now.now c.args.at c.args.left c.args.made c.args.nodes.now _ _ c.loop-nodes.invariant.1 (sym c.follows.ensures ∙ c.loop-nodes-test.true) _ _ _ _ c.product-next.ensures (rw c.number.ensures at c.in_err-so-2.ensures))

pub sum-loop-nodes-smaller : goal.sum-loop-nodes-smaller
sum-loop-nodes-smaller t c =
    sum_falls c.args.inputs c.args.text.now.now c.args.at c.args.left c.args.made c.args.nodes.now _ _ c.loop-nodes.invariant.1 (sym c.follows.ensures ∙ c.loop-nodes-test.true) _ _ _ _ c.product-next.ensures (rw c.number.ensures at c.in_ok-so-2.ensures)

pub sum-loop-nodes-preserved : goal.sum-loop-nodes-preserved
sum-loop-nodes-preserved t c = (
  c.join.auto.nodes ∙ c.product-next.auto.nodes ∙ c.loop-nodes.invariant.0,
  sum_goes_on c.args.inputs c.args.text.now.now c.args.at c.args.left c.args.made c.args.nodes.now _ _ c.loop-nodes.invariant.1 (sym c.follows.ensures ∙ c.loop-nodes-test.true) _ _ _ _ c.product-next.ensures (rw c.number.ensures at c.in_ok-so-2.ensures),
)

pub sum-returns : goal.sum-returns
sum-returns t c = sum_end c.args.inputs c.args.text.now.now c.args.at c.args.left c.args.made c.args.nodes.now _ _ c.loop-nodes.invariant.1 (sym c.follows.ensures ∙ c.loop-nodes-test.false)
