use native.Mathlib.Omega.{arith}
use mathlib.Core.Path.{◌≡◌, sym, ap, ◌∙◌}
use Rattle.std.specs.Prelude.{Err}
use Rattle.std.proofs.Common.{rules}
use Rattle.refusal.specs.Answers.{answer_of}
use Rattle.compile.proofs.SizedLaws.{accepts, named, size_refused, shares_countable, grant_refused, lines_refused, room_refused, few_gates, head_fits, circuit_written}
use Rattle.compile.proofs.compile_sized.Goals as goal

pub node_body-nodes-requires : goal.node_body-nodes-requires
node_body-nodes-requires c = (accepts c.requires).sized.laid

pub output_body-outputs-requires : goal.output_body-outputs-requires
output_body-outputs-requires c = (accepts c.requires).sized.laid

pub check_sizes-requires : goal.check_sizes-requires
check_sizes-requires c = rw c.output_body-outputs.ensures (named c.requires)

pub returns-in_err-check_sizes : goal.returns-in_err-check_sizes
returns-in_err-check_sizes c =
    let passed : c.from_residual.result ≡ Err c.in_err-check_sizes.field-0.0 = search rules in
    let o = size_refused c.requires c.args.grant c.args.area.now c.node_body-nodes.ensures c.output_body-outputs.ensures c.check_sizes.result c.check_sizes.ensures c.in_err-check_sizes.was in
    record { result_value = ap answer_of passed ∙ o.answer; area_after = o.area_is }

pub returns-then-grant-gt-MOST_WORK : goal.returns-then-grant-gt-MOST_WORK
returns-then-grant-gt-MOST_WORK c =
    let o = grant_refused c.requires c.args.grant c.args.area.now c.node_body-nodes.ensures c.output_body-outputs.ensures c.check_sizes.result c.check_sizes.ensures c.in_ok-check_sizes.was (omega (arith, c.if-grant-gt-MOST_WORK.true)) in
    record { result_value = o.answer; area_after = o.area_is }

pub count_shares-needs-requires : goal.count_shares-needs-requires
count_shares-needs-requires c = shares_countable c.requires c.args.grant c.args.area.now c.node_body-nodes.ensures c.output_body-outputs.ensures c.check_sizes.result c.check_sizes.ensures c.in_ok-check_sizes.was

pub returns-then-grant-needs : goal.returns-then-grant-needs
returns-then-grant-needs c =
    let o = lines_refused c.requires c.args.grant c.args.area.now c.node_body-nodes.ensures c.output_body-outputs.ensures c.check_sizes.result c.check_sizes.ensures c.in_ok-check_sizes.was (omega (arith, c.if-grant-gt-MOST_WORK.false)) c.count_shares-needs.ensures (omega (arith, c.if-grant-needs.true)) in
    record { result_value = o.answer; area_after = o.area_is }

pub returns-then-not-has_room : goal.returns-then-not-has_room
returns-then-not-has_room c =
    let o = room_refused c.requires c.args.grant c.args.area.now c.node_body-nodes.ensures c.output_body-outputs.ensures c.check_sizes.result c.check_sizes.ensures c.in_ok-check_sizes.was (omega (arith, c.if-grant-gt-MOST_WORK.false)) c.count_shares-needs.ensures (omega (arith, c.if-grant-needs.false)) (sym c.has_room.ensures ∙ c.if-not-has_room.true) in
    record { result_value = o.answer; area_after = c.fill.ensures.after (λ y e. search rules) ∙ o.area_is }

pub write_circuit-requires : goal.write_circuit-requires
write_circuit-requires c =
    let room = sym c.has_room.ensures ∙ c.if-not-has_room.false in
    let few = few_gates c.requires c.args.grant c.args.area.now c.node_body-nodes.ensures c.output_body-outputs.ensures c.check_sizes.result c.check_sizes.ensures c.in_ok-check_sizes.was (omega (arith, c.if-grant-gt-MOST_WORK.false)) c.count_shares-needs.ensures (omega (arith, c.if-grant-needs.false)) room in
    head_fits c.requires c.args.grant c.args.area.now c.node_body-nodes.ensures c.output_body-outputs.ensures c.check_sizes.result c.check_sizes.ensures c.in_ok-check_sizes.was (omega (arith, c.if-grant-gt-MOST_WORK.false)) c.count_shares-needs.ensures (omega (arith, c.if-grant-needs.false)) room _ _ (omega (arith, c.if-grant-needs.false, c.if-grant-gt-MOST_WORK.false)) (omega (arith, c.if-grant-needs.false, c.if-grant-gt-MOST_WORK.false, few))

pub returns : goal.returns
returns c =
    let o = circuit_written c.requires c.args.grant c.args.area.now c.node_body-nodes.ensures c.output_body-outputs.ensures c.check_sizes.result c.check_sizes.ensures c.in_ok-check_sizes.was (omega (arith, c.if-grant-gt-MOST_WORK.false)) c.count_shares-needs.ensures (omega (arith, c.if-grant-needs.false)) (sym c.has_room.ensures ∙ c.if-not-has_room.false) c.write_circuit.ensures in
    record { result_value = o.answer; area_after = o.area_is }
