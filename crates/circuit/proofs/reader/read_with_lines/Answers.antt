use Prim.Native.Nat.{ℕ}
use mathlib.Core.Path.{◌≡◌, sym, ap, ◌∙◌}
use Rattle.std.specs.Prelude.{Err}
use Rattle.std.proofs.Common.{rules}
use Rattle.refusal.specs.Answers.{answer_of}
use Rattle.wire.specs.Bits.{bits_fit}
use Rattle.circuit.specs.Circuits.{head_lines}
use Rattle.circuit.proofs.AcceptedLaws.{circuit_passed, good_lines_most, lines_bad, lines_good}
use Rattle.circuit.proofs.reader.read_with_lines.Goals as goal

pub returns-in_err-head : goal.returns-in_err-head
returns-in_err-head c =
    let passed : c.from_residual.result ≡ Err c.in_err-head.field-0.0 = search rules in
    ap answer_of passed ∙ circuit_passed _ c.args.lines.now c.read_circuit.ensures c.in_err-head.was

pub line_count-requires : goal.line_count-requires
line_count-requires c = good_lines_most _ c.args.lines.now c.read_circuit.ensures c.in_ok-head.was

pub returns-then-not-bits_fit : goal.returns-then-not-bits_fit
returns-then-not-bits_fit c =
    let test : bits_fit (head_lines c.in_ok-head.head) c.args.lines.now ≡ c.bits_fit.result = ap (λ (n : ℕ). bits_fit n c.args.lines.now) (sym c.line_count.ensures) ∙ sym c.bits_fit.ensures in
    lines_bad _ c.args.lines.now c.read_circuit.ensures c.in_ok-head.was (test ∙ c.if-not-bits_fit.true)

pub returns : goal.returns
returns c =
    let test : bits_fit (head_lines c.in_ok-head.head) c.args.lines.now ≡ c.bits_fit.result = ap (λ (n : ℕ). bits_fit n c.args.lines.now) (sym c.line_count.ensures) ∙ sym c.bits_fit.ensures in
    lines_good _ c.args.lines.now c.read_circuit.ensures c.in_ok-head.was (test ∙ c.if-not-bits_fit.false)
