use Prim.Native.Nat.{ℕ, ◌/◌}
use native.Mathlib.Omega.{arith}
use mathlib.Core.Path.{◌≡◌, ap, ◌∙◌}
use mathlib.Core.Bool.{true}
use mathlib.Core.List.{List}
use lib.ListN.{length}
use Rattle.std.specs.Prelude.{Err}
use Rattle.std.proofs.Common.{rules}
use Rattle.refusal.specs.Answers.{answer_of}
use Rattle.wire.specs.Bytes.{at16}
use Rattle.contents.specs.Steps.{Laid}
use Rattle.program.specs.Reading.{lengths_fit}
use Rattle.program.proofs.ReadingLaws.{Sized, sized, head_long, node_refused, output_refused, bodies_read}
use Rattle.program.proofs.reader.read_bodies.Goals as goal

-- the bodies' lengths, by the test that held
order : {f : List ℕ} → Laid 3 f × (lengths_fit f ≡ true) → Sized f
order {f} p = sized f p.0 p.1

-- a number of the head
field : {a : ℕ} {b c : List ℕ} (i : ℕ) → a ≡ at16 b i → b ≡ c → a ≡ at16 c i
field i e is = e ∙ ap (λ (l : List ℕ). at16 l i) is

pub get16-inputs-requires : goal.get16-inputs-requires
get16-inputs-requires c = omega (arith, ap length c.body-head.ensures, head_long _ c.requires.0, (order c.requires).four)

pub get16-outputs-requires : goal.get16-outputs-requires
get16-outputs-requires c = omega (arith, ap length c.body-head.ensures, head_long _ c.requires.0, (order c.requires).four)

pub returns-in_err-read_nodes : goal.returns-in_err-read_nodes
returns-in_err-read_nodes c =
    let passed : c.from_residual.result ≡ Err c.in_err-read_nodes.field-0.0 = search rules in
    ap answer_of passed
    ∙ node_refused _ (order c.requires) (field 0 c.get16-inputs.ensures c.body-head.ensures) c.node_body.ensures c.read_nodes.ensures c.in_err-read_nodes.was

pub returns-in_err-read_outputs : goal.returns-in_err-read_outputs
returns-in_err-read_outputs c =
    let passed : c.from_residual-in_err-read_outputs.result ≡ Err c.in_err-read_outputs.field-0.0 = search rules in
    ap answer_of passed
    ∙ output_refused _ (order c.requires) (field 0 c.get16-inputs.ensures c.body-head.ensures) c.node_body.ensures c.read_nodes.ensures c.in_ok-read_nodes.was (ap (λ (l : ℕ). l / 6) c.entry_length.ensures) c.output_body.ensures c.read_outputs.ensures c.in_err-read_outputs.was

pub returns : goal.returns
returns c =
    bodies_read _ (order c.requires) (field 0 c.get16-inputs.ensures c.body-head.ensures) c.node_body.ensures c.read_nodes.ensures c.in_ok-read_nodes.was (ap (λ (l : ℕ). l / 6) c.entry_length.ensures) c.output_body.ensures c.read_outputs.ensures
    (field 2 c.get16-outputs.ensures c.body-head.ensures) c.in_ok-read_outputs.was
