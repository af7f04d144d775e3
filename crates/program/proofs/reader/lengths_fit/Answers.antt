use Prim.Native.Nat.{ℕ, ◌/◌, ◌%◌}
use native.Mathlib.Omega.{arith}
use mathlib.Core.Path.{◌≡◌, ap, sym, ◌∙◌}
use mathlib.Core.List.{List}
use mathlib.Core.Bool.{true, false≢true}
use lib.Dec.{leb}
use Rattle.contents.specs.Contents.{entry_length}
use borrow.Author.Tests.{eqb-true, leb-true}
use Rattle.std.proofs.lemmas.Bool.Decides.{nat_tests}
use Rattle.std.proofs.lemmas.Grind.{common_steps}
use Rattle.wire.specs.Bytes.{at16}
use Rattle.wire.specs.Limits.{most_nodes}
use Rattle.contents.specs.Arity.{outputs_of}
use lib.ListN.{length}
use Rattle.program.specs.Reading.{nodes_of, lengths_fit}
use Rattle.program.proofs.ReadingLaws.{head_long}
use Rattle.program.proofs.reader.lengths_fit.Goals.{then-nodes-eq0, else-nodes-eq0, then-nodes-ge1, else-nodes-ge1}
use Rattle.program.proofs.reader.lengths_fit.Goals as goal

pub get16-outputs-requires : goal.get16-outputs-requires
get16-outputs-requires c = omega (arith, ap length c.body.ensures, head_long _ c.requires, c.entry_length.ensures, c.if-entry_length-ne4.false)

pub returns-then-entry_length-ne4 : goal.returns-then-entry_length-ne4
unfolding lengths_fit
returns-then-entry_length-ne4 c = grind (arith, common_steps, nat_tests)

pub returns-then-nodes-le-MOST_NODES : goal.returns-then-nodes-le-MOST_NODES
unfolding lengths_fit
returns-then-nodes-le-MOST_NODES c =
    let tests : (c.if-nodes-eq0.value ≡ true) × (leb (nodes_of c.args.file.now) most_nodes ≡ true) =
    elim c.if-nodes-ge1.branch [ then-nodes-ge1 w ↦ (w.if-nodes-ge1.true, ap (λ (n : ℕ). leb (n / 6) most_nodes) (sym c.entry_length-nodes.ensures) ∙ sym w.value-is ∙ c.if-nodes-le-MOST_NODES.true) | else-nodes-ge1 w ↦ absurd (false≢true (sym w.if-nodes-ge1.false ∙ sym w.value-is ∙ c.if-nodes-le-MOST_NODES.true)) ] in
    let sixes : entry_length c.args.file.now 1 % 6 ≡ 0 =
    elim c.if-nodes-eq0.branch [ then-nodes-eq0 w ↦ omega (arith, c.entry_length-nodes.ensures, w.if-nodes-eq0.true) | else-nodes-eq0 w ↦ absurd (w.if-nodes-eq0.false (eqb-true _ _ (sym w.value-is ∙ tests.0))) ] in
    let most = leb-true _ _ tests.1 in
    let outputs : c.get16-outputs.result ≡ outputs_of c.args.file.now = c.get16-outputs.ensures ∙ ap (λ (l : List ℕ). at16 l 2) c.body.ensures in
    grind (arith, common_steps, nat_tests)

pub returns-else-nodes-le-MOST_NODES : goal.returns-else-nodes-le-MOST_NODES
unfolding lengths_fit
returns-else-nodes-le-MOST_NODES c = grind (arith, common_steps, nat_tests)
