use Prim.Native.Nat.{ℕ}
use mathlib.Core.Path.{◌≡◌, ap, sym, ◌∙◌}
use mathlib.Core.Bool.{true, false}
use mathlib.Core.List.{List}
use native.Mathlib.Omega.{arith}
use lib.ListN.{length}
use lib.Dec.{leb}
use Rattle.wire.specs.Bytes.{at16}
use Rattle.wire.specs.Limits.{most_work}
use Rattle.contents.specs.Arity.{arity_fits}
use Rattle.contents.specs.Contents.{body_of}
use Rattle.contents.proofs.ContentsLaws.{body_there}
use Rattle.circuit.specs.Reading.{ranges_fit}
use Rattle.circuit.proofs.ReadingLaws.{head_long}
use Rattle.circuit.proofs.reader.ranges_fit.Goals as goal

pub body-head-requires : goal.body-head-requires
body-head-requires c = body_there c.requires.0 0 (omega arith)

pub arity_fits-requires : goal.arity_fits-requires
arity_fits-requires c = omega (arith, ap length c.body-head.ensures, head_long _ c.requires.0, c.requires.1)

pub get16-requires : goal.get16-requires
get16-requires c = omega (arith, ap length c.body-head.ensures, head_long _ c.requires.0, c.requires.1)

pub returns-then-arity_fits : goal.returns-then-arity_fits
unfolding ranges_fit
returns-then-arity_fits c =
    let counts : arity_fits (body_of c.args.file.now 0) ≡ true = ap arity_fits (sym c.body-head.ensures) ∙ sym c.arity_fits.ensures ∙ c.if-arity_fits.true in
    simp counts (ap (λ (w : ℕ). leb w most_work) (c.get16.ensures ∙ ap (λ (b : List ℕ). at16 b 4) c.body-head.ensures))

pub returns-else-arity_fits : goal.returns-else-arity_fits
unfolding ranges_fit
returns-else-arity_fits c =
    let counts : arity_fits (body_of c.args.file.now 0) ≡ false = ap arity_fits (sym c.body-head.ensures) ∙ sym c.arity_fits.ensures ∙ c.if-arity_fits.false in
    c.if-arity_fits.false ∙ simp counts
