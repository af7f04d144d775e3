use Prim.Native.Nat.{ℕ, ◌/◌}
use mathlib.Core.Path.{◌≡◌, ap, ◌∙◌}
use mathlib.Core.List.{List}
use native.Mathlib.Omega.{arith}
use lib.ListN.{length}
use Rattle.circuit.specs.Format.{head_length}
use Rattle.circuit.proofs.ReadingLaws.{head_long, head_read}
use Rattle.wire.specs.Bytes.{at16}
use Rattle.contents.proofs.ContentsLaws.{body_there}
use Rattle.circuit.proofs.reader.head_in.Goals as goal

pub body-head-requires : goal.body-head-requires
body-head-requires c = body_there c.requires.0 0 (omega arith)

pub get16-requires : goal.get16-requires
get16-requires c =
    let long : length c.body-head.result.now ≡ head_length = ap (λ (l : List ℕ). length l) c.body-head.ensures ∙ head_long c.args.file.now c.requires.0 ∙ c.requires.1 in
    omega (arith, long)

pub get16-requires-2 : goal.get16-requires-2
get16-requires-2 c =
    let long : length c.body-head.result.now ≡ head_length = ap (λ (l : List ℕ). length l) c.body-head.ensures ∙ head_long c.args.file.now c.requires.0 ∙ c.requires.1 in
    omega (arith, long)

pub get16-requires-3 : goal.get16-requires-3
get16-requires-3 c =
    let long : length c.body-head.result.now ≡ head_length = ap (λ (l : List ℕ). length l) c.body-head.ensures ∙ head_long c.args.file.now c.requires.0 ∙ c.requires.1 in
    omega (arith, long)

pub returns : goal.returns
returns c = let is = c.body-head.ensures in
    head_read c.args.file.now
    (c.get16.ensures ∙ ap (λ (b : List ℕ). at16 b 0) is)
    (c.get16-2.ensures ∙ ap (λ (b : List ℕ). at16 b 2) is)
    (c.get16-3.ensures ∙ ap (λ (b : List ℕ). at16 b 4) is)
    (ap (λ (n : ℕ). n / 8) c.entry_length.ensures)
