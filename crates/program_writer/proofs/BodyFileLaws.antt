-- Laws of what stands around the nodes in a program file. Assumes nothing.
use Prim.Native.Nat.{ℕ, ◌+◌, ◌-◌, ◌/◌, ◌≤◌}
use native.Mathlib.Omega.{arith}
use mathlib.Core.Path.{◌≡◌, refl, ap, ◌∙◌}
use mathlib.Core.List.{List, [], ◌∷◌, ◌++◌}
use lib.ListN.{length, length-append}
use lib.Seq.{sets}
use Rattle.wire.specs.Bytes.{bytes16}
use Rattle.wire.proofs.ListLaws.{sets_then}
use Rattle.contents.specs.Contents.{table_length, contents_bytes}
use Rattle.contents.specs.Steps.{total}
use Rattle.contents.proofs.WrittenLaws.{contents_length}
use Rattle.program.specs.Format.{tags}
use Rattle.areas.specs.declared.table.Body.{Body}
use Rattle.areas.specs.Tables.{WritableTable}
use Rattle.program_writer.specs.OneOutput.{body_file, body_file_length, FewNodes}

-- the three bodies, with a node body of so many bytes
abbrev bodies : ℕ → List Body
bodies long = record { tag = 1; length = 4 } ∷ record { tag = 2; length = long } ∷ record { tag = 3; length = 2 } ∷ []

-- their table of contents can be written
pub table_writable : (n long room : ℕ) → FewNodes n long → body_file_length long ≤ room → WritableTable (bodies long) room
unfolding total
table_writable n long room f fits = record { few = omega arith; fits = omega arith; small = omega (arith, f.most) }

-- the stores of a file's parts, one after the other, are one run
pub file_stores : (area : List ℕ) (n : ℕ) (body : List ℕ) {l₁ l₂ l₃ l₄ l₅ : List ℕ}
    → l₁ ≡ sets area 0 (contents_bytes tags (4 ∷ length body ∷ 2 ∷ []))
    → l₂ ≡ sets l₁ (table_length 3) (bytes16 n)
    → l₃ ≡ sets l₂ (table_length 3 + 2) (bytes16 1)
    → l₄ ≡ sets l₃ (table_length 3 + 4) body
    → l₅ ≡ sets l₄ (table_length 3 + 4 + length body) (bytes16 (length body / 6 - 1))
    → l₅ ≡ sets area 0 (body_file n body)
unfolding body_file
file_stores area n body {l₁} {l₂} {l₃} {l₄} e₁ e₂ e₃ e₄ e₅ =
    let table : List ℕ = contents_bytes tags (4 ∷ length body ∷ 2 ∷ []) in
    let last : List ℕ = bytes16 (length body / 6 - 1) in
    let long : length table ≡ table_length 3 = contents_length tags (4 ∷ length body ∷ 2 ∷ []) refl in
    let numbers : l₃ ≡ sets l₁ (table_length 3) (bytes16 n ++ bytes16 1) =
    e₃ ∙ ap (λ (x : List ℕ). sets x (table_length 3 + 2) (bytes16 1)) e₂ ∙ sets_then l₁ (table_length 3) (table_length 3 + 2) (bytes16 n) (bytes16 1) refl in
    let nodes : sets l₄ (table_length 3 + 4 + length body) last ≡ sets l₃ (table_length 3 + 4) (body ++ last) =
    ap (λ (x : List ℕ). sets x (table_length 3 + 4 + length body) last) e₄ ∙ sets_then l₃ (table_length 3 + 4) (table_length 3 + 4 + length body) body last refl in
    e₅
    ∙ nodes
    ∙ ap (λ (x : List ℕ). sets x (table_length 3 + 4) (body ++ last)) numbers
    ∙ sets_then l₁ (table_length 3) (table_length 3 + 4) (bytes16 n ++ bytes16 1) (body ++ last) refl
    ∙ ap (λ (x : List ℕ). sets x (table_length 3) ((bytes16 n ++ bytes16 1) ++ (body ++ last))) e₁
    ∙ sets_then area 0 (table_length 3) table ((bytes16 n ++ bytes16 1) ++ (body ++ last)) (omega (arith, long))

-- and its length
pub body_file_length_lem : (n : ℕ) (body : List ℕ) → length (body_file n body) ≡ body_file_length (length body)
unfolding body_file
body_file_length_lem n body =
    let table : List ℕ = contents_bytes tags (4 ∷ length body ∷ 2 ∷ []) in
    let last : List ℕ = bytes16 (length body / 6 - 1) in
    omega (arith, length-append table ((bytes16 n ++ bytes16 1) ++ (body ++ last)), contents_length tags (4 ∷ length body ∷ 2 ∷ []) refl, length-append body last)
