-- Laws of lent areas and lists. Assumes nothing.
use Prim.Native.Nat.{ℕ, ◌+◌, ◌<◌, ◌≤◌}
use native.Mathlib.Omega.{arith}
use native.Mathlib.Nat.{add-zero, zero-add}
use native.Mathlib.Numerals.{add-one}
use mathlib.Core.Path.{◌≡◌, refl, sym, ap, ◌∙◌}
use mathlib.Core.Logic.{◌≢◌}
use mathlib.Core.List.{List, ◌++◌, append-nil}
use lib.ListN.{length, get_or, set, take, drop, replicate, length-set, length-replicate, get_or-replicate, drop_of_length-le}
use lib.Seq.{sets, sets-eq, paste, take_all}
use borrow.Rule.Slice.PartMut.{put_mid}
use Rattle.std.proofs.lemmas.Slice.{put_mid-paste}
use borrow.Author.Tests.{ne_eqb}
use Rattle.refusal.specs.Answers.{result, refused}
use Rattle.wire.specs.Areas.{area_after}
use Rattle.wire.proofs.ListLaws.{drop_next}
use Rattle.wire.proofs.FillLaws.{Filled, filled_next, filled_all}

-- bytes that are stored at the start of an area leave it as a result does
pub area_written : (bytes area : List ℕ) {after : List ℕ} → length bytes ≤ length area → after ≡ sets area 0 bytes → after ≡ area_after (result bytes) area
area_written bytes area room e = e ∙ sets-eq bytes area 0 (omega arith) ∙ ap (λ (n : ℕ). bytes ++ drop n area) (zero-add (length bytes))

-- bytes that are copied into a part of an area, with k the length of the part, leave the area with the bytes stored there
pub part_stored : (bytes area : List ℕ) (at k : ℕ) {copied : List ℕ} → copied ≡ bytes → k ≡ length bytes → at + length bytes ≤ length area → put_mid at k area copied ≡ sets area at bytes
part_stored bytes area at k {copied} e l room =
    put_mid-paste at k area copied bytes k e refl l
    ∙ ap (paste area at bytes) l
    ∙ ap (λ (b : List ℕ). take at area ++ b ++ drop (at + length bytes) area) (take_all (length bytes) bytes (omega arith))
    ∙ sym (sets-eq bytes area at room)

-- a refusal other than 11 leaves the area as it was
pub area_kept : (n p : ℕ) (area : List ℕ) → n ≢ 11 → area_after (refused n p) area ≡ area
area_kept n p area h = rw (ne_eqb n 11 h)

-- a loop stores zero in the first k numbers of a list
module _ (k : ℕ) {list₀ list : List ℕ} {i : ℕ} (p : Filled (replicate k 0) list₀ list i) where
  zeros_count : length {A = ℕ} (replicate k 0) ≡ k
  zeros_count = length-replicate {A = ℕ} k 0

  pub cleared_next : i < k → k ≤ length list₀ → Filled (replicate k 0) list₀ (set list i 0) (i + 1)
  cleared_next h fits = filled_next p 0 (sym (get_or-replicate k i 0 0 h)) (omega (arith, zeros_count)) (omega (arith, zeros_count))

  pub cleared_all : k ≤ i → list ≡ replicate k 0 ++ drop k list₀
  cleared_all h = filled_all p (omega (arith, zeros_count)) ∙ ap (λ (n : ℕ). replicate k 0 ++ drop n list₀) zeros_count

-- and in every one of them
pub cleared_whole : {list₀ list : List ℕ} {i : ℕ} → Filled (replicate (length list₀) 0) list₀ list i → length list₀ ≤ i → list ≡ replicate (length list₀) 0
cleared_whole {list₀} p h =
    cleared_all (length list₀) p h
    ∙ ap (λ (l : List ℕ). replicate (length list₀) 0 ++ l) (drop_of_length-le list₀ {i = length list₀} (omega arith))
    ∙ append-nil (replicate (length list₀) 0)

-- a loop has stored the first i of some bytes, the first at index at
pub record StoredTo (bytes area₀ : List ℕ) (at : ℕ) (area : List ℕ) (i : ℕ) : Type 0 where
  pub within : i ≤ length bytes
  pub same : length area ≡ length area₀
  pub left : sets area (at + i) (drop i bytes) ≡ sets area₀ at bytes

module _ (bytes area₀ : List ℕ) (at : ℕ) where
  pub stored_start : StoredTo bytes area₀ at area₀ 0
  stored_start = record { within = omega arith; same = refl; left = ap (λ (k : ℕ). sets area₀ k bytes) (add-zero at) }

  module _ {area : List ℕ} {i : ℕ} (p : StoredTo bytes area₀ at area i) where
    pub stored_next : i < length bytes → StoredTo bytes area₀ at (set area (at + i) (get_or bytes i 0)) (i + 1)
    stored_next h =
        let e : at + (i + 1) ≡ at + i + 1 = omega arith in
        record {
          within = omega arith;
          same = length-set area (at + i) (get_or bytes i 0) ∙ p.same;
          left =
              ap (λ (k : ℕ). sets (set area (at + i) (get_or bytes i 0)) k (drop (i + 1) bytes)) (e ∙ add-one (at + i))
              ∙ ap (sets area (at + i)) (sym (drop_next bytes i 0 h))
              ∙ p.left;
        }

    pub stored_all : length bytes ≤ i → area ≡ sets area₀ at bytes
    stored_all h = sym (ap (sets area (at + i)) (drop_of_length-le bytes h)) ∙ p.left
