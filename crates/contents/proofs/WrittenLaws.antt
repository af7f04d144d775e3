-- Laws of a written table of contents: it reads back, and a table in order is the writing of what it says. Assumes nothing.
use Prim.Native.Nat.{ℕ, zero, suc, ◌+◌, ◌*◌, ◌<◌, ◌≤◌}
use native.Mathlib.Omega.{arith}
use native.Mathlib.Nat.{add-zero, zero-add, add_assoc}
use mathlib.Core.Path.{◌≡◌, refl, sym, ap, ap₂, ◌∙◌}
use mathlib.Core.Bool.{true, ◌&&◌}
use mathlib.Core.List.{List, [], ◌∷◌, ◌++◌, append_assoc, flat_map}
use lib.ListN.{length, get_or, take, drop, length-append, take-append-drop, drop_of_length-le}
use lib.Seq.{drop-drop, drop-append-add}
use lib.Dec.{eqb, leb}
use borrow.Author.Tests.{eqb-true, eq-eqb, le-leb}
use Rattle.wire.specs.Bytes.{at16, bytes16, bytes32, Bytes}
use Rattle.contents.specs.Contents.{table_length, table_fits, entry_tag, entry_start, entry_length, body_of, entries_from, entries_fit, entries_bytes, contents_bytes}
use Rattle.contents.specs.Steps.{total}
use Rattle.wire.specs.Lists.{tabulate_from, tabulate}
use Rattle.wire.proofs.ByteLaws.{number16, number32, at16_in, at32_after, drop16, drop32}
use Rattle.refusal.proofs.CheckLaws.{both_first, both_second}
use Rattle.contents.proofs.ContentsLaws.{Entry, entry_first, entries_end, table_whole}

-- each entry takes 10 bytes
entries_length : (tags lengths : List ℕ) (start : ℕ) → length lengths ≡ length tags → length (entries_bytes tags lengths start) ≡ 10 * length tags
unfolding entries_bytes
entries_length [] ls start e = refl
entries_length (t ∷ ts) [] start e = absurd (omega arith)
entries_length (t ∷ ts) (l ∷ ls) start e = omega (arith, entries_length ts ls (start + l) (omega arith))

-- a written table is as long as a table of so many entries
pub contents_length : (tags lengths : List ℕ) → length lengths ≡ length tags → length (contents_bytes tags lengths) ≡ table_length (length tags)
unfolding contents_bytes
contents_length tags lengths e = omega (arith, entries_length tags lengths (table_length (length tags)) e)

-- the bytes of one entry
abbrev entry : ℕ → ℕ → ℕ → List ℕ
entry t start l = bytes16 t ++ (bytes32 start ++ bytes32 l)

-- the entries of these tags and lengths stand between pre and rest, and their bodies end with the file
record Stand (tags lengths pre rest : List ℕ) (i start : ℕ) : Type 0 where
  placed : length pre ≡ 2 + 10 * i
  paired : length lengths ≡ length tags
  tagged : (j : ℕ) → get_or tags j 0 < 65536
  small : start + total lengths < 4294967296
  ends : length pre + 10 * length tags + length rest ≡ start + total lengths

-- the file in which they stand there
abbrev file_with : List ℕ → List ℕ → List ℕ → List ℕ → ℕ → List ℕ
file_with tags lengths pre rest start = pre ++ (entries_bytes tags lengths start ++ rest)

module _ {t l : ℕ} {ts ls pre rest : List ℕ} {i start : ℕ} (r : Stand (t ∷ ts) (l ∷ ls) pre rest i start) where
  -- behind the first entry stand the others
  stand_next : Stand ts ls (pre ++ entry t start l) rest (suc i) (start + l)
  unfolding total
  stand_next =
      let n : length (pre ++ entry t start l) ≡ length pre + 10 = length-append pre (entry t start l) in
      record {
        placed = omega arith;
        paired = omega arith;
        tagged = λ j. r.tagged (suc j);
        small = omega arith;
        ends = omega arith;
      }

  -- in the same file
  stand_same : file_with ts ls (pre ++ entry t start l) rest (start + l) ≡ file_with (t ∷ ts) (l ∷ ls) pre rest start
  unfolding entries_bytes
  stand_same = append_assoc pre (entry t start l) (entries_bytes ts ls (start + l) ++ rest)

  -- the first entry reads back
  stand_tag : entry_tag (file_with (t ∷ ts) (l ∷ ls) pre rest start) i ≡ t
  unfolding entries_bytes
  stand_tag = rw (← r.placed) (at16_in pre (bytes32 start ++ (bytes32 l ++ (entries_bytes ts ls (start + l) ++ rest))) t (r.tagged 0))

  stand_start : entry_start (file_with (t ∷ ts) (l ∷ ls) pre rest start) i ≡ start
  unfolding entries_bytes
  stand_start = rw (← r.placed) (at32_after pre (entries_bytes (t ∷ ts) (l ∷ ls) start ++ rest) 2 ∙ number32 start (omega arith))

  stand_length : entry_length (file_with (t ∷ ts) (l ∷ ls) pre rest start) i ≡ l
  unfolding entries_bytes total
  stand_length = rw (← r.placed) (at32_after pre (entries_bytes (t ∷ ts) (l ∷ ls) start ++ rest) 6 ∙ number32 l (omega arith))

-- the entries are found in order
stand_fits : (ts ls : List ℕ) {pre rest : List ℕ} {i start : ℕ} → Stand ts ls pre rest i start → entries_from ts i start (file_with ts ls pre rest start) ≡ true
unfolding entries_from entries_bytes total
stand_fits [] [] {pre} {rest} {start = start} r = eq-eqb start (length (pre ++ rest)) (omega (arith, length-append pre rest))
stand_fits [] (l ∷ ls) r = absurd (omega arith)
stand_fits (t ∷ ts) [] r = absurd (omega arith)
stand_fits (t ∷ ts) (l ∷ ls) r = rw (eq-eqb _ _ (stand_tag r), eq-eqb _ _ (stand_start r), stand_length r, ← stand_same r) (stand_fits ts ls (stand_next r))

-- where entry i says that its body starts, and how long it says that it is
record Told (f : List ℕ) (i start l : ℕ) : Type 0 where
  starts : entry_start f i ≡ start
  long : entry_length f i ≡ l

-- each entry reads back
stand_told : (ts ls : List ℕ) {pre rest : List ℕ} {i start : ℕ} → Stand ts ls pre rest i start → (j : ℕ) → j < length ts
    → Told (file_with ts ls pre rest start) (i + j) (start + total (take j ls)) (get_or ls j 0)
unfolding total
stand_told [] ls r j h = absurd (omega arith)
stand_told (t ∷ ts) [] r j h = absurd (omega arith)
stand_told (t ∷ ts) (l ∷ ls) {i = i} {start = start} r zero h = rw (add-zero i, add-zero start) (record { starts = stand_start r; long = stand_length r })
stand_told (t ∷ ts) (l ∷ ls) {i = i} {start = start} r (suc j) h =
    let n : i + suc j ≡ suc i + j = omega arith in
    rw (n, ← add_assoc start l (total (take j ls)), ← stand_same r) (stand_told ts ls (stand_next r) j (omega arith))

-- a written table whose numbers fit their fields, with the bodies behind it
pub record Whole (tags lengths rest : List ℕ) : Type 0 where
  pub paired : length lengths ≡ length tags
  pub few : length tags < 65536
  pub tagged : (i : ℕ) → get_or tags i 0 < 65536
  pub small : table_length (length tags) + total lengths < 4294967296
  pub bodies : length rest ≡ total lengths

module _ {tags lengths rest : List ℕ} (w : Whole tags lengths rest) where
  -- its entries stand behind their number
  whole_stand : Stand tags lengths (bytes16 (length tags)) rest 0 (table_length (length tags))
  whole_stand = record { placed = refl; paired = w.paired; tagged = w.tagged; small = w.small; ends = omega arith }

  -- the table is found whole
  pub table_back : table_fits (length tags) (contents_bytes tags lengths ++ rest) ≡ true
  unfolding table_fits contents_bytes
  table_back =
      let f : List ℕ = contents_bytes tags lengths ++ rest in
      let n : length f ≡ table_length (length tags) + length rest = omega (arith, length-append (contents_bytes tags lengths) rest, contents_length tags lengths w.paired) in
      rw
      (le-leb 2 (length f) (omega arith), eq-eqb (at16 f 0) (length tags) (number16 (length tags) w.few), le-leb (table_length (length tags)) (length f) (omega arith))
      refl

  -- its entries are found in order
  pub entries_back : entries_fit tags (contents_bytes tags lengths ++ rest) ≡ true
  unfolding entries_fit contents_bytes
  entries_back = stand_fits tags lengths whole_stand

  told_back : (i : ℕ) → i < length tags → Told (contents_bytes tags lengths ++ rest) i (table_length (length tags) + total (take i lengths)) (get_or lengths i 0)
  unfolding contents_bytes
  told_back i h = rw zero-add at (stand_told tags lengths whole_stand i h)

  -- body i starts where the bodies before it end
  pub start_back : (i : ℕ) → i < length tags → entry_start (contents_bytes tags lengths ++ rest) i ≡ table_length (length tags) + total (take i lengths)
  start_back i h = (told_back i h).starts

  -- body i is as long as was written
  pub length_back : (i : ℕ) → i < length tags → entry_length (contents_bytes tags lengths ++ rest) i ≡ get_or lengths i 0
  length_back i h = (told_back i h).long

  -- and holds what was written there
  pub body_back : (i : ℕ) → i < length tags → body_of (contents_bytes tags lengths ++ rest) i ≡ take (get_or lengths i 0) (drop (total (take i lengths)) rest)
  body_back i h =
      let f : List ℕ = contents_bytes tags lengths ++ rest in
      let before : ℕ = total (take i lengths) in
      ap₂ (λ (n at : ℕ). take n (drop at f)) (length_back i h) (start_back i h)
      ∙ ap (λ (n : ℕ). take (get_or lengths i 0) (drop (n + before) f)) (sym (contents_length tags lengths w.paired))
      ∙ ap (take (get_or lengths i 0)) (drop-append-add (contents_bytes tags lengths) rest before)

module _ (f : List ℕ) (bytes : Bytes f) where
  -- an entry is the writing of its fields
  only_entry : (i : ℕ) → 2 + 10 * i + 10 ≤ length f
      → drop (2 + 10 * i) f ≡ entry (entry_tag f i) (entry_start f i) (entry_length f i) ++ drop (2 + 10 * i + 10) f
  only_entry i h =
      let a : 2 + 10 * i + 2 + 4 ≡ 2 + 10 * i + 6 = omega arith in
      let b : 2 + 10 * i + 6 + 4 ≡ 2 + 10 * i + 10 = omega arith in
      rw (drop16 f bytes (2 + 10 * i) (omega arith), drop32 f bytes (2 + 10 * i + 2) (omega arith), a, drop32 f bytes (2 + 10 * i + 6) (omega arith), b)

  -- and so are those whose tags and starts are right
  only_entries : (ts : List ℕ) (i start : ℕ) → entries_from ts i start f ≡ true → 2 + 10 * i + 10 * length ts ≤ length f
      → drop (2 + 10 * i) f ≡ entries_bytes ts (tabulate_from (entry_length f) i (length ts)) start ++ drop (2 + 10 * i + 10 * length ts) f
  unfolding entries_bytes tabulate_from
  only_entries [] i start e h = ap (λ (k : ℕ). drop k f) (sym (add-zero (2 + 10 * i)))
  only_entries (t ∷ ts) i start e h =
      let first : Entry f t i start ts = entry_first t ts i start f e in
      let n : 2 + 10 * i + 10 ≡ 2 + 10 * suc i = omega arith in
      let m : 2 + 10 * i + 10 * suc (length ts) ≡ 2 + 10 * suc i + 10 * length ts = omega arith in
      rw (only_entry i (omega arith), first.tag, first.starts, n, m)
      (ap (λ (s : List ℕ). entry t start (entry_length f i) ++ s) (only_entries ts (suc i) (start + entry_length f i) first.behind (omega arith)))

-- k bodies, from body i on, one behind the other
abbrev pub bodies_from : List ℕ → ℕ → ℕ → List ℕ
bodies_from f i k = flat_map (body_of f) (tabulate_from (λ (j : ℕ). j) i k)

-- the bodies of entries in order are all that stands from the first one's start on
only_bodies : (f ts : List ℕ) (i start : ℕ) → entries_from ts i start f ≡ true → drop start f ≡ bodies_from f i (length ts)
unfolding flat_map tabulate_from
only_bodies f [] i start e = drop_of_length-le f {i = start} (omega (arith, entries_end i start f e))
only_bodies f (t ∷ ts) i start e =
    let first : Entry f t i start ts = entry_first t ts i start f e in
    sym (take-append-drop (entry_length f i) (drop start f))
    ∙ ap₂ ◌++◌
    (ap (λ (at : ℕ). take (entry_length f i) (drop at f)) (sym first.starts))
    (drop-drop (entry_length f i) start f ∙ only_bodies f ts (suc i) (start + entry_length f i) first.behind)

-- the number of entries is k
table_count : (k : ℕ) (f : List ℕ) → table_fits k f ≡ true → at16 f 0 ≡ k
unfolding table_fits
table_count k f e =
    eqb-true (at16 f 0) k
    (both_first (eqb (at16 f 0) k) (leb (table_length k) (length f))
    (both_second (leb 2 (length f)) (eqb (at16 f 0) k && leb (table_length k) (length f)) e))

-- a list of bytes whose table is in order is the writing of the lengths that it says, and the bodies
pub only_contents : (tags f : List ℕ) → Bytes f → table_fits (length tags) f ≡ true → entries_fit tags f ≡ true
    → f ≡ contents_bytes tags (tabulate (entry_length f) (length tags)) ++ bodies_from f 0 (length tags)
unfolding entries_fit contents_bytes
only_contents tags f bytes e g =
    let h : table_length (length tags) ≤ length f = table_whole (length tags) f e in
    let lengths : List ℕ = tabulate (entry_length f) (length tags) in
    drop16 f bytes 0 (omega arith)
    ∙ ap (λ (n : ℕ). bytes16 n ++ drop 2 f) (table_count (length tags) f e)
    ∙ ap (λ (s : List ℕ). bytes16 (length tags) ++ s) (only_entries f bytes tags 0 (table_length (length tags)) g (omega arith))
    ∙ ap (λ (s : List ℕ). contents_bytes tags lengths ++ s) (only_bodies f tags 0 (table_length (length tags)) g)
