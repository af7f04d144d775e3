-- Laws of the table of contents. Assumes nothing.
use Prim.Native.Nat.{ℕ, suc, ◌+◌, ◌<◌, ◌≤◌}
use native.Mathlib.Omega.{arith}
use mathlib.Core.Path.{◌≡◌, refl, sym, ap, ◌∙◌}
use mathlib.Core.Bool.{Bool, true, false, ◌&&◌}
use mathlib.Core.List.{List, [], ◌∷◌}
use lib.ListN.{length, get_or, drop, length-take, length-drop}
use lib.Seq.{drop-length}
use lib.Dec.{eqb, leb}
use borrow.Author.Tests.{eqb-true, leb-true, leb-false, eq-eqb, ne_eqb}
use Rattle.wire.specs.Bytes.{at16}
use Rattle.contents.specs.Contents.{table_length, table_fits, entry_tag, entry_start, entry_length, body_of, entries_from, entries_fit}
use Rattle.std.specs.Prelude.{Result, Ok, Err}
use Rattle.refusal.specs.Answers.{Answer, result, refuse, check, answer_of}
use Rattle.refusal.specs.declared.causes.Refusal.{Refusal}
use Rattle.refusal.specs.declared.causes.Refusal.TheVariants as cause
use Rattle.refusal.proofs.AnswerLaws.{checked, checked_next, same_refusal}
use Rattle.contents.specs.Steps.{read_contents, Laid}
use Rattle.refusal.proofs.CheckLaws.{both_first, both_second, by_test}
use Rattle.wire.proofs.ListLaws.{drop_next}

-- a table that fits is whole
pub table_whole : (k : ℕ) (f : List ℕ) → table_fits k f ≡ true → table_length k ≤ length f
unfolding table_fits
table_whole k f e =
    leb-true (table_length k) (length f)
    (both_second (eqb (at16 f 0) k) (leb (table_length k) (length f))
    (both_second (leb 2 (length f)) (eqb (at16 f 0) k && leb (table_length k) (length f)) e))

-- a body that lies within the file is as long as its entry says
pub body_length : (f : List ℕ) (i : ℕ) → entry_start f i + entry_length f i ≤ length f → length (body_of f i) ≡ entry_length f i
body_length f i h = simp (length-take, length-drop) (omega arith)

-- a loop over the entries has found the first i in order; the next body is to start at start
pub record Followed (tags f : List ℕ) (i start : ℕ) : Type 0 where
  pub within : i ≤ length tags
  pub left : entries_from (drop i tags) i start f ≡ entries_fit tags f

module _ (tags f : List ℕ) where
  pub followed_start : Followed tags f 0 (table_length (length tags))
  unfolding entries_fit
  followed_start = record { within = omega arith; left = refl }

  -- entry i and those behind it
  entry_then : (i start : ℕ) → i < length tags
      → entries_from (drop i tags) i start f
      ≡ (eqb (entry_tag f i) (get_or tags i 0) && (eqb (entry_start f i) start && entries_from (drop (i + 1) tags) (i + 1) (start + entry_length f i) f))
  unfolding entries_from
  entry_then i start h =
      let j : suc i ≡ i + 1 = omega arith in
      ap (λ (ts : List ℕ). entries_from ts i start f) (drop_next tags i 0 h)
      ∙ ap (λ (k : ℕ). eqb (entry_tag f i) (get_or tags i 0) && (eqb (entry_start f i) start && entries_from (drop (i + 1) tags) k (start + entry_length f i) f)) j

  module _ {i start : ℕ} (p : Followed tags f i start) where
    pub followed_next : i < length tags → entry_tag f i ≡ get_or tags i 0 → entry_start f i ≡ start → Followed tags f (i + 1) (start + entry_length f i)
    followed_next h e g =
        let turn : entries_from (drop i tags) i start f ≡ entries_from (drop (i + 1) tags) (i + 1) (start + entry_length f i) f = entry_then i start h ∙ rw (eq-eqb _ _ e, eq-eqb _ _ g) refl in
        record { within = omega arith; left = sym turn ∙ p.left }

    pub followed_tag : i < length tags → (entry_tag f i ≡ get_or tags i 0 → ⊥) → entries_fit tags f ≡ false
    followed_tag h e = sym p.left ∙ entry_then i start h ∙ rw (ne_eqb _ _ e) refl

    pub followed_other : i < length tags → entry_tag f i ≡ get_or tags i 0 → (entry_start f i ≡ start → ⊥) → entries_fit tags f ≡ false
    followed_other h e g = sym p.left ∙ entry_then i start h ∙ rw (eq-eqb _ _ e, ne_eqb _ _ g) refl

    pub followed_end : length tags ≤ i → entries_fit tags f ≡ eqb start (length f)
    unfolding entries_from
    followed_end h =
        let e : i ≡ length tags = omega (arith, p.within) in
        sym p.left ∙ ap (λ (ts : List ℕ). entries_from ts i start f) (ap (λ (k : ℕ). drop k tags) e ∙ drop-length tags)

-- what the test of the entries says of the first of them, and of what is behind it
pub record Entry (f : List ℕ) (t i start : ℕ) (ts : List ℕ) : Type 0 where
  pub tag : entry_tag f i ≡ t
  pub starts : entry_start f i ≡ start
  pub behind : entries_from ts (suc i) (start + entry_length f i) f ≡ true

pub entry_first : (t : ℕ) (ts : List ℕ) (i start : ℕ) (f : List ℕ) → entries_from (t ∷ ts) i start f ≡ true → Entry f t i start ts
unfolding entries_from
entry_first t ts i start f e =
    let tail : Bool = entries_from ts (suc i) (start + entry_length f i) f in
    let rest : (eqb (entry_start f i) start && tail) ≡ true = both_second (eqb (entry_tag f i) t) (eqb (entry_start f i) start && tail) e in
    record {
      tag = eqb-true (entry_tag f i) t (both_first (eqb (entry_tag f i) t) (eqb (entry_start f i) start && tail) e);
      starts = eqb-true (entry_start f i) start (both_first (eqb (entry_start f i) start) tail rest);
      behind = both_second (eqb (entry_start f i) start) tail rest;
    }

-- the last body ends with the file
pub entries_end : (i start : ℕ) (f : List ℕ) → entries_from [] i start f ≡ true → start ≡ length f
unfolding entries_from
entries_end i start f e = eqb-true start (length f) e

-- where the entries fit, each of the bodies lies within the file
record Within (ts : List ℕ) (i start : ℕ) (f : List ℕ) : Type 0 where
  pub from : start ≤ length f
  pub each : (j : ℕ) → i ≤ j → j < i + length ts → entry_start f j + entry_length f j ≤ length f

entries_within : (ts : List ℕ) (i start : ℕ) (f : List ℕ) → entries_from ts i start f ≡ true → Within ts i start f
entries_within [] i start f e = record { from = omega (arith, entries_end i start f e); each = λ j a b. omega arith }
entries_within (t ∷ ts) i start f e =
    let h : Entry f t i start ts = entry_first t ts i start f e in
    let rest : Within ts (suc i) (start + entry_length f i) f = entries_within ts (suc i) (start + entry_length f i) f h.behind in
    record {
      from = omega (arith, rest.from);
      each =
          λ j a b.
          by_test (leb j i)
          (λ s. let same : j ≡ i = omega (arith, leb-true j i s) in
          rw same (omega (arith, h.starts, rest.from)))
          (λ s. rest.each j (omega (arith, leb-false j i s)) (omega arith));
    }

pub laid : (tags f : List ℕ) → table_fits (length tags) f ≡ true → entries_fit tags f ≡ true → Laid (length tags) f
unfolding entries_fit
laid tags f t e =
    let w : Within tags 0 (table_length (length tags)) f = entries_within tags 0 (table_length (length tags)) f e in
    record { whole = table_whole (length tags) f t; within = λ i h. w.each i (omega arith) (omega arith) }

-- an entry that is there names a body within the file
pub body_there : {k : ℕ} {f : List ℕ} → Laid k f → (i : ℕ) → i < k → (table_length (i + 1) ≤ length f) × (entry_start f i + entry_length f i ≤ length f)
body_there l i h = (omega (arith, l.whole), l.within i h)

-- the answer of the first checks of a file, case by case
module _ (tags f : List ℕ) where
  abbrev table : Bool
  table = table_fits (length tags) f

  abbrev entries : Bool
  entries = entries_fit tags f

  -- a reader that starts with these checks, whatever it checks next
  abbrev pub opening : {A : Type 0} → Answer A → Answer A
  opening next = check table cause.Table (check entries cause.Contents next)

  module _ {r : Result (Unit {0}) Refusal} (e : answer_of r ≡ read_contents tags f) where
    -- where they found nothing, both tests held
    module _ (g : r ≡ Ok tt) where
      passed : read_contents tags f ≡ result tt
      passed = sym e ∙ ap answer_of g

      pub contents_table : table ≡ true
      unfolding read_contents
      contents_table = checked tt table cause.Table (check entries cause.Contents (result tt)) passed

      pub contents_entries : entries ≡ true
      unfolding read_contents
      contents_entries = checked tt entries cause.Contents (result tt) (checked_next tt table cause.Table (check entries cause.Contents (result tt)) passed)

      -- and each body lies within the file
      pub contents_laid : Laid (length tags) f
      contents_laid = laid tags f contents_table contents_entries

      -- so the reader goes on
      pub contents_next : {A : Type 0} (next : Answer A) → opening next ≡ next
      contents_next next = rw (contents_table, contents_entries) refl

    -- where they refused, so does the reader
    pub contents_refused : {A : Type 0} {why : Refusal} (next : Answer A) → r ≡ Err why → opening next ≡ refuse why
    unfolding read_contents
    contents_refused {A} {why} next g =
        let said : refuse why ≡ opening (result tt) = sym (ap answer_of g) ∙ e in
        by_test table
        (λ t. by_test entries
        (λ s. let z : refuse why ≡ result tt = simp (t, s) at said in let o : ◌≡◌ {A = ℕ} 0 1 = cc in absurd (omega arith))
        (λ s. rw (t, s) (same_refusal cause.Contents why (simp (t, s) at said))))
        (λ t. rw t (same_refusal cause.Table why (simp t at said)))
