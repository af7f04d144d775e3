-- Laws of text put into a writer's buffer. Assumes nothing.
use Prim.Native.Nat.{ℕ, suc, ◌+◌, ◌<◌, ◌≤◌}
use native.Mathlib.Omega.{arith}
use native.Mathlib.Nat.{add-zero}
use mathlib.Core.Path.{◌≡◌, refl, sym, ap, ◌∙◌}
use mathlib.Core.List.{List, [], ◌∷◌, ◌++◌, append-nil, flat_map}
use lib.ListN.{length, get_or, take, drop, length-append}
use lib.Seq.{sets, length-sets, split_at, take_all}
use Rattle.wire.proofs.ListLaws.{sets_then, take_next, flat_append}
use Rattle.line.specs.declared.LineWriter.{LineWriter}
use Rattle.line.specs.Putting.{Put, TextFits}

-- nothing is put
put_none : (w : LineWriter) → Put [] w w
put_none w = record { same = refl; ends = sym (add-zero w.end); stored = refl }

-- a text is put behind a text
pub put_then : {s t : List ℕ} {u v w : LineWriter} → Put s u v → Put t v w → Put (s ++ t) u w
put_then {s} {t} {u} {v} {w} p q =
    record {
      same = q.same ∙ p.same;
      ends = omega (arith, p.ends, q.ends, length-append s t);
      stored = q.stored ∙ ap (λ (x : List ℕ). sets x v.end t) p.stored ∙ sets_then u.out.now u.end v.end s t p.ends;
    }

-- the buffer keeps its length
pub put_length : {s : List ℕ} {v w : LineWriter} → Put s v w → length w.out.now ≡ length v.out.now
put_length {s} {v} p = ap length p.stored ∙ length-sets v.out.now v.end s

-- where two texts fit, the first does, and behind it the second
pub fits_first : {s : List ℕ} (t : List ℕ) {w : LineWriter} → TextFits (s ++ t) w → TextFits s w
fits_first {s} t h = record { fits = omega (arith, h.fits, length-append s t) }

pub fits_second : {s t : List ℕ} {v w : LineWriter} → TextFits (s ++ t) v → Put s v w → TextFits t w
fits_second {s} {t} h p = record { fits = omega (arith, h.fits, length-append s t, p.ends, put_length p) }

-- a loop has put the texts of the first i elements
pub record EachPut {A : Type 0} (text : A → List ℕ) (all : List A) (old new : LineWriter) (i : ℕ) : Type 0 where
  pub within : i ≤ length all
  pub put : Put (flat_map text (take i all)) old new

module _ {A : Type 0} (text : A → List ℕ) (all : List A) (old : LineWriter) where
  pub each_start : EachPut text all old old 0
  unfolding flat_map
  each_start = record { within = omega arith; put = put_none old }

  pub each_all : {new : LineWriter} {i : ℕ} → EachPut text all old new i → length all ≤ i → Put (flat_map text all) old new
  each_all {new} {i} p h = rw (take_all i all h) at p.put

  module _ (d : A) {new : LineWriter} {i : ℕ} (p : EachPut text all old new i) (h : i < length all) where
    -- the text of element i stands between those before it and those behind it
    split : flat_map text all ≡ flat_map text (take i all) ++ (text (get_or all i d) ++ flat_map text (drop (suc i) all))
    split =
        ap (flat_map text) (split_at all i d h)
        ∙ flat_append text (take i all) (get_or all i d ∷ drop (suc i) all)
        ∙ (unfold flat_map in refl)

    pub each_fits : TextFits (flat_map text all) old → TextFits (text (get_or all i d)) new
    each_fits f = fits_first (flat_map text (drop (suc i) all)) (fits_second (rw split at f) p.put)

    one_more : flat_map text (take (i + 1) all) ≡ flat_map text (take i all) ++ text (get_or all i d)
    one_more =
        ap (flat_map text) (take_next all i d h)
        ∙ flat_append text (take i all) (get_or all i d ∷ [])
        ∙ (unfold flat_map in ap (λ (l : List ℕ). flat_map text (take i all) ++ l) (append-nil (text (get_or all i d))))

    pub each_next : {new₁ : LineWriter} → Put (text (get_or all i d)) new new₁ → EachPut text all old new₁ (i + 1)
    each_next q = record { within = omega arith; put = rw one_more (put_then p.put q) }
