-- Laws of a loop that stores the elements of a list in their order, one or several at a time. Assumes nothing.
use Prim.Native.Nat.{ℕ, suc, ◌+◌, ◌*◌, ◌<◌, ◌≤◌}
use native.Mathlib.Omega.{arith}
use native.Mathlib.Nat.{add-zero, mul-le-mul_left, mul-one, mul-add}
use native.Mathlib.Numerals.{add-one}
use mathlib.Core.Path.{◌≡◌, refl, sym, ap, ap₂, ◌∙◌}
use mathlib.Core.List.{List, [], ◌∷◌, ◌++◌, flat_map}
use lib.ListN.{length, get_or, take, drop, set, length-set}
use lib.Seq.{sets, take_all, take_at, set_at, append_snoc, length-take-le}
use Rattle.wire.proofs.ListLaws.{drop_next, take_next, flat_length, flat_at}

-- a loop has stored the first i elements of all in the list, which was list₀
pub record Filled {A : Type 0} (all list₀ list : List A) (i : ℕ) : Type 0 where
  pub within : i ≤ length all
  pub same : length list ≡ length list₀
  pub is : list ≡ take i all ++ drop i list₀

module _ {A : Type 0} {all list₀ : List A} where
  pub filled_start : Filled all list₀ list₀ 0
  filled_start = record { within = omega arith; same = refl; is = refl }

  module _ {list : List A} {i : ℕ} (p : Filled all list₀ list i) where
    stored : length (take i all) ≡ i
    stored = length-take-le i all p.within

    -- the first i are stored
    pub filled_front : take i list ≡ take i all
    filled_front = ap (take i) p.is ∙ take_at (take i all) (drop i list₀) i stored

    pub filled_next : {v : A} (d : A) → v ≡ get_or all i d → i < length all → length all ≤ length list₀ → Filled all list₀ (set list i v) (i + 1)
    filled_next {v} d e h fits =
        let joined : (take i all ++ (get_or all i d ∷ [])) ++ drop (i + 1) list₀ ≡ take i all ++ get_or all i d ∷ drop (i + 1) list₀ = append_snoc (take i all) (get_or all i d) (drop (i + 1) list₀) in
        record {
          within = omega arith;
          same = length-set list i v ∙ p.same;
          is =
              ap₂ (λ (l : List A) (w : A). set l i w) (p.is ∙ ap (λ (l : List A). take i all ++ l) (drop_next list₀ i d (omega arith))) e
              ∙ set_at (take i all) (get_or list₀ i d) (drop (i + 1) list₀) (get_or all i d) i stored
              ∙ sym joined
              ∙ ap (λ (l : List A). l ++ drop (i + 1) list₀) (sym (take_next all i d h));
        }

    -- every one is stored
    pub filled_all : length all ≤ i → list ≡ all ++ drop (length all) list₀
    filled_all h =
        let e : i ≡ length all = omega (arith, p.within) in
        p.is ∙ ap₂ (λ (l : List A) (n : ℕ). l ++ drop n list₀) (take_all i all h) e

-- several are stored behind those that are
pub filled_run : {A : Type 0} {all list₀ : List A} (vs : List A) {list : List A} {i : ℕ} → Filled all list₀ list i → vs ≡ take (length vs) (drop i all)
    → i + length vs ≤ length all → length all ≤ length list₀ → Filled all list₀ (sets list i vs) (i + length vs)
filled_run [] {list} {i} p e h fits = rw (add-zero i) p
filled_run {A} {all} {list₀} (v ∷ vs) {list} {i} p e h fits =
    let here : drop i all ≡ get_or all i v ∷ drop (i + 1) all = drop_next all i v (omega arith) in
    let both : v ∷ vs ≡ get_or all i v ∷ take (length vs) (drop (i + 1) all) = e ∙ ap (take (suc (length vs))) here in
    let first : v ≡ get_or all i v = cc in
    let rest : vs ≡ take (length vs) (drop (i + 1) all) = cc in
    let next : i + 1 + length vs ≡ i + suc (length vs) = omega arith in
    let more : Filled all list₀ (sets (set list i v) (i + 1) vs) (i + 1 + length vs) =
    filled_run vs (filled_next p v first (omega arith) fits) rest (omega arith) fits in
    rw (next, add-one i) at more

-- the same of entries of w elements each, one behind the other: f of the elements of l
module _ {A B : Type 0} (w : ℕ) (f : A → List B) (wide : (a : A) → length (f a) ≡ w) (l : List A) where
  -- the entries before i are stored: entry i is stored
  pub filled_entry : (d : A) (i : ℕ) (entry : List B) {list₀ list : List B} → Filled (flat_map f l) list₀ list (w * i) → i < length l → w * length l ≤ length list₀
      → entry ≡ f (get_or l i d) → Filled (flat_map f l) list₀ (sets list (w * i) entry) (w * (i + 1))
  filled_entry d i entry {list₀} {list} p h room e =
      let long : length entry ≡ w = ap length e ∙ wide (get_or l i d) in
      let next_is : w * (i + 1) ≡ w * i + length entry = mul-add w i 1 ∙ ap (λ (k : ℕ). w * i + k) (mul-one w ∙ sym long) in
      let inside : w * (i + 1) ≤ w * length l = mul-le-mul_left w (omega arith) in
      let part : entry ≡ take (length entry) (drop (w * i) (flat_map f l)) = e ∙ sym (flat_at w f wide l i d h) ∙ ap (λ (k : ℕ). take k (drop (w * i) (flat_map f l))) (sym long) in
      rw next_is (filled_run entry p part (omega (arith, flat_length w f wide l)) (omega (arith, flat_length w f wide l)))

  -- every entry is stored
  pub filled_entries : {list₀ list : List B} {i : ℕ} → Filled (flat_map f l) list₀ list (w * i) → length l ≤ i → list ≡ flat_map f l ++ drop (w * length l) list₀
  filled_entries {list₀} {list} {i} p h =
      let all : w * length l ≤ w * i = mul-le-mul_left w h in
      filled_all p (omega (arith, flat_length w f wide l)) ∙ ap (λ (n : ℕ). flat_map f l ++ drop n list₀) (flat_length w f wide l)
