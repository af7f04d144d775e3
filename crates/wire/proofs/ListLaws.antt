-- Laws of lists at the code's next index, i + 1, and of runs of stores. Assumes nothing.
use Prim.Native.Nat.{ℕ, zero, suc, ◌+◌, ◌*◌, ◌<◌, ◌≤◌}
use native.Mathlib.Omega.{arith}
use native.Mathlib.Nat.{add-zero, add_comm, mul-zero, mul-one, mul-suc, mul-add, mul-le-mul_left}
use native.Mathlib.Numerals.{add-one}
use mathlib.Core.Path.{◌≡◌, refl, sym, ap, ap₂, ◌∙◌}
use mathlib.Core.List.{List, [], ◌∷◌, ◌++◌, append_assoc, map, flat_map}
use lib.ListN.{length, get_or, take, drop, set, length-set, length-append, take-append-drop, drop_of_length-le, get_or-append}
use lib.Seq.{sets, get_or-drop, drop-cons, drop-drop, take-suc, take-nil, take_at, take-append-add, drop-append-add, get_or-set_same, get_or-set_other}
use Rattle.wire.specs.Lists.{tabulate_from, tabulate}

-- one element more is dropped
pub drop_next : {A : Type 0} (l : List A) (i : ℕ) (d : A) → i < length l → drop i l ≡ get_or l i d ∷ drop (i + 1) l
drop_next l i d h = drop-cons l i d h ∙ ap (λ (n : ℕ). get_or l i d ∷ drop n l) (sym (add-one i))

-- one element more is taken
pub take_next : {A : Type 0} (l : List A) (i : ℕ) (d : A) → i < length l → take (i + 1) l ≡ take i l ++ (get_or l i d ∷ [])
take_next l i d h = ap (λ (n : ℕ). take n l) (add-one i) ∙ take-suc l i d h

-- two runs of stores, the second where the first ends, are one
pub sets_append : (l : List ℕ) (i : ℕ) (vs ws : List ℕ) → sets (sets l i vs) (i + length vs) ws ≡ sets l i (vs ++ ws)
sets_append l i [] ws = ap (λ (n : ℕ). sets l n ws) (add-zero i)
sets_append l i (v ∷ vs) ws =
    let e : i + suc (length vs) ≡ suc i + length vs = omega arith in
    ap (λ (n : ℕ). sets (sets (set l i v) (suc i) vs) n ws) e ∙ sets_append (set l i v) (suc i) vs ws

-- the same where the place of the second is a number of its own
pub sets_then : (l : List ℕ) (i j : ℕ) (vs ws : List ℕ) → j ≡ i + length vs → sets (sets l i vs) j ws ≡ sets l i (vs ++ ws)
sets_then l i j vs ws e = ap (λ (n : ℕ). sets (sets l i vs) n ws) e ∙ sets_append l i vs ws

-- a byte before those stored stays
pub sets_before : (l : List ℕ) (i : ℕ) (vs : List ℕ) (j : ℕ) → j < i → get_or (sets l i vs) j 0 ≡ get_or l j 0
sets_before l i [] j h = refl
sets_before l i (v ∷ vs) j h = sets_before (set l i v) (suc i) vs j (omega arith) ∙ get_or-set_other l i j v 0 (λ e. omega arith)

-- a byte stored is found where it was stored
pub sets_in : (l : List ℕ) (i : ℕ) (vs : List ℕ) (j : ℕ) → j < length vs → i + length vs ≤ length l → get_or (sets l i vs) (i + j) 0 ≡ get_or vs j 0
sets_in l i [] j h r = absurd (omega arith)
sets_in l i (v ∷ vs) zero h r =
    ap (λ (n : ℕ). get_or (sets l i (v ∷ vs)) n 0) (add-zero i)
    ∙ sets_before (set l i v) (suc i) vs i (omega arith)
    ∙ get_or-set_same l i v 0 (omega arith)
sets_in l i (v ∷ vs) (suc j) h r =
    let e : i + suc j ≡ suc i + j = omega arith in
    ap (λ (n : ℕ). get_or (sets l i (v ∷ vs)) n 0) e
    ∙ sets_in (set l i v) (suc i) vs j (omega arith) (omega (arith, length-set l i v))

-- an element of a mapped list, whatever stands for those past the end
pub map_at : {A B : Type 0} (f : A → B) (l : List A) (i : ℕ) (d : A) (e : B) → i < length l → get_or (map f l) i e ≡ f (get_or l i d)
map_at f [] i d e h = absurd (omega arith)
map_at f (a ∷ l) zero d e h = refl
map_at f (a ∷ l) (suc i) d e h = map_at f l i d e (omega arith)

mul_suc_front : (w n : ℕ) → w * suc n ≡ w + w * n
mul_suc_front w n = mul-suc w n ∙ add_comm (w * n) w

-- what is made of two lists stands one behind the other
pub flat_append : {A : Type 0} (f : A → List ℕ) (xs ys : List A) → flat_map f (xs ++ ys) ≡ flat_map f xs ++ flat_map f ys
unfolding flat_map
flat_append f [] ys = refl
flat_append f (x ∷ xs) ys = ap (λ (l : List ℕ). f x ++ l) (flat_append f xs ys) ∙ sym (append_assoc (f x) (flat_map f xs) (flat_map f ys))

-- entries of w elements each, one behind the other: how many elements, the first entries, and one of them
module _ {A B : Type 0} (w : ℕ) (f : A → List B) (wide : (a : A) → length (f a) ≡ w) where
  pub flat_length : (l : List A) → length (flat_map f l) ≡ w * length l
  unfolding flat_map
  flat_length [] = sym (mul-zero w)
  flat_length (a ∷ l) = length-append (f a) (flat_map f l) ∙ ap₂ ◌+◌ (wide a) (flat_length l) ∙ sym (mul_suc_front w (length l))

  pub flat_take : (l : List A) (i : ℕ) → take (w * i) (flat_map f l) ≡ flat_map f (take i l)
  unfolding flat_map
  flat_take l zero = ap (λ (n : ℕ). take n (flat_map f l)) (mul-zero w)
  flat_take [] (suc i) = take-nil (w * suc i)
  flat_take (a ∷ l) (suc i) =
      ap (λ (n : ℕ). take n (f a ++ flat_map f l)) (mul_suc_front w i ∙ ap (λ (n : ℕ). n + w * i) (sym (wide a)))
      ∙ take-append-add (f a) (flat_map f l) (w * i)
      ∙ ap (λ (m : List B). f a ++ m) (flat_take l i)

  pub flat_at : (l : List A) (i : ℕ) (d : A) → i < length l → take w (drop (w * i) (flat_map f l)) ≡ f (get_or l i d)
  unfolding flat_map
  flat_at [] i d h = absurd (omega arith)
  flat_at (a ∷ l) zero d h = ap (λ (n : ℕ). take w (drop n (f a ++ flat_map f l))) (mul-zero w) ∙ take_at (f a) (flat_map f l) w (wide a)
  flat_at (a ∷ l) (suc i) d h =
      ap (λ (n : ℕ). take w (drop n (f a ++ flat_map f l))) (mul_suc_front w i ∙ ap (λ (n : ℕ). n + w * i) (sym (wide a)))
      ∙ ap (take w) (drop-append-add (f a) (flat_map f l) (w * i))
      ∙ flat_at l i d (omega arith)

  -- entry i and those behind it
  pub flat_drop : (l : List A) (i : ℕ) (d : A) → i < length l → drop (w * i) (flat_map f l) ≡ f (get_or l i d) ++ drop (w * i + w) (flat_map f l)
  flat_drop l i d h =
      sym (take-append-drop w (drop (w * i) (flat_map f l)))
      ∙ ap₂ ◌++◌ (flat_at l i d h) (drop-drop w (w * i) (flat_map f l))

-- the same of numbers: number j of entry i, in a list that starts with the entries
module _ {A : Type 0} (w : ℕ) (f : A → List ℕ) (wide : (a : A) → length (f a) ≡ w) where
  module _ (l : List A) (rest : List ℕ) (i : ℕ) (h : i < length l) where
    within : w * i + w ≤ length (flat_map f l)
    within =
        let inside : w * (i + 1) ≤ w * length l = mul-le-mul_left w (omega arith) in
        omega (arith, flat_length w f wide l, mul-add w i 1, mul-one w)

    pub flat_fits : w * i + w ≤ length (flat_map f l ++ rest)
    flat_fits = omega (arith, within, length-append (flat_map f l) rest)

    pub flat_number : (d : A) (j : ℕ) → j < w → get_or (flat_map f l ++ rest) (w * i + j) 0 ≡ get_or (f (get_or l i d)) j 0
    flat_number d j k =
        get_or-append (flat_map f l) rest 0 (w * i + j) (omega (arith, within))
        ∙ sym (get_or-drop (w * i) (flat_map f l) j 0)
        ∙ ap (λ (m : List ℕ). get_or m j 0) (flat_drop w f wide l i d h)
        ∙ get_or-append (f (get_or l i d)) (drop (w * i + w) (flat_map f l)) 0 j (omega (arith, wide (get_or l i d)))

  -- numbers that are, entry by entry, those of at 0, at 1, .., are the entries
  module _ (at : ℕ → A) (body : List ℕ) (k : ℕ) (long : length body ≡ w * k) (each : (i : ℕ) → i < k → drop (w * i) body ≡ f (at i) ++ drop (w * i + w) body) where
    only_from : (i r : ℕ) → i + r ≡ k → drop (w * i) body ≡ flat_map f (tabulate_from at i r)
    unfolding flat_map tabulate_from
    only_from i zero n =
        let e : i ≡ k = sym (add-zero i) ∙ n in
        let past : length body ≤ w * i = omega (arith, long, ap (λ (j : ℕ). w * j) e) in
        drop_of_length-le body {i = w * i} past
    only_from i (suc r) n =
        each i (omega arith)
        ∙ ap (λ (j : ℕ). f (at i) ++ drop j body) (sym (mul-suc w i))
        ∙ ap (λ (s : List ℕ). f (at i) ++ s) (only_from (suc i) r (omega arith))

    pub flat_only : body ≡ flat_map f (tabulate at k)
    flat_only = ap (λ (n : ℕ). drop n body) (sym (mul-zero w)) ∙ only_from 0 k (omega arith)

-- entries of one element each
pub flat_single : {A B : Type 0} (f : A → B) (l : List A) → flat_map (λ (a : A). f a ∷ []) l ≡ map f l
unfolding flat_map
flat_single f [] = refl
flat_single f (a ∷ l) = ap (λ (m : List _). f a ∷ m) (flat_single f l)

-- a list made by index has as many elements as were asked for, each where its index says
tabulate_from-length : {A : Type 0} (make : ℕ → A) (i k : ℕ) → length (tabulate_from make i k) ≡ k
unfolding tabulate_from
tabulate_from-length make i zero = refl
tabulate_from-length make i (suc k) = ap suc (tabulate_from-length make (suc i) k)

tabulate_from-at : {A : Type 0} (make : ℕ → A) (i k j : ℕ) (d : A) → j < k → get_or (tabulate_from make i k) j d ≡ make (i + j)
unfolding tabulate_from
tabulate_from-at make i zero j d h = absurd (omega arith)
tabulate_from-at make i (suc k) zero d h = ap make (sym (add-zero i))
tabulate_from-at make i (suc k) (suc j) d h =
    let e : suc i + j ≡ i + suc j = omega arith in
    tabulate_from-at make (suc i) k j d (omega arith) ∙ ap make e

pub tabulate_length : {A : Type 0} (make : ℕ → A) (k : ℕ) → length (tabulate make k) ≡ k
tabulate_length make k = tabulate_from-length make 0 k

pub tabulate_at : {A : Type 0} (make : ℕ → A) (k j : ℕ) (d : A) → j < k → get_or (tabulate make k) j d ≡ make j
tabulate_at make k j d h =
    let e : 0 + j ≡ j = omega arith in
    tabulate_from-at make 0 k j d h ∙ ap make e

-- lists made of the same entries are the same
pub tabulate_from-same : {A : Type 0} (f g : ℕ → A) (i k : ℕ) → ((j : ℕ) → i ≤ j → j < i + k → f j ≡ g j) → tabulate_from f i k ≡ tabulate_from g i k
unfolding tabulate_from
tabulate_from-same f g i zero h = refl
tabulate_from-same f g i (suc k) h = ap₂ ◌∷◌ (h i (omega arith) (omega arith)) (tabulate_from-same f g (suc i) k (λ j p q. h j (omega arith) (omega arith)))

pub tabulate_same : {A : Type 0} (f g : ℕ → A) (k : ℕ) → ((j : ℕ) → j < k → f j ≡ g j) → tabulate f k ≡ tabulate g k
tabulate_same f g k h = tabulate_from-same f g 0 k (λ j p q. h j (omega arith))

-- and so are the numbers of entries that have the same numbers
flat_from-same : {A B : Type 0} (f : A → List ℕ) (g : B → List ℕ) (a : ℕ → A) (b : ℕ → B) (i k : ℕ) → ((j : ℕ) → i ≤ j → j < i + k → f (a j) ≡ g (b j))
    → flat_map f (tabulate_from a i k) ≡ flat_map g (tabulate_from b i k)
unfolding flat_map tabulate_from
flat_from-same f g a b i zero h = refl
flat_from-same f g a b i (suc k) h = ap₂ ◌++◌ (h i (omega arith) (omega arith)) (flat_from-same f g a b (suc i) k (λ j p q. h j (omega arith) (omega arith)))

pub flat_same : {A B : Type 0} (f : A → List ℕ) (g : B → List ℕ) (a : ℕ → A) (b : ℕ → B) (k : ℕ) → ((j : ℕ) → j < k → f (a j) ≡ g (b j))
    → flat_map f (tabulate a k) ≡ flat_map g (tabulate b k)
flat_same f g a b k h = flat_from-same f g a b 0 k (λ j p q. h j (omega arith))
