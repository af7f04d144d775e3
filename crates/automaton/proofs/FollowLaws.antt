-- Every text of the language is followed to its end. Assumes nothing.
use Prim.Native.Nat.{ℕ, ◌+◌, ◌*◌, ◌-◌, ◌/◌, ◌%◌, ◌≤◌, ◌<◌}
use native.Mathlib.Omega.{arith}
use mathlib.Core.Path.{◌≡◌, refl, ap, ◌∙◌}
use mathlib.Core.Bool.{Bool, true, false, cond}
use mathlib.Core.List.{[], ◌∷◌}
use lib.Dec.{ltb}
use borrow.Author.Tests.{le-leb, ltb-true, ltb-false}
use Rattle.grammar.specs.Grammar.{Sum, Product, Factor, lone, plus, single, times, constant0, constant1, variable, negation, brackets}
use Rattle.grammar.specs.Grammar.{sum_text, product_text, factor_text, number_text}
use Rattle.grammar.specs.Extent.{sum_depth, product_depth, factor_depth, SumBelow, ProductBelow, FactorBelow}
use Rattle.automaton.specs.States.{AroundSum, AroundProduct, AroundFactor, in_brackets, first_product, next_product, first_factor, next_factor, negated}
use Rattle.automaton.specs.States.{factor_next, digit_next, digits_read, opened, open_sum, open_product, open_factor}
use Rattle.automaton.specs.Automaton.{product_with, outside_factor, after_factor, sum_with, outside_product, go, read_closing, read_behind, read_factor_byte, is_digit, longer, read_byte}
use Rattle.automaton.proofs.Following.{Follows, stay, read, follows_append, end_factor, end_product, end_sum}
use Rattle.automaton.proofs.BoundLaws.{open_outside}

-- behind a text that has ended, a byte that is no digit is read as behind its product
pub next_factor_lem : (f : Factor) (c : AroundFactor) (b : ℕ) → is_digit b ≡ false → read_byte (end_factor f c) b ≡ read_behind (product_with f c) (outside_factor c) b
unfolding read_byte end_factor after_factor product_with outside_factor longer
next_factor_lem constant0 c b h = refl
next_factor_lem constant1 c b h = refl
next_factor_lem (variable j) c b h = rw h
next_factor_lem (negation f) c b h = next_factor_lem f (negated c) b h
next_factor_lem (brackets s) c b h = refl

pub next_product_lem : (p : Product) (k : AroundProduct) (b : ℕ) → is_digit b ≡ false → read_byte (end_product p k) b ≡ read_behind p k b
unfolding end_product product_with outside_factor
next_product_lem (single f) k b h = next_factor_lem f (first_factor k) b h
next_product_lem (times p f) k b h = next_factor_lem f (next_factor p k) b h

pub sum_caret : (s : Sum) (k : AroundSum) → read_byte (end_sum s k) 94 ≡ go (factor_next (first_factor (next_product s k)))
unfolding end_sum read_behind sum_with outside_product
sum_caret (lone p) k = next_product_lem p (first_product k) 94 refl
sum_caret (plus s p) k = next_product_lem p (next_product s k) 94 refl

pub sum_close : (s : Sum) (c : AroundFactor) → read_byte (end_sum s (in_brackets c)) 41 ≡ go (after_factor (brackets s) c)
unfolding end_sum read_behind sum_with outside_product read_closing
sum_close (lone p) c = next_product_lem p (first_product (in_brackets c)) 41 refl
sum_close (plus s p) c = next_product_lem p (next_product s (in_brackets c)) 41 refl

digit : (e : ℕ) → e < 10 → is_digit (48 + e) ≡ true
digit e h = rw (le-leb 48 (48 + e) (omega arith), le-leb (48 + e) 57 (omega arith))

pub first_digit : (c : AroundFactor) (e : ℕ) → e < 10 → read_byte (digit_next c) (48 + e) ≡ go (digits_read e c)
unfolding read_byte
first_digit c e k = rw (digit e k) (ap (λ (v : ℕ). go (digits_read v c)) (let q : 48 + e - 48 ≡ e = omega arith in q))

pub second_digit : (c : AroundFactor) (v e : ℕ) → 1 ≤ v → v < 10 → e < 10 → read_byte (digits_read v c) (48 + e) ≡ go (digits_read (10 * v + e) c)
unfolding read_byte longer
second_digit c v e l u k =
    rw (digit e k, le-leb 1 v l, le-leb v 9 (omega arith)) (ap (λ (w : ℕ). go (digits_read (10 * v + w) c)) (let q : 48 + e - 48 ≡ e = omega arith in q))

-- a number is read digit by digit
follow_variable : {d n : ℕ} (j : ℕ) (c : AroundFactor) → open_factor c ≤ d → j < n → n ≤ 100 → Follows d n (factor_next c) (120 ∷ number_text j) (digits_read j c)
unfolding read_byte read_factor_byte opened
follow_variable {d} {n} j c o h m = go' (ltb j 10) refl
  where
    go' : (t : Bool) → ltb j 10 ≡ t → Follows d n (factor_next c) (120 ∷ cond t ((48 + j) ∷ []) ((48 + j / 10) ∷ ((48 + j % 10) ∷ []))) (digits_read j c)
    go' true e = read refl o tt (read (first_digit c j (ltb-true j 10 e)) o h stay)
    go' false e =
        let l : 10 ≤ j = ltb-false j 10 e in
        let back : 10 * (j / 10) + j % 10 ≡ j = omega arith in
        read refl o tt (read (first_digit c (j / 10) (omega arith)) o (omega arith)
        (read (second_digit c (j / 10) (j % 10) (omega arith) (omega arith) (omega arith) ∙ ap (λ (v : ℕ). go (digits_read v c)) back) o h stay))

mutual
  unfolding sum_text sum_depth SumBelow open_sum end_sum end_product end_factor opened read_byte read_behind read_factor_byte after_factor

  pub follow_sum : {d n : ℕ} (s : Sum) (k : AroundSum) → open_sum k + sum_depth s ≤ d → SumBelow n s → n ≤ 100 → Follows d n (factor_next (first_factor (first_product k))) (sum_text s) (end_sum s k)
  follow_sum (lone p) k o h m = follow_product p (first_product k) o h m
  follow_sum (plus s p) k o h m =
      follows_append (follow_sum s k (omega arith) h.0 m)
      (read (sum_caret s k) (omega arith) tt (follow_product p (next_product s k) (omega arith) h.1 m))

  pub follow_product : {d n : ℕ} (p : Product) (k : AroundProduct) → open_product k + product_depth p ≤ d → ProductBelow n p → n ≤ 100 → Follows d n (factor_next (first_factor k)) (product_text p) (end_product p k)
  follow_product (single f) k o h m = follow_factor f (first_factor k) o h m
  follow_product (times p f) k o h m =
      follows_append (follow_product p k (omega arith) h.0 m)
      (read (next_product_lem p k 38 refl) (omega arith) tt (follow_factor f (next_factor p k) (omega arith) h.1 m))

  pub follow_factor : {d n : ℕ} (f : Factor) (c : AroundFactor) → open_factor c + factor_depth f ≤ d → FactorBelow n f → n ≤ 100 → Follows d n (factor_next c) (factor_text f) (end_factor f c)
  follow_factor constant0 c o h m = read {τ = after_factor constant0 c} refl (omega (arith, open_outside c)) tt stay
  follow_factor constant1 c o h m = read {τ = after_factor constant1 c} refl (omega (arith, open_outside c)) tt stay
  follow_factor (variable j) c o h m = follow_variable j c (omega arith) h m
  follow_factor (negation f) c o h m = read {τ = factor_next (negated c)} refl (omega arith) tt (follow_factor f (negated c) (omega arith) h m)
  follow_factor (brackets s) c o h m =
      read {τ = factor_next (first_factor (first_product (in_brackets c)))} refl (omega arith) tt
      (follows_append (follow_sum s (in_brackets c) (omega arith) h m)
      (read (sum_close s c) (omega (arith, open_outside c)) tt stay))
