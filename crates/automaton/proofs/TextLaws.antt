-- The text read grows by each byte. Assumes nothing.
use Prim.Native.Nat.{ℕ, ◌+◌, ◌*◌, ◌-◌, ◌/◌, ◌%◌, ◌≤◌}
use native.Mathlib.Omega.{arith}
use mathlib.Core.Path.{◌≡◌, refl, sym, ap, ap₂, ◌∙◌}
use mathlib.Core.List.{List, [], ◌∷◌, ◌++◌, append_assoc, append-nil}
use borrow.Author.Tests.{lt-ltb, le-ltb}
use Rattle.grammar.specs.Characters.{caret, exclamation, opening, closing, digit0, digit9}
use Rattle.grammar.specs.Grammar.{Product, Factor, constant0, constant1, variable, negation, brackets, sum_text, product_text, factor_text, number_text}
use Rattle.automaton.specs.States.{AroundSum, AroundProduct, AroundFactor, in_brackets, first_product, next_product, first_factor, next_factor, negated}
use Rattle.automaton.specs.States.{State, initial}
use Rattle.automaton.specs.Automaton.{product_with, outside_factor, after_factor, sum_with, outside_product}
use Rattle.automaton.proofs.SoFar.{before_sum, before_product, before_factor, so_far}
use Rattle.automaton.proofs.Following.{Follows, stay, read}
use Rattle.automaton.proofs.Steps.{Step, a_zero, a_one, a_letter, a_bang, a_bracket, a_digit, a_second, behind, an_and, a_caret, a_close, step_to}

-- a factor that ends adds its text
pub text_after : (f : Factor) (c : AroundFactor) → so_far (after_factor f c) ≡ before_factor c ++ factor_text f
unfolding so_far after_factor product_with outside_factor before_sum sum_text
text_after f (first_factor k) = refl
text_after f (next_factor p k) = simp append_assoc
text_after f (negated c) = text_after (negation f) c ∙ sym (append_assoc (before_factor c) (exclamation ∷ []) (factor_text f))

-- a product that ends adds its text
pub text_summed : (p : Product) (k : AroundProduct) → before_sum (outside_product k) ++ sum_text (sum_with p k) ≡ before_product k ++ product_text p
unfolding outside_product sum_with before_sum sum_text
text_summed p (first_product k) = refl
text_summed p (next_product s k) = simp append_assoc

one_digit : (b : ℕ) → digit0 ≤ b → b ≤ digit9 → number_text (b - digit0) ≡ b ∷ []
one_digit b l u = rw (lt-ltb (b - digit0) 10 (omega arith)) (ap (λ (v : ℕ). v ∷ []) (let q : digit0 + (b - digit0) ≡ b = omega arith in q))

two_digits : (j b : ℕ) → digit0 ≤ b → b ≤ digit9 → 1 ≤ j → j ≤ 9 → number_text (10 * j + (b - digit0)) ≡ number_text j ++ (b ∷ [])
two_digits j b l u l' u' =
    rw (le-ltb (10 * j + (b - digit0)) 10 (omega arith), lt-ltb j 10 (omega arith))
    (ap₂ (λ (v w : ℕ). v ∷ (w ∷ [])) (let q : digit0 + (10 * j + (b - digit0)) / 10 ≡ digit0 + j = omega arith in q) (let q : digit0 + (10 * j + (b - digit0)) % 10 ≡ b = omega arith in q))

pub text_step : {σ τ : State} {b : ℕ} → Step σ b τ → so_far τ ≡ so_far σ ++ (b ∷ [])
unfolding so_far before_sum sum_text
text_step (a_zero {c}) = text_after constant0 c
text_step (a_one {c}) = text_after constant1 c
text_step a_letter = refl
text_step a_bang = refl
text_step a_bracket = refl
text_step (a_digit {c} {b} l u) = rw (one_digit b l u) (simp append_assoc)
text_step (a_second {c} {j} {b} l u l' u') = rw (two_digits j b l u l' u') (simp append_assoc)
text_step (behind {c} {j} {b} s) = text_step s ∙ ap (λ (t : List ℕ). t ++ (b ∷ [])) (text_after (variable j) c)
text_step an_and = simp append_assoc
text_step (a_caret {p} {k}) =
    sym (append_assoc (before_sum (outside_product k)) (sum_text (sum_with p k)) (caret ∷ [])) ∙ ap (λ (t : List ℕ). t ++ (caret ∷ [])) (text_summed p k)
text_step (a_close {p} {k} {c} e) =
    text_after (brackets (sum_with p k)) c ∙ ends (outside_product k) e (text_summed p k)
  where
    ends : (j : AroundSum) → j ≡ in_brackets c → before_sum j ++ sum_text (sum_with p k) ≡ before_product k ++ product_text p
        → before_factor c ++ (opening ∷ (sum_text (sum_with p k) ++ (closing ∷ []))) ≡ (before_product k ++ product_text p) ++ (closing ∷ [])
    ends j q h =
        let h' : before_sum (in_brackets c) ++ sum_text (sum_with p k) ≡ before_product k ++ product_text p = rw q at h in
        let assoc : ((before_factor c ++ (opening ∷ [])) ++ sum_text (sum_with p k)) ++ (closing ∷ []) ≡ before_factor c ++ (opening ∷ (sum_text (sum_with p k) ++ (closing ∷ []))) = simp append_assoc in
        sym assoc ∙ ap (λ (t : List ℕ). t ++ (closing ∷ [])) h'

-- and by all that is followed
pub text_follows : {d n : ℕ} {σ τ : State} {bs : List ℕ} → Follows d n σ bs τ → so_far τ ≡ so_far σ ++ bs
text_follows {σ = σ} stay = sym (append-nil (so_far σ))
text_follows {σ = σ} (read {b = b} {bs = bs} e o i w) =
    text_follows w ∙ ap (λ (t : List ℕ). t ++ bs) (text_step (step_to e)) ∙ append_assoc (so_far σ) (b ∷ []) bs

pub text_initial : {d n : ℕ} {τ : State} {bs : List ℕ} → Follows d n initial bs τ → so_far τ ≡ bs
unfolding so_far before_sum
text_initial w = text_follows w
