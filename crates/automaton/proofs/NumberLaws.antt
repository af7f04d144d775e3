-- The numbers in what is followed are those that stand in the text. Assumes nothing.
use Prim.Native.Nat.{ℕ, ◌+◌, ◌*◌, ◌/◌, ◌%◌, ◌≤◌, ◌<◌}
use native.Mathlib.Omega.{arith}
use mathlib.Core.Path.{◌≡◌, refl, sym, ap, ◌∙◌}
use mathlib.Core.Bool.{Bool, true, false, cond}
use mathlib.Core.List.{List, [], ◌∷◌, ◌++◌, append_assoc}
use lib.Dec.{ltb}
use borrow.Author.Tests.{ltb-true, ltb-false}
use Rattle.grammar.specs.Characters.{letter_x, digit0}
use Rattle.grammar.specs.Grammar.{number_text}
use Rattle.grammar.specs.Language.{NumbersBelow}
use Rattle.automaton.specs.States.{AroundFactor, State, factor_next, digit_next, digits_read, product_read, initial}
use Rattle.automaton.specs.Automaton.{go, read_behind, read_factor_byte, longer, read_byte}
use Rattle.automaton.proofs.SoFar.{before_sum, before_factor, so_far}
use Rattle.automaton.proofs.Following.{InputBelow, Follows, stay, read, follows_split}
use Rattle.automaton.proofs.Steps.{step_to}
use Rattle.automaton.proofs.TextLaws.{text_step}
use Rattle.automaton.proofs.FollowLaws.{first_digit, second_digit}

module _ (n : ℕ) where
  -- a number just read stands in the text
  number_stands : (σ : State) (rest : List ℕ) → NumbersBelow n (so_far σ ++ rest) → InputBelow 100 σ → InputBelow n σ
  unfolding so_far
  number_stands (factor_next c) rest h i = tt
  number_stands (digit_next c) rest h i = tt
  number_stands (digits_read j c) rest h i = h (before_factor c) rest j i (sym (append_assoc (before_factor c) (letter_x ∷ number_text j) rest))
  number_stands (product_read p k) rest h i = tt

  below_on : {d : ℕ} {σ τ : State} {bs : List ℕ} → NumbersBelow n (so_far σ ++ bs) → Follows d 100 σ bs τ → Follows d n σ bs τ
  below_on h stay = stay
  below_on {σ = σ} h (read {τ = υ} {b = b} {bs = bs} e o i w) =
      let text : so_far υ ++ bs ≡ so_far σ ++ (b ∷ bs) = ap (λ (t : List ℕ). t ++ bs) (text_step (step_to e)) ∙ append_assoc (so_far σ) (b ∷ []) bs in
      let h' : NumbersBelow n (so_far υ ++ bs) = rw text h in
      read e o (number_stands υ bs h' i) (below_on h' w)

  -- so where every number of a text is below n, it is followed with this bound
  pub below_follows : {d : ℕ} {τ : State} {bs : List ℕ} → NumbersBelow n bs → Follows d 100 initial bs τ → Follows d n initial bs τ
  unfolding so_far before_sum
  below_follows h w = below_on h w

-- x is read only where a factor is to come
record Letter (τ : State) : Type 0 where
  around : AroundFactor
  is : τ ≡ digit_next around

letter : (σ : State) {τ : State} → read_byte σ letter_x ≡ go τ → Letter τ
unfolding read_byte read_factor_byte read_behind longer
letter (factor_next c) e = record { around = c; is = cc }
letter (digit_next c) e = absurd (let z : ◌≡◌ {A = ℕ} 0 1 = cc in omega arith)
letter (digits_read j c) e = absurd (let z : ◌≡◌ {A = ℕ} 0 1 = cc in omega arith)
letter (product_read p k) e = absurd (let z : ◌≡◌ {A = ℕ} 0 1 = cc in omega arith)

-- a byte that leads to a number
number_here : (n : ℕ) (σ : State) {τ : State} (j : ℕ) (c : AroundFactor) (b : ℕ) → read_byte σ b ≡ go (digits_read j c) → read_byte σ b ≡ go τ → InputBelow n τ → j < n
number_here n σ {τ} j c b e q i = let same : τ ≡ digits_read j c = cc in rw same at i

module _ {d n : ℕ} where
  -- digits behind x are a number that was read
  digits_below : (c : AroundFactor) (j : ℕ) (after : List ℕ) {τ : State} → j < 100 → Follows d n (digit_next c) (number_text j ++ after) τ → j < n
  digits_below c j after {τ} two w = by (ltb j 10) refl w
    where
      second : {υ : State} → υ ≡ digits_read (j / 10) c → 10 ≤ j → Follows d n υ ((digit0 + j % 10) ∷ after) τ → j < n
      second {υ} q l (read e o i v) =
          let back : 10 * (j / 10) + j % 10 ≡ j = omega arith in
          let to = second_digit c (j / 10) (j % 10) (omega arith) (omega arith) (omega arith) ∙ ap (λ (v : ℕ). go (digits_read v c)) back in
          number_here n υ j c (digit0 + j % 10) (ap (λ (σ : State). read_byte σ (digit0 + j % 10)) q ∙ to) e i

      by : (t : Bool) → ltb j 10 ≡ t → Follows d n (digit_next c) (cond t ((digit0 + j) ∷ []) ((digit0 + j / 10) ∷ ((digit0 + j % 10) ∷ [])) ++ after) τ → j < n
      by true q (read e o i v) = number_here n (digit_next c) j c (digit0 + j) (first_digit c j (ltb-true j 10 q)) e i
      by false q (read {τ = υ} e o i v) =
          let l : 10 ≤ j = ltb-false j 10 q in
          let to = first_digit c (j / 10) (omega arith) in
          let same : υ ≡ digits_read (j / 10) c = cc in
          second same l v

  spelled_below : {σ τ : State} (j : ℕ) (after : List ℕ) → j < 100 → Follows d n σ (letter_x ∷ (number_text j ++ after)) τ → j < n
  spelled_below {σ} j after two (read {τ = υ} e o i w) =
      let l = letter σ e in
      digits_below l.around j after two (rw l.is at w)

  -- every number that stands in what is followed is below n
  pub numbers_below : {τ : State} {bs : List ℕ} → Follows d n initial bs τ → NumbersBelow n bs
  numbers_below {τ} w before after j two e =
      let w' : Follows d n initial (before ++ (letter_x ∷ (number_text j ++ after))) τ = rw e w in
      spelled_below j after two (follows_split before (letter_x ∷ (number_text j ++ after)) w').second
