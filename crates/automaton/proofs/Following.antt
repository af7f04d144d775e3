-- Bytes read one after another, with bounds on what is open and on the numbers; and the state in which each text ends. Assumes nothing.
use Prim.Native.Nat.{ℕ, ◌≤◌, ◌<◌}
use native.Mathlib.Omega.{arith}
use mathlib.Core.Path.{◌≡◌, refl}
use mathlib.Core.List.{List, [], ◌∷◌, ◌++◌}
use Rattle.grammar.specs.Grammar.{Sum, Product, Factor, lone, plus, single, times, constant0, constant1, variable, negation, brackets}
use Rattle.automaton.specs.States.{AroundSum, AroundProduct, AroundFactor, first_product, next_product, first_factor, next_factor, negated}
use Rattle.automaton.specs.States.{State, factor_next, digit_next, digits_read, product_read, opened}
use Rattle.automaton.specs.Automaton.{stop, go, read_byte, after_factor}

-- the number just read is below n
abbrev pub InputBelow : ℕ → State → Type 0
InputBelow n (factor_next c) = Unit {0}
InputBelow n (digit_next c) = Unit {0}
InputBelow n (digits_read j c) = j < n
InputBelow n (product_read p k) = Unit {0}

-- the bytes lead from one state to the other; after each at most d are open, and each number is below n
pub data Follows (d n : ℕ) : State → List ℕ → State → Type 0 where
  stay : {σ : State} → Follows d n σ [] σ
  read : {σ τ υ : State} {b : ℕ} {bs : List ℕ} → read_byte σ b ≡ go τ → opened τ ≤ d → InputBelow n τ → Follows d n τ bs υ → Follows d n σ (b ∷ bs) υ

-- wider bounds hold too
below_wider : {n m : ℕ} (σ : State) → n ≤ m → InputBelow n σ → InputBelow m σ
below_wider (factor_next c) l h = tt
below_wider (digit_next c) l h = tt
below_wider (digits_read j c) l h = omega arith
below_wider (product_read p k) l h = tt

pub follows_wider : {d n d' n' : ℕ} {σ τ : State} {bs : List ℕ} → d ≤ d' → n ≤ n' → Follows d n σ bs τ → Follows d' n' σ bs τ
follows_wider l m stay = stay
follows_wider l m (read {τ = τ} e o i w) = read e (omega arith) (below_wider τ m i) (follows_wider l m w)

-- bytes behind bytes
pub follows_append : {d n : ℕ} {σ τ υ : State} {bs cs : List ℕ} → Follows d n σ bs τ → Follows d n τ cs υ → Follows d n σ (bs ++ cs) υ
follows_append stay w = w
follows_append (read e o i v) w = read e o i (follows_append v w)

-- what leads through some bytes and then others leads somewhere between
pub record Halves (d n : ℕ) (σ : State) (bs cs : List ℕ) (υ : State) : Type 0 where
  pub middle : State
  pub first : Follows d n σ bs middle
  pub second : Follows d n middle cs υ

pub follows_split : {d n : ℕ} {σ υ : State} (bs cs : List ℕ) → Follows d n σ (bs ++ cs) υ → Halves d n σ bs cs υ
follows_split {σ = σ} [] cs w = record { middle = σ; first = stay; second = w }
follows_split (b ∷ bs) cs (read e o i w) =
    let h = follows_split bs cs w in
    record { middle = h.middle; first = read e o i h.first; second = h.second }

-- what a prefix and the whole lead to
pub follows_rest : {d n d' n' : ℕ} {σ τ υ : State} {bs cs : List ℕ} → Follows d n σ bs τ → Follows d' n' σ (bs ++ cs) υ → Follows d' n' τ cs υ
follows_rest stay w = w
follows_rest {d' = d'} {n' = n'} {υ = υ} {cs = cs} (read {τ = τ} {bs = bs} e o i v) (read {τ = τ'} e' o' i' w) =
    let same : τ' ≡ τ = cc in
    let w' : Follows d' n' τ (bs ++ cs) υ = rw same at w in
    follows_rest v w'

pub follows_same : {d n d' n' : ℕ} {σ τ υ : State} {bs : List ℕ} → Follows d n σ bs τ → Follows d' n' σ bs υ → τ ≡ υ
follows_same stay stay = refl
follows_same {d' = d'} {n' = n'} {υ = υ} (read {τ = τ} {bs = bs} e o i v) (read {τ = τ'} e' o' i' w) =
    let same : τ' ≡ τ = cc in
    let w' : Follows d' n' τ bs υ = rw same at w in
    follows_same v w'

-- no byte follows where the next one stops
pub follows_stop : {d n : ℕ} {σ τ : State} {b : ℕ} {bs : List ℕ} → read_byte σ b ≡ stop → Follows d n σ (b ∷ bs) τ → ⊥
follows_stop e (read e' o i v) = let z : ◌≡◌ {A = ℕ} 0 1 = cc in omega arith

-- the state in which a text that is read around c ends
unfoldable pub end_factor : Factor → AroundFactor → State
end_factor constant0 c = after_factor constant0 c
end_factor constant1 c = after_factor constant1 c
end_factor (variable j) c = digits_read j c
end_factor (negation f) c = end_factor f (negated c)
end_factor (brackets s) c = after_factor (brackets s) c

unfoldable pub end_product : Product → AroundProduct → State
end_product (single f) k = end_factor f (first_factor k)
end_product (times p f) k = end_factor f (next_factor p k)

unfoldable pub end_sum : Sum → AroundSum → State
end_sum (lone p) k = end_product p (first_product k)
end_sum (plus s p) k = end_product p (next_product s k)
