-- How reading the rest of a text can end. Assumes nothing.
use Prim.Native.Nat.{ℕ, ◌-◌, ◌≤◌, ◌<◌}
use mathlib.Core.Path.{◌≡◌, refl}
use mathlib.Core.Bool.{Bool, true, false}
use mathlib.Core.List.{List, [], ◌∷◌, ◌++◌}
use lib.ListN.{length}
use lib.Dec.{leb}
use borrow.Author.Tests.{ltb-true, lt-ltb, le-leb, leb-true, leb-false}
use Rattle.refusal.specs.Answers.{Answer, refuse, check}
use Rattle.refusal.specs.declared.causes.Refusal.TheVariants as cause
use Rattle.wire.specs.Limits.{most_open}
use Rattle.grammar.specs.Grammar.{Sum}
use Rattle.automaton.specs.States.{State, factor_next, digit_next, digits_read, product_read, opened, made}
use Rattle.automaton.specs.Automaton.{Next, stop, go, read_byte, finish, input_fits, within_limits, onward, read_rest}
use Rattle.automaton.proofs.Following.{InputBelow, Follows, stay, read}

pub fits_below : (n : ℕ) (σ : State) → input_fits n σ ≡ true → InputBelow n σ
unfolding input_fits
fits_below n (factor_next c) e = tt
fits_below n (digit_next c) e = tt
fits_below n (digits_read j c) e = ltb-true j n e
fits_below n (product_read p k) e = tt

pub below_fits : (n : ℕ) (σ : State) → InputBelow n σ → input_fits n σ ≡ true
unfolding input_fits
below_fits n (factor_next c) h = refl
below_fits n (digit_next c) h = refl
below_fits n (digits_read j c) h = lt-ltb j n h
below_fits n (product_read p k) h = refl

-- the text ends; no text goes on with a byte; a byte opens one too many; a number is not below n
pub data Outcome (n l : ℕ) (σ : State) : List ℕ → Answer Sum → Type 0 where
  to_end : {bs : List ℕ} {τ : State} → Follows most_open n σ bs τ → Outcome n l σ bs (finish l τ)
  at_stop : {before : List ℕ} {τ : State} (b : ℕ) (after : List ℕ) → Follows most_open n σ before τ → read_byte τ b ≡ stop
      → Outcome n l σ (before ++ (b ∷ after)) (refuse (cause.Text (l - length (b ∷ after))))
  at_open : {before : List ℕ} {τ υ : State} (b : ℕ) (after : List ℕ) → Follows most_open n σ before τ → read_byte τ b ≡ go υ → most_open < opened υ
      → Outcome n l σ (before ++ (b ∷ after)) (refuse (cause.Depth (l - length (b ∷ after))))
  at_number : {before : List ℕ} {τ υ : State} (b : ℕ) (after : List ℕ) → Follows most_open n σ before τ → read_byte τ b ≡ go υ → opened υ ≤ most_open → input_fits n υ ≡ false
      → Outcome n l σ (before ++ (b ∷ after)) (refuse (cause.Node (made υ)))

further : {n l : ℕ} {σ τ : State} {b : ℕ} {bs : List ℕ} {a : Answer Sum} → read_byte σ b ≡ go τ → opened τ ≤ most_open → InputBelow n τ
    → Outcome n l τ bs a → Outcome n l σ (b ∷ bs) a
further e o i (to_end w) = to_end (read e o i w)
further e o i (at_stop b after w q) = at_stop b after (read e o i w) q
further e o i (at_open b after w q m) = at_open b after (read e o i w) q m
further e o i (at_number b after w q m f) = at_number b after (read e o i w) q m f

-- one of these it is
pub outcome : (n l : ℕ) (bs : List ℕ) (σ : State) → Outcome n l σ bs (read_rest n l σ bs)
unfolding read_rest onward within_limits
outcome n l [] σ = to_end stay
outcome n l (b ∷ bs) σ = by_next (read_byte σ b) refl (λ τ. outcome n l bs τ)
  where
    by_limits : (τ : State) → Outcome n l τ bs (read_rest n l τ bs) → read_byte σ b ≡ go τ → (t u : Bool) → leb (opened τ) most_open ≡ t → input_fits n τ ≡ u
        → Outcome n l σ (b ∷ bs) (check t (cause.Depth (l - length (b ∷ bs))) (check u (cause.Node (made τ)) (read_rest n l τ bs)))
    by_limits τ r e true true p q = further e (leb-true (opened τ) most_open p) (fits_below n τ q) r
    by_limits τ r e true false p q = at_number b bs stay e (leb-true (opened τ) most_open p) q
    by_limits τ r e false u p q = at_open b bs stay e (leb-false (opened τ) most_open p)

    by_next : (x : Next) → read_byte σ b ≡ x → ((τ : State) → Outcome n l τ bs (read_rest n l τ bs)) → Outcome n l σ (b ∷ bs) (onward n (l - length (b ∷ bs)) x (λ τ. read_rest n l τ bs))
    by_next stop e r = at_stop b bs stay e
    by_next (go τ) e r = by_limits τ (r τ) e (leb (opened τ) most_open) (input_fits n τ) refl refl

-- what is followed is read
pub read_follows : (n l : ℕ) {σ τ : State} {bs : List ℕ} (rest : List ℕ) → Follows most_open n σ bs τ → read_rest n l σ (bs ++ rest) ≡ read_rest n l τ rest
unfolding read_rest onward within_limits
read_follows n l rest stay = refl
read_follows n l rest (read {τ = τ} e o i w) = rw (e, le-leb (opened τ) most_open o, below_fits n τ i) (read_follows n l rest w)
