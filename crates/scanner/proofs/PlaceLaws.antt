-- Reading on from a place of the text. Assumes nothing.
use Prim.Native.Nat.{ℕ, ◌+◌, ◌-◌, ◌≤◌, ◌<◌}
use native.Mathlib.Omega.{arith}
use native.Mathlib.Decide.{dec_lt}
use mathlib.Core.Path.{◌≡◌, refl, sym, ap, ◌∙◌}
use mathlib.Core.Bool.{false}
use mathlib.Core.List.{List, ◌∷◌}
use lib.ListN.{length, drop, get_or, length-drop, drop_of_length-le, get_or-eq_default}
use borrow.Author.Tests.{le-leb, lt-leb}
use Rattle.std.specs.Prelude.{Option, Some, None, slice_get}
use Rattle.std.specs.Option.{unwrap_or}
use Rattle.std.proofs.lemmas.Option.{get_or_from_slice_get, unwrap_or-slice_get}
use Rattle.refusal.specs.Answers.{refuse}
use Rattle.refusal.specs.declared.causes.Refusal.{Refusal}
use Rattle.refusal.specs.declared.causes.Refusal.TheVariants as cause
use Rattle.wire.specs.Limits.{most_open}
use Rattle.wire.proofs.ListLaws.{drop_next}
use Rattle.grammar.specs.Grammar.{variable}
use Rattle.automaton.specs.States.{AroundFactor, State, digits_read, product_read, opened, made}
use Rattle.automaton.specs.Automaton.{product_with, outside_factor, after_factor, stop, go, longer, read_byte, finish, input_fits, within_limits, onward, read_rest}
use Rattle.automaton.proofs.Following.{InputBelow}
use Rattle.automaton.proofs.OutcomeLaws.{below_fits}
use Rattle.scanner.specs.Scanning.{Goes, Refuses}

-- the byte that reading at an index gave, and 0 where it gave none
module _ (text : List ℕ) (at : ℕ) {r : Option ℕ} (e : r ≡ slice_get text at) where
  pub byte_some : {b : ℕ} → r ≡ Some b → get_or text at 0 ≡ b
  byte_some {b} q = get_or_from_slice_get text at b 0 (sym e ∙ q)

  pub byte_none : r ≡ None → get_or text at 0 ≡ 0
  byte_none q = sym (unwrap_or-slice_get text at 0) ∙ ap (λ (o : Option ℕ). unwrap_or o 0) (sym e ∙ q)

-- a byte that is not 0 stands in the text
pub byte_inside : (text : List ℕ) (at : ℕ) → 1 ≤ get_or text at 0 → at < length text
byte_inside text at h = by (dec_lt at (length text))
  where
    by : Dec (at < length text) → at < length text
    by (yes l) = l
    by (no l) = let z : get_or text at 0 ≡ 0 = get_or-eq_default text 0 (let out : length text ≤ at = omega arith in out) in absurd (omega arith)

module _ (n : ℕ) (text : List ℕ) where
  at_byte : (σ : State) (at : ℕ) → at < length text
      → read_rest n (length text) σ (drop at text) ≡ onward n at (read_byte σ (get_or text at 0)) (λ τ. read_rest n (length text) τ (drop (at + 1) text))
  unfolding read_rest
  at_byte σ at h =
      let place : length text - length (get_or text at 0 ∷ drop (at + 1) text) ≡ at = omega (arith, length-drop (at + 1) text) in
      rw (drop_next text at 0 h) (ap (λ (p : ℕ). onward n p (read_byte σ (get_or text at 0)) (λ τ. read_rest n (length text) τ (drop (at + 1) text))) place)

  -- a byte leads on
  pub goes_byte : {σ : State} {at : ℕ} (τ : State) → at < length text → read_byte σ (get_or text at 0) ≡ go τ → opened τ ≤ most_open → InputBelow n τ → Goes n text σ at τ (at + 1)
  unfolding onward within_limits
  goes_byte {σ} {at} τ h e o i = record { on = at_byte σ at h ∙ rw (e, le-leb (opened τ) most_open o, below_fits n τ i) refl }

  -- or opens one too many
  pub opens_byte : {σ : State} {at : ℕ} (τ : State) → at < length text → read_byte σ (get_or text at 0) ≡ go τ → most_open < opened τ → Refuses n text σ at (cause.Depth at)
  unfolding onward within_limits
  opens_byte {σ} {at} τ h e o = record { on = at_byte σ at h ∙ rw (e, lt-leb (opened τ) most_open o) refl }

  -- or makes a number that is not below n
  pub number_byte : {σ : State} {at : ℕ} (m : ℕ) (τ : State) → at < length text → read_byte σ (get_or text at 0) ≡ go τ → opened τ ≤ most_open → input_fits n τ ≡ false → made τ ≡ m
      → Refuses n text σ at (cause.Node m)
  unfolding onward within_limits
  number_byte {σ} {at} m τ h e o f q = record { on = at_byte σ at h ∙ rw (e, le-leb (opened τ) most_open o, f, q) refl }

  -- or does not go on
  pub stops_byte : {σ : State} {at : ℕ} → at < length text → read_byte σ (get_or text at 0) ≡ stop → Refuses n text σ at (cause.Text at)
  unfolding onward
  stops_byte {σ} {at} h e = record { on = at_byte σ at h ∙ rw e refl }

  -- or the text ends too early
  pub stops_here : {σ : State} {at : ℕ} → at ≤ length text → read_byte σ (get_or text at 0) ≡ stop → finish (length text) σ ≡ refuse (cause.Text (length text)) → Refuses n text σ at (cause.Text at)
  unfolding read_rest
  stops_here {σ} {at} u q e = by (dec_lt at (length text))
    where
      by : Dec (at < length text) → Refuses n text σ at (cause.Text at)
      by (yes l) = stops_byte l q
      by (no l) =
          let out : length text ≤ at = omega arith in
          let same : length text ≡ at = omega arith in
          record { on = rw (drop_of_length-le text out) (e ∙ ap (λ (p : ℕ). refuse (cause.Text p)) same) }

  -- a number that no digit goes on is read as the factor that it is
  pub goes_settled : (j : ℕ) (c : AroundFactor) (at : ℕ) → longer j (get_or text at 0) ≡ false → Goes n text (digits_read j c) at (after_factor (variable j) c) at
  unfolding after_factor read_rest read_byte finish
  goes_settled j c at h = record { on = by (dec_lt at (length text)) }
    where
      by : Dec (at < length text) → read_rest n (length text) (digits_read j c) (drop at text) ≡ read_rest n (length text) (product_read (product_with (variable j) c) (outside_factor c)) (drop at text)
      by (yes l) = at_byte (digits_read j c) at l ∙ rw h refl ∙ sym (at_byte (product_read (product_with (variable j) c) (outside_factor c)) at l)
      by (no l) =
          let out : length text ≤ at = omega arith in
          rw (drop_of_length-le text out) refl

  pub goes_then : {σ τ υ : State} {at e f : ℕ} → Goes n text σ at τ e → Goes n text τ e υ f → Goes n text σ at υ f
  goes_then p q = record { on = p.on ∙ q.on }

  pub goes_refuses : {σ τ : State} {at e : ℕ} {why : Refusal} → Goes n text σ at τ e → Refuses n text τ e why → Refuses n text σ at why
  goes_refuses p q = record { on = p.on ∙ q.on }
