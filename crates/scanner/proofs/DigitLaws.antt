-- Digits and numbers: the answers of their readers. Assumes nothing.
use Prim.Native.Nat.{ℕ, ◌+◌, ◌*◌, ◌-◌, ◌≤◌, ◌<◌}
use native.Mathlib.Omega.{arith}
use mathlib.Core.Path.{◌≡◌, refl, ap, ◌∙◌}
use mathlib.Core.Logic.{◌≢◌}
use mathlib.Core.Bool.{Bool, true, false, cond, ◌&&◌}
use mathlib.Core.List.{List, flat_map}
use lib.ListN.{length, get_or}
use lib.Dec.{leb}
use borrow.Author.Tests.{lt-leb, le-ltb, leb-true}
use Rattle.std.specs.Prelude.{Some, None, Ok, Err}
use Rattle.refusal.specs.declared.causes.Refusal.TheVariants as cause
use Rattle.refusal.proofs.CheckLaws.{both_first, both_second}
use Rattle.wire.specs.Limits.{most_open}
use Rattle.node.specs.NodeBytes.{node_bytes}
use Rattle.grammar.specs.Characters.{digit0, digit9}
use Rattle.grammar.specs.Grammar.{variable}
use Rattle.grammar.specs.FormulaNodes.{factor_count, factor_nodes}
use Rattle.automaton.specs.States.{AroundFactor, digit_next, digits_read, opened, open_factor, made}
use Rattle.automaton.specs.Automaton.{stop, go, is_digit, longer, read_byte, finish, input_fits, after_factor}
use Rattle.automaton.proofs.FollowLaws.{first_digit, second_digit}
use Rattle.scanner.specs.Scanning.{digit_at, Goes, NumberRead}
use Rattle.scanner.proofs.PlaceLaws.{byte_inside, goes_byte, number_byte, stops_here, goes_settled, goes_then, goes_refuses}

-- this digit stands at the index
pub record DigitIs (text : List ℕ) (at d : ℕ) : Type 0 where
  pub is : get_or text at 0 ≡ digit0 + d
  pub small : d < 10

and-false : (t : Bool) → t && false ≡ false
and-false true = refl
and-false false = refl

-- what the digit there comes to
module _ (text : List ℕ) (at : ℕ) where
  pub digit_is : {d : ℕ} → Some d ≡ digit_at text at → DigitIs text at d
  unfolding digit_at
  digit_is {d} e = by (is_digit (get_or text at 0)) refl e
    where
      by : (t : Bool) → is_digit (get_or text at 0) ≡ t → Some d ≡ cond t (Some (get_or text at 0 - digit0)) None → DigitIs text at d
      by true q f =
          let l : digit0 ≤ get_or text at 0 = leb-true digit0 (get_or text at 0) (both_first (leb digit0 (get_or text at 0)) (leb (get_or text at 0) digit9) q) in
          let u : get_or text at 0 ≤ digit9 = leb-true (get_or text at 0) digit9 (both_second (leb digit0 (get_or text at 0)) (leb (get_or text at 0) digit9) q) in
          let same : d ≡ get_or text at 0 - digit0 = cc in
          record { is = omega arith; small = omega arith }
      by false q f = cc

  pub digit_none : None ≡ digit_at text at → is_digit (get_or text at 0) ≡ false
  unfolding digit_at
  digit_none e = by (is_digit (get_or text at 0)) refl e
    where
      by : (t : Bool) → is_digit (get_or text at 0) ≡ t → None ≡ cond t (Some (get_or text at 0 - digit0)) None → is_digit (get_or text at 0) ≡ false
      by true q f = cc
      by false q f = q

-- no digit goes on a number behind 0, behind two digits, or where there is none
longer_none : (j b : ℕ) → is_digit b ≡ false → longer j b ≡ false
unfolding longer
longer_none j b h = rw h refl

longer_zero : (j b : ℕ) → j ≡ 0 → longer j b ≡ false
unfolding longer
longer_zero j b h = rw h (and-false (is_digit b))

longer_two : (j b : ℕ) → 10 ≤ j → longer j b ≡ false
unfolding longer
longer_two j b h = rw (lt-leb j 9 (omega arith), and-false (leb 1 j)) (and-false (is_digit b))

letter_stop : (c : AroundFactor) (b : ℕ) → is_digit b ≡ false → read_byte (digit_next c) b ≡ stop
unfolding read_byte
letter_stop c b h = rw h refl

module _ (n : ℕ) (text : List ℕ) (at nodes : ℕ) where
  -- an input was read
  input_end : (j e : ℕ) → j < 100 → at < e → e ≤ length text → ((c : AroundFactor) → open_factor c ≤ most_open → Goes n text (digit_next c) at (after_factor (variable j) c) e)
      → NumberRead n text at nodes (Ok (record { kind = 2; field = j; end = e }))
  unfolding NumberRead factor_count factor_nodes node_bytes flat_map
  input_end j e two l u g = record { tree = variable j; one = refl; stored = λ i. refl; small = two; later = l; inside = u; goes = g }

  pub number_none : at ≤ length text → None ≡ digit_at text at → NumberRead n text at nodes (Err (cause.Text at))
  unfolding NumberRead finish
  number_none u h = λ c o m. stops_here n text u (letter_stop c (get_or text at 0) (digit_none text at h)) refl

  module _ (d : ℕ) (there : Some d ≡ digit_at text at) where
    first : DigitIs text at d
    first = digit_is text at there

    first_inside : at < length text
    first_inside = byte_inside text at (omega (arith, first.is))

    reads_first : (c : AroundFactor) → read_byte (digit_next c) (get_or text at 0) ≡ go (digits_read d c)
    reads_first c = ap (read_byte (digit_next c)) first.is ∙ first_digit c d first.small

    pub number_over : n ≤ d → NumberRead n text at nodes (Err (cause.Node nodes))
    unfolding NumberRead opened input_fits made
    number_over h = λ c o m. number_byte n text nodes (digits_read d c) first_inside (reads_first c) o (le-ltb d n h) m

    goes_first : (c : AroundFactor) → open_factor c ≤ most_open → d < n → Goes n text (digit_next c) at (digits_read d c) (at + 1)
    unfolding opened
    goes_first c o h = goes_byte n text (digits_read d c) first_inside (reads_first c) o h

    module _ (below : d < n) where
      number_one : longer d (get_or text (at + 1) 0) ≡ false → NumberRead n text at nodes (Ok (record { kind = 2; field = d; end = at + 1 }))
      number_one l =
          input_end d (at + 1) (omega (arith, first.small)) (omega arith) (omega (arith, first_inside))
          (λ c o. goes_then n text (goes_first c o below) (goes_settled n text d c (at + 1) l))

      pub number_zero : d ≡ 0 → NumberRead n text at nodes (Ok (record { kind = 2; field = d; end = at + 1 }))
      number_zero z = number_one (longer_zero d (get_or text (at + 1) 0) z)

      pub number_alone : None ≡ digit_at text (at + 1) → NumberRead n text at nodes (Ok (record { kind = 2; field = d; end = at + 1 }))
      number_alone h = number_one (longer_none d (get_or text (at + 1) 0) (digit_none text (at + 1) h))

      module _ (some : d ≢ 0) (e j : ℕ) (behind : Some e ≡ digit_at text (at + 1)) (is : j ≡ 10 * d + e) where
        second : DigitIs text (at + 1) e
        second = digit_is text (at + 1) behind

        second_inside : at + 1 < length text
        second_inside = byte_inside text (at + 1) (omega (arith, second.is))

        reads_second : (c : AroundFactor) → read_byte (digits_read d c) (get_or text (at + 1) 0) ≡ go (digits_read j c)
        reads_second c =
            ap (read_byte (digits_read d c)) second.is
            ∙ second_digit c d e (omega arith) first.small second.small
            ∙ ap (λ (v : ℕ). go (digits_read v c)) (let q : 10 * d + e ≡ j = omega arith in q)

        pub number_two_over : n ≤ j → NumberRead n text at nodes (Err (cause.Node nodes))
        unfolding NumberRead opened input_fits made
        number_two_over h = λ c o m. goes_refuses n text (goes_first c o below) (number_byte n text nodes (digits_read j c) second_inside (reads_second c) o (le-ltb j n h) m)

        pub number_two : j < n → NumberRead n text at nodes (Ok (record { kind = 2; field = j; end = at + 2 }))
        unfolding opened
        number_two h =
            let then : at + 1 + 1 ≡ at + 2 = omega arith in
            input_end j (at + 2) (omega (arith, first.small, second.small)) (omega arith) (omega (arith, second_inside))
            (λ c o.
            goes_then n text (goes_first c o below)
            (goes_then n text (rw then at (goes_byte n text (digits_read j c) second_inside (reads_second c) o h))
            (goes_settled n text j c (at + 2) (longer_two j (get_or text (at + 2) 0) (omega arith)))))
