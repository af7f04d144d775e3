-- The answers of the reader of leaves. Assumes nothing.
use Prim.Native.Nat.{ℕ, ◌+◌, ◌≤◌, ◌<◌}
use native.Mathlib.Omega.{arith}
use mathlib.Core.Path.{◌≡◌, refl, ap, ◌∙◌}
use mathlib.Core.Logic.{◌≢◌}
use mathlib.Core.List.{List, flat_map}
use lib.ListN.{length, get_or}
use borrow.Author.Tests.{ne_eqb}
use Rattle.std.specs.Prelude.{Result, Ok, Err}
use Rattle.refusal.specs.declared.causes.Refusal.{Refusal}
use Rattle.refusal.specs.declared.causes.Refusal.TheVariants as cause
use Rattle.wire.specs.Limits.{most_open}
use Rattle.node.specs.NodeBytes.{node_fields, node_bytes, nodes_bytes}
use Rattle.grammar.specs.Characters.{exclamation, opening, letter_x, digit0, digit1}
use Rattle.grammar.specs.Grammar.{Factor, constant0, constant1}
use Rattle.grammar.specs.FormulaNodes.{factor_count, factor_nodes}
use Rattle.automaton.specs.States.{AroundFactor, factor_next, digit_next, opened, open_factor}
use Rattle.automaton.specs.Automaton.{after_factor, stop, go, read_factor_byte, read_byte, finish}
use Rattle.automaton.proofs.BoundLaws.{open_after}
use Rattle.scanner.specs.Scanning.{Goes, NumberRead, LeafRead}
use Rattle.scanner.specs.declared.Leaf.{Leaf}
use Rattle.scanner.proofs.PlaceLaws.{byte_inside, goes_byte, stops_here, goes_then, goes_refuses}

-- a byte with which no factor starts
factor_stop : (c : AroundFactor) (b : ℕ) → b ≢ letter_x → b ≢ digit0 → b ≢ digit1 → b ≢ exclamation → b ≢ opening → read_byte (factor_next c) b ≡ stop
unfolding read_byte read_factor_byte
factor_stop c b h₁ h₂ h₃ h₄ h₅ = rw (ne_eqb b digit0 h₂, ne_eqb b digit1 h₃, ne_eqb b letter_x h₁, ne_eqb b exclamation h₄, ne_eqb b opening h₅) refl

module _ (n : ℕ) (text : List ℕ) (at made : ℕ) where
  pub leaf_bad : at ≤ length text → get_or text at 0 ≢ letter_x → get_or text at 0 ≢ digit0 → get_or text at 0 ≢ digit1 → LeafRead n text at made (Err (cause.Text at))
  unfolding LeafRead finish
  leaf_bad u h₁ h₂ h₃ = λ h₄ h₅ c o m. stops_here n text u (factor_stop c (get_or text at 0) h₁ h₂ h₃ h₄ h₅) refl

  -- the byte is a factor by itself
  constant : (b kind : ℕ) (f : Factor) → get_or text at 0 ≡ b → 1 ≤ b → factor_count f ≡ 1 → ((i : ℕ) → nodes_bytes (factor_nodes f i) ≡ node_fields kind 0 0 0)
      → ((c : AroundFactor) → read_factor_byte c b ≡ go (after_factor f c)) → LeafRead n text at made (Ok (record { kind = kind; field = 0; end = at + 1 }))
  unfolding LeafRead read_byte after_factor
  constant b kind f e some one stored q =
      let here : at < length text = byte_inside text at (omega arith) in
      record {
        tree = f;
        one = one;
        stored = stored;
        small = omega arith;
        later = omega arith;
        inside = omega arith;
        goes = λ c o. goes_byte n text (after_factor f c) here (ap (read_factor_byte c) e ∙ q c) (omega (arith, open_after f c)) tt;
      }

  pub leaf_zero : get_or text at 0 ≡ digit0 → LeafRead n text at made (Ok (record { kind = 0; field = 0; end = at + 1 }))
  unfolding factor_count factor_nodes node_bytes flat_map read_factor_byte
  leaf_zero e = constant digit0 0 constant0 e (omega arith) refl (λ i. refl) (λ c. refl)

  pub leaf_one : get_or text at 0 ≡ digit1 → LeafRead n text at made (Ok (record { kind = 1; field = 0; end = at + 1 }))
  unfolding factor_count factor_nodes node_bytes flat_map read_factor_byte
  leaf_one e = constant digit1 1 constant1 e (omega arith) refl (λ i. refl) (λ c. refl)

  -- x, and the number behind it
  module _ (e : get_or text at 0 ≡ letter_x) where
    pub letter_inside : at < length text
    letter_inside = byte_inside text at (omega arith)

    letter_goes : (c : AroundFactor) → open_factor c ≤ most_open → Goes n text (factor_next c) at (digit_next c) (at + 1)
    unfolding read_byte read_factor_byte opened
    letter_goes c o = goes_byte n text (digit_next c) letter_inside (ap (read_factor_byte c) e) o tt

    pub leaf_number : (r : Result Leaf Refusal) → NumberRead n text (at + 1) made r → LeafRead n text at made r
    unfolding NumberRead LeafRead
    leaf_number (Ok leaf) g =
        record {
          tree = g.tree;
          one = g.one;
          stored = g.stored;
          small = g.small;
          later = omega (arith, g.later);
          inside = g.inside;
          goes = λ c o. goes_then n text (letter_goes c o) (g.goes c o);
        }
    leaf_number (Err why) g = λ h₄ h₅ c o m. goes_refuses n text (letter_goes c o) (g c o m)
