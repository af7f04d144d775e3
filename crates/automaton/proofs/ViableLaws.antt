-- What is read can always be completed, and what can be completed is read. Assumes nothing.
use Prim.Native.Nat.{ℕ, ◌+◌, ◌≤◌}
use native.Mathlib.Omega.{arith}
use mathlib.Core.Path.{◌≡◌, sym}
use mathlib.Core.List.{List, [], ◌∷◌, ◌++◌, append_assoc, append-nil}
use Rattle.grammar.specs.Characters.{closing, digit0}
use Rattle.grammar.specs.Grammar.{Sum, Product, Factor, lone, plus, single, times, constant0, variable, negation, brackets, sum_text, product_text, factor_text}
use Rattle.grammar.specs.Extent.{sum_depth, product_depth, factor_depth, SumBelow, ProductBelow, FactorBelow}
use Rattle.grammar.specs.Language.{Reading, ViableWithin}
use Rattle.automaton.specs.States.{AroundSum, AroundProduct, AroundFactor, outermost, in_brackets, first_product, next_product, first_factor, next_factor, negated}
use Rattle.automaton.specs.States.{State, factor_next, digit_next, digits_read, product_read, open_sum, open_product, open_factor, initial}
use Rattle.automaton.proofs.SoFar.{before_sum, before_product, before_factor, so_far}
use Rattle.automaton.proofs.Following.{Follows, follows_wider, follows_split, end_sum}
use Rattle.automaton.proofs.FollowLaws.{follow_sum}
use Rattle.automaton.proofs.TextLaws.{text_initial}
use Rattle.automaton.proofs.BoundLaws.{BoundSum, BoundProduct, BoundFactor, Bound, bound_initial, bound_follows}

-- the brackets that are still to close
unfoldable mutual
  close_sum : AroundSum → List ℕ
  close_sum outermost = []
  close_sum (in_brackets c) = closing ∷ close_factor c

  close_product : AroundProduct → List ℕ
  close_product (first_product k) = close_sum k
  close_product (next_product s k) = close_sum k

  close_factor : AroundFactor → List ℕ
  close_factor (first_factor k) = close_product k
  close_factor (next_factor p k) = close_product k
  close_factor (negated c) = close_factor c

-- a text of the language with at most d open together
record ReadingWithin (d : ℕ) (text : List ℕ) : Type 0 where
  reading : Reading text
  depth : sum_depth reading.tree ≤ d

as_text : {d : ℕ} {a b : List ℕ} → ReadingWithin d a → a ≡ b → ReadingWithin d b
as_text r e = rw e at r

module _ (d : ℕ) where
  mutual
    unfolding close_sum before_sum sum_text BoundSum SumBelow sum_depth open_sum

    complete_sum : (k : AroundSum) (s : Sum) → BoundSum d 100 k → SumBelow 100 s → open_sum k + sum_depth s ≤ d → ReadingWithin d (before_sum k ++ (sum_text s ++ close_sum k))
    complete_sum outermost s o h m = record { reading = record { tree = s; numbers = h; written = sym (append-nil (sum_text s)) }; depth = omega arith }
    complete_sum (in_brackets c) s o h m = as_text (complete_factor c (brackets s) o h (omega arith)) (simp append_assoc)

    complete_product : (k : AroundProduct) (p : Product) → BoundProduct d 100 k → ProductBelow 100 p → open_product k + product_depth p ≤ d → ReadingWithin d (before_product k ++ (product_text p ++ close_product k))
    complete_product (first_product k) p o h m = complete_sum k (lone p) o h m
    complete_product (next_product s k) p o h m = as_text (complete_sum k (plus s p) o.0 (o.1, h) (omega (arith, o.2))) (simp append_assoc)

    complete_factor : (c : AroundFactor) (f : Factor) → BoundFactor d 100 c → FactorBelow 100 f → open_factor c + factor_depth f ≤ d → ReadingWithin d (before_factor c ++ (factor_text f ++ close_factor c))
    complete_factor (first_factor k) f o h m = complete_product k (single f) o h m
    complete_factor (next_factor p k) f o h m = as_text (complete_product k (times p f) o.0 (o.1, h) (omega (arith, o.2))) (simp append_assoc)
    complete_factor (negated c) f o h m = as_text (complete_factor c (negation f) o h (omega arith)) (simp append_assoc)

  begins : {prefix : List ℕ} (rest : List ℕ) → ReadingWithin d (prefix ++ rest) → ViableWithin d prefix
  begins rest r = record { begins = record { rest = rest; whole = r.reading }; depth = r.depth }

  -- what a state has read is viable
  bound_viable : (σ : State) → Bound d 100 σ → ViableWithin d (so_far σ)
  unfolding so_far Bound sum_text SumBelow sum_depth
  bound_viable (factor_next c) o = begins (digit0 ∷ close_factor c) (complete_factor c constant0 o.0 tt (omega (arith, o.1)))
  bound_viable (digit_next c) o =
      begins (digit0 ∷ close_factor c) (as_text (complete_factor c (variable 0) o.0 (omega arith) (omega (arith, o.1))) (simp append_assoc))
  bound_viable (digits_read j c) o =
      begins (close_factor c) (as_text (complete_factor c (variable j) o.0 o.2 (omega (arith, o.1))) (simp append_assoc))
  bound_viable (product_read p k) o = begins (close_product k) (as_text (complete_product k p o.0 o.1 o.2) (simp append_assoc))

  pub viable_follows : {n : ℕ} {τ : State} {bs : List ℕ} → n ≤ 100 → Follows d n initial bs τ → ViableWithin d bs
  viable_follows {τ = τ} m w = rw (text_initial w) at (bound_viable τ (bound_follows d 100 (follows_wider (omega arith) m w) (bound_initial d 100)))

-- a text of the language is followed to its end
pub follow_reading : {text : List ℕ} (r : Reading text) → Follows (sum_depth r.tree) 100 initial text (end_sum r.tree outermost)
unfolding open_sum
follow_reading r = rw r.written at (follow_sum {d = sum_depth r.tree} r.tree outermost (omega arith) r.numbers (omega arith))

-- and what is viable is followed
pub record Followed (d n : ℕ) (bs : List ℕ) : Type 0 where
  pub state : State
  pub follows : Follows d n initial bs state

pub followed : {d : ℕ} {bs : List ℕ} → ViableWithin d bs → Followed d 100 bs
followed {bs = bs} v =
    let h = follows_split bs v.begins.rest (follow_reading v.begins.whole) in
    record { state = h.middle; follows = follows_wider v.depth (omega arith) h.first }
