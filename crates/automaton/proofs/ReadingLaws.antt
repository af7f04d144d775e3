-- A text has one reading, and reading it gives that. Assumes nothing.
use Prim.Native.Nat.{ℕ, ◌≤◌}
use native.Mathlib.Omega.{arith}
use mathlib.Core.Path.{◌≡◌, refl, sym, ap, ◌∙◌}
use mathlib.Core.List.{List, [], ◌++◌, append-nil}
use Rattle.refusal.specs.Answers.{result, refuse}
use Rattle.refusal.specs.declared.causes.Refusal.TheVariants as cause
use Rattle.wire.specs.Limits.{most_open}
use Rattle.grammar.specs.Grammar.{Sum, Product, Factor, lone, plus, single, times, constant0, constant1, variable, negation, brackets, sum_text}
use Rattle.grammar.specs.Extent.{sum_depth, SumBelow}
use Rattle.grammar.specs.Language.{Reading}
use Rattle.automaton.specs.States.{AroundSum, AroundProduct, AroundFactor, outermost, in_brackets, first_product, next_product, first_factor, next_factor, negated}
use Rattle.automaton.specs.States.{State, factor_next, digit_next, digits_read, product_read, open_sum, initial}
use Rattle.automaton.specs.Automaton.{product_with, outside_factor, after_factor, sum_with, outside_product, finish_sum, finish_product, finish, read_rest}
use Rattle.automaton.specs.Answers.{OneReading}
use Rattle.automaton.proofs.SoFar.{before_sum, so_far}
use Rattle.automaton.proofs.Following.{Follows, follows_same, end_factor, end_product, end_sum}
use Rattle.automaton.proofs.FollowLaws.{follow_sum}
use Rattle.automaton.proofs.TextLaws.{text_summed, text_after, text_initial}
use Rattle.automaton.proofs.BoundLaws.{Bound, BoundSummed, bound_after, bound_summed, bound_initial, bound_follows}
use Rattle.automaton.proofs.ViableLaws.{follow_reading}
use Rattle.automaton.proofs.OutcomeLaws.{read_follows}

-- where a text has ended, its formula is the result
module _ (l : ℕ) where
  finish_factor : (f : Factor) (c : AroundFactor) → finish l (end_factor f c) ≡ finish_product l (product_with f c) (outside_factor c)
  unfolding finish end_factor after_factor product_with outside_factor
  finish_factor constant0 c = refl
  finish_factor constant1 c = refl
  finish_factor (variable j) c = refl
  finish_factor (negation f) c = finish_factor f (negated c)
  finish_factor (brackets s) c = refl

  finish_product_lem : (p : Product) (k : AroundProduct) → finish l (end_product p k) ≡ finish_product l p k
  unfolding end_product product_with outside_factor
  finish_product_lem (single f) k = finish_factor f (first_factor k)
  finish_product_lem (times p f) k = finish_factor f (next_factor p k)

  pub finish_whole : (s : Sum) → finish l (end_sum s outermost) ≡ result s
  unfolding end_sum finish_product sum_with outside_product finish_sum
  finish_whole (lone p) = finish_product_lem p (first_product outermost)
  finish_whole (plus s p) = finish_product_lem p (next_product s outermost)

pub one_reading : OneReading
one_reading a b ha hb e =
    let w = follow_reading (record { tree = a; numbers = ha; written = e }) in
    let v = follow_reading (record { tree = b; numbers = hb; written = refl }) in
    let same : end_sum a outermost ≡ end_sum b outermost = follows_same w v in
    let fa = finish_whole 0 a in
    let fb = finish_whole 0 b in
    cc

-- a formula within the limits is read
pub read_whole : (n l : ℕ) (s : Sum) → SumBelow n s → sum_depth s ≤ most_open → n ≤ 100 → read_rest n l initial (sum_text s) ≡ result s
unfolding open_sum read_rest
read_whole n l s h d m =
    let w : Follows most_open n initial (sum_text s) (end_sum s outermost) = follow_sum s outermost (omega arith) h m in
    ap (read_rest n l initial) (sym (append-nil (sum_text s))) ∙ read_follows n l [] w ∙ finish_whole l s

-- what a result says of the text
pub record Ends (d n : ℕ) (s : Sum) (text : List ℕ) : Type 0 where
  pub written : sum_text s ≡ text
  pub inputs : SumBelow n s
  pub depth : sum_depth s ≤ d

module _ (d n l : ℕ) (s : Sum) where
  ends_product : (p : Product) (k : AroundProduct) → Bound d n (product_read p k) → finish_product l p k ≡ result s → Ends d n s (so_far (product_read p k))
  unfolding finish_product finish_sum Bound open_sum before_sum so_far
  ends_product p k o e = by (outside_product k) (bound_summed d n p k o.0 o.1 o.2) (text_summed p k) e
    where
      by : (j : AroundSum) → BoundSummed d n (sum_with p k) j → before_sum j ++ sum_text (sum_with p k) ≡ so_far (product_read p k)
          → finish_sum l (sum_with p k) j ≡ result s → Ends d n s (so_far (product_read p k))
      by outermost q h r =
          let same : sum_with p k ≡ s = cc in
          rw (← same) (record { written = h; inputs = q.below; depth = omega (arith, q.fits) })
      by (in_brackets c) q h r = absurd (let z : ◌≡◌ {A = ℕ} 0 1 = cc in omega arith)

  ends : (σ : State) → Bound d n σ → finish l σ ≡ result s → Ends d n s (so_far σ)
  unfolding finish Bound after_factor so_far sum_text sum_depth SumBelow
  ends (factor_next c) o e = absurd (let z : ◌≡◌ {A = ℕ} 0 1 = cc in omega arith)
  ends (digit_next c) o e = absurd (let z : ◌≡◌ {A = ℕ} 0 1 = cc in omega arith)
  ends (digits_read j c) o e =
      let q : Ends d n s (so_far (after_factor (variable j) c)) =
      ends_product (product_with (variable j) c) (outside_factor c) (bound_after d n (variable j) c o.0 o.2 (omega (arith, o.1))) e in
      rw (text_after (variable j) c) at q
  ends (product_read p k) o e = ends_product p k o e

  pub ends_text : {τ : State} {text : List ℕ} → Follows d n initial text τ → finish l τ ≡ result s → Ends d n s text
  ends_text {τ} w e = rw (text_initial w) at (ends τ (bound_follows d n w (bound_initial d n)) e)

-- where a text ends, its formula is given or it is refused
pub data Finish (l : ℕ) (σ : State) : Type 0 where
  given : (s : Sum) → finish l σ ≡ result s → Finish l σ
  refused_there : finish l σ ≡ refuse (cause.Text l) → Finish l σ

finished_product : (l : ℕ) (σ : State) (p : Product) (k : AroundProduct) → finish l σ ≡ finish_product l p k → Finish l σ
unfolding finish_product finish_sum
finished_product l σ p k e = by (outside_product k) e
  where
    by : (j : AroundSum) → finish l σ ≡ finish_sum l (sum_with p k) j → Finish l σ
    by outermost q = given (sum_with p k) q
    by (in_brackets c) q = refused_there q

pub finished : (l : ℕ) (σ : State) → Finish l σ
unfolding finish
finished l (factor_next c) = refused_there refl
finished l (digit_next c) = refused_there refl
finished l (digits_read j c) = finished_product l (digits_read j c) (product_with (variable j) c) (outside_factor c) refl
finished l (product_read p k) = finished_product l (product_read p k) p k refl

-- a text whose end is refused has no reading
pub no_reading : {d n l : ℕ} {τ : State} {text : List ℕ} → Follows d n initial text τ → finish l τ ≡ refuse (cause.Text l) → Reading text → ⊥
no_reading {l = l} {τ} w e r =
    let same : τ ≡ end_sum r.tree outermost = follows_same w (follow_reading r) in
    let f = finish_whole l r.tree in
    let z : ◌≡◌ {A = ℕ} 0 1 = cc in omega arith
