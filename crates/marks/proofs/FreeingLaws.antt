-- Laws of the lines that marked ANDs free: every marked AND of a circuit restores them, and every other line but its target. Assumes nothing.
use Prim.Native.Nat.{ℕ, zero, suc, ◌+◌, ◌-◌, ◌≤◌, ◌<◌, max}
use native.Mathlib.Omega.{arith}
use native.Mathlib.Nat.{add-zero}
use native.Mathlib.Decide.{dec_lt}
use mathlib.Core.Path.{◌≡◌, refl, sym, ap, ◌∙◌}
use mathlib.Core.Logic.{◌≢◌}
use mathlib.Core.Bool.{true, false, false≢true}
use mathlib.Core.Option.{Option, none}
use mathlib.Core.List.{List, [], ◌∷◌, ◌++◌, append_assoc}
use lib.ListN.{length, get_or, take, drop, length-append}
use lib.Dec.{eqb}
use borrow.Author.Tests.{eqb-true}
use Rattle.wire.specs.Bits.{bit, Bits}
use Rattle.refusal.proofs.CheckLaws.{by_test}
use Rattle.wire.proofs.ListLaws.{drop_next}
use Rattle.gate.specs.declared.gates.Gate.{Gate}
use Rattle.gate.specs.declared.gates.Gate.TheVariants.{Not}
use Rattle.gate.specs.Gates.{WellFormed, All}
use Rattle.gate.specs.Running.{run, uncompute}
use Rattle.gate.proofs.StepLaws.{length_run, run_append, run_bits}
use Rattle.node.specs.Exprs.{Expr, ZERO, ONE, INPUT, NOT, XOR, AND, InputsBelow, EachBelow}
use Rattle.construction.specs.Pools.{Pool, is_among, release}
use Rattle.construction.specs.Construction.{Built, input_of, MadeOperand, operand, and_gate, cleaning, cleaned, build, shares, circuit_gates, lines_needed}
use Rattle.construction.specs.Theorems.{Start, first_built, first_shares}
use Rattle.construction.proofs.Numbers.{control_from, operand_gates, operand_lines, held, most, next_free, build_from, share_from, shares_from, most_of, ApartFrom}
use Rattle.construction.proofs.AndLaws.{held_most, lines_more}
use Rattle.construction.proofs.PoolLaws.{lines_from, in_use_lem, lines_among, lowest_behind, take_behind, build_is, made_is, lines_needed_lem, first_built_lem, rest_shares}
use Rattle.construction.proofs.LineLaws.{all_open, apart_not, apart_xor_first, apart_xor_second, apart_and_first, apart_and_second, marked_leaves}
use Rattle.construction.proofs.RestoreLaws.{circuit_formed, shares_open}
use Rattle.construction.proofs.AfterLaws.{same_front, same_end}
use Rattle.marks.specs.Freeing.{with_operands, Freed, CleansUp, EachMarked, MarkedCleanUp, CleansUpSays}
use Rattle.marks.proofs.EachMarkedLaws.{of_operand}

-- the lines from f on are not below f
among_behind : (f k i : ℕ) → is_among (lines_from f k) i ≡ true → f ≤ i
unfolding is_among lines_from
among_behind f zero i h = absurd (false≢true h)
among_behind f (suc k) i h = by_test (eqb i (f + k)) (λ e. omega (arith, eqb-true i (f + k) e)) (λ e. among_behind f k i (rw e at h))

-- one that is not among the first k of them is behind these
among_none : (f k i : ℕ) → f ≤ i → is_among (lines_from f k) i ≡ false → f + k ≤ i
among_none f k i low h = go (dec_lt i (f + k))
  where
    go : Dec (i < f + k) → f + k ≤ i
    go (yes l) =
        let at : f + (i - f) ≡ i = omega arith in
        absurd (false≢true (sym h ∙ (rw at at (lines_among f k (i - f) (omega arith)))))
    go (no l) = omega arith

-- an operand that is no input is made by the gates that build it
made_gates : {q : Option ℕ} → q ≡ none → (gs : List Gate) → operand_gates q gs ≡ gs
unfolding operand_gates
made_gates e gs = rw e refl

-- gates that open with others, which open with others still
open_both : (x a b y : List Gate) → x ++ ((a ++ b) ++ y) ≡ x ++ (a ++ (b ++ y))
open_both x a b y = ap (λ (l : List Gate). x ++ l) (append_assoc a b y)

open_next : (x a b y : List Gate) → x ++ ((a ++ b) ++ y) ≡ (x ++ a) ++ (b ++ y)
open_next x a b y = open_both x a b y ∙ sym (append_assoc x a (b ++ y))

-- after a marked AND just the lines in use before it are in use
frees : (a b : Expr) (t : ℕ) (p : Pool) → (build (AND true a b) t p).pool.used ≡ p.used
unfolding build cleaned release
frees a b t p = refl

-- a circuit whose gates are well formed on its lines
module _ (n : ℕ) (gates : List Gate) (lines : ℕ) (formed : All (WellFormed lines) gates) where
  -- a marked AND at its place in it
  module _ (before after : List Gate) (a b : Expr) (t f k m : ℕ) (h : k ≤ m) (p : ApartFrom n (AND true a b) t (f + k) lines)
      (stands : gates ≡ before ++ (build_from (AND true a b) t (f + k) ++ after)) where
    -- line t is none of the lines that it frees
    target_kept : (i : ℕ) → Freed a b (in_use_lem f k m) i → i ≢ t
    unfolding in_use_lem
    target_kept i x =
        let more : operand_lines (input_of a) (held a) ≤ operand_lines (input_of a) (most a) = lines_more (input_of a) (held a) (most a) (held_most a) in
        let first = made_is (input_of a) a (build_is a) f k m h in
        let second = made_is (input_of b) b (build_is b) f (k + operand_lines (input_of a) (held a)) (max m (k + operand_lines (input_of a) (most a))) (omega arith) in
        let both : (with_operands a b (in_use_lem f k m)).used ≡ lines_from f _ =
        ap (λ (y : MadeOperand). (operand (input_of b) (build b) y.pool).pool.used) first ∙ ap (λ (y : MadeOperand). y.pool.used) second in
        let made = rw both at x.taken in
        let behind : f + k ≤ i = among_none f k i (among_behind f _ i made) x.was_free in
        omega (arith, p.free)

    restored : (start : List ℕ) → Start lines start → (i : ℕ) → i ≢ t → bit (run (before ++ (build (AND true a b) t (in_use_lem f k m)).gates) start) i ≡ bit (run before start) i
    restored start st i ne =
        let all : All (WellFormed lines) (before ++ (build_from (AND true a b) t (f + k) ++ after)) = rw stands at formed in
        let s : List ℕ = run before start in
        let long : length s ≡ lines = length_run before start ∙ st.long in
        let bits : Bits s = run_bits before start (rw st.long (all_open _ before _ all)) st.bits in
        ap (λ (x : Built). bit (run (before ++ x.gates) start) i) (build_is (AND true a b) t f k m h)
        ∙ ap (λ (r : List ℕ). bit r i) (run_append before (build_from (AND true a b) t (f + k)) start)
        ∙ marked_leaves n a b t (f + k) s (rw long p) bits i ne

    cleans : CleansUp gates lines before a b t (in_use_lem f k m)
    cleans =
        record {
          after = after;
          stands = stands ∙ ap (λ (x : Built). before ++ (x.gates ++ after)) (sym (build_is (AND true a b) t f k m h));
          frees = frees a b t (in_use_lem f k m);
          holds = λ start st i x. restored start st i (target_kept i x);
          restores = λ start st i ne. restored start st i (omega (arith, ne));
        }

  -- and every marked AND of a tree
  each_cleans : (e : Expr) (before after : List Gate) (t f k m : ℕ) → k ≤ m → ApartFrom n e t (f + k) lines
      → gates ≡ before ++ (build_from e t (f + k) ++ after) → EachMarked (CleansUp gates lines) before e t (in_use_lem f k m)
  unfolding build_from next_free
  each_cleans ZERO before after t f k m h p stands = tt
  each_cleans ONE before after t f k m h p stands = tt
  each_cleans (INPUT j) before after t f k m h p stands = tt
  each_cleans (NOT a) before after t f k m h p stands =
      each_cleans a (before ++ (Not t ∷ [])) after t f k m h (apart_not p) (stands ∙ open_next before (Not t ∷ []) (build_from a t (f + k)) after)
  each_cleans (XOR a b) before after t f k m h p stands =
      let A : List Gate = build_from a t (f + k) in
      let B : List Gate = build_from b t (f + k + held a) in
      let at : f + (k + held a) ≡ f + k + held a = omega arith in (
        each_cleans a before (B ++ after) t f k m h (apart_xor_first p) (stands ∙ open_both before A B after),
        rw (build_is a t f k m h)
            (each_cleans b (before ++ A) after t f (k + held a) (max m (k + most a)) (omega (arith, held_most a)) (rw at (apart_xor_second p)) (rw at (stands ∙ open_next before A B after))),
      )
  each_cleans (AND c a b) before after t f k m h p stands =
      let more : operand_lines (input_of a) (held a) ≤ operand_lines (input_of a) (most a) = lines_more (input_of a) (held a) (most a) (held_most a) in
      let k₁ : ℕ = k + operand_lines (input_of a) (held a) in
      let m₁ : ℕ = max m (k + operand_lines (input_of a) (most a)) in
      let g : ℕ = next_free (f + k) a in
      let A : List Gate = operand_gates (input_of a) (build_from a (f + k) (f + k + 1)) in
      let B : List Gate = operand_gates (input_of b) (build_from b g (g + 1)) in
      let rest : List Gate = and_gate (control_from (input_of a) (f + k)) (control_from (input_of b) g) t ∷ cleaning c (A ++ B) in
      let one : f + (k + 1) ≡ f + k + 1 = omega arith in
      let two : f + k₁ ≡ g = omega arith in
      let three : f + (k₁ + 1) ≡ g + 1 = omega arith in
      let first : gates ≡ before ++ (A ++ (B ++ (rest ++ after))) = stands ∙ open_both before (A ++ B) rest after ∙ open_both before A B (rest ++ after) in
      let next : gates ≡ (before ++ A) ++ (B ++ (rest ++ after)) = first ∙ sym (append_assoc before A (B ++ (rest ++ after))) in (
        λ e. cleans before after a b t f k m h (rw e at p) (rw e at stands),
        rw (lowest_behind f k m, take_behind f k m)
            (of_operand (CleansUp gates lines) before a (f + k) (in_use_lem f (k + 1) (max m (k + 1))) (λ e.
            each_cleans a before (B ++ (rest ++ after)) (f + k) f (k + 1) (max m (k + 1)) (omega arith) (rw one (apart_and_first p e))
            (rw one (first ∙ ap (λ (l : List Gate). before ++ (l ++ (B ++ (rest ++ after)))) (made_gates e _))))),
        rw (made_is (input_of a) a (build_is a) f k m h, lowest_behind f k₁ m₁, take_behind f k₁ m₁)
            (of_operand (CleansUp gates lines) (before ++ A) b (f + k₁) (in_use_lem f (k₁ + 1) (max m₁ (k₁ + 1))) (λ e.
            each_cleans b (before ++ A) (rest ++ after) (f + k₁) f (k₁ + 1) (max m₁ (k₁ + 1)) (omega arith) (rw (three, two) (apart_and_second p e))
            (rw (three, two) (next ∙ ap (λ (l : List Gate). (before ++ A) ++ (l ++ (rest ++ after))) (made_gates e _))))),
      )

-- an output's inputs and lines are among all
below_at : (n : ℕ) (es : List Expr) (j : ℕ) → j < length es → EachBelow n es → InputsBelow n (get_or es j ZERO)
below_at n [] j h w = absurd (omega arith)
below_at n (e ∷ es) zero h w = w.0
below_at n (e ∷ es) (suc j) h w = below_at n es j (omega arith) w.1

most_at : (es : List Expr) (j : ℕ) → j < length es → most (get_or es j ZERO) ≤ most_of es
unfolding most_of
most_at [] j h = absurd (omega arith)
most_at (e ∷ es) zero h = omega arith
most_at (e ∷ es) (suc j) h = omega (arith, most_at es j (omega arith))

-- so is every marked AND of a circuit
pub marked_clean_up : MarkedCleanUp
unfolding shares_from share_from
marked_clean_up n es w j h =
    let e : Expr = get_or es j ZERO in
    let f : ℕ = n + length es in
    let gs : List Gate = build_from e (n + j) f in
    let last : List Gate = shares_from (drop (j + 1) es) (n + j + 1) f in
    let next : (shares (drop j es) (n + j) (first_built n es j).pool).gates ≡ (gs ++ uncompute (eqb (n + j)) gs) ++ last =
    rest_shares n es j ∙ ap (λ (l : List Expr). shares_from l (n + j) f) (drop_next es j ZERO h) in
    let stands : circuit_gates n es ≡ first_shares n es j ++ (gs ++ (uncompute (eqb (n + j)) gs ++ last)) =
    shares_open n es j (omega arith) ∙ ap (λ (l : List Gate). first_shares n es j ++ l) (next ∙ append_assoc gs (uncompute (eqb (n + j)) gs) last) in
    rw (first_built_lem n es j)
    (each_cleans n (circuit_gates n es) (n + length es + lines_needed n es) (circuit_formed n es w) e (first_shares n es j) (uncompute (eqb (n + j)) gs ++ last) (n + j) f 0 _ (omega arith)
    (rw add-zero
    (record { inputs = below_at n es j h w; behind = omega arith; free = omega arith; below = omega (arith, lines_needed_lem n es, most_at es j h) }))
    (rw add-zero stands))

-- the first gates of those that open with others
opening : (x y : List Gate) → take (length x) (x ++ y) ≡ x
opening [] y = refl
opening (g ∷ x) y = ap (λ (l : List Gate). g ∷ l) (opening x y)

-- what leaves every single line but t leaves the lines below t and those above
pub cleans_up_says : CleansUpSays
cleans_up_says gates lines start s before a b t p c =
    let gs : List Gate = (build (AND true a b) t p).gates in
    let count : length (before ++ gs) ≡ length before + length gs = length-append before gs in
    let to : take (length before + length gs) gates ≡ before ++ gs =
    rw (← count) (ap (take (length (before ++ gs))) (c.stands ∙ sym (append_assoc before gs c.after)) ∙ opening (before ++ gs) c.after) in
    let from : take (length before) gates ≡ before = ap (take (length before)) c.stands ∙ opening before (gs ++ c.after) in
    let long : length (run (before ++ gs) start) ≡ length (run before start) = length_run (before ++ gs) start ∙ sym (length_run before start) in
    record {
      below = rw (to, from) (same_front t (run (before ++ gs) start) (run before start) long (λ i h. c.restores start s i (omega arith)));
      above = rw (to, from) (same_end (t + 1) (run (before ++ gs) start) (run before start) long (λ i h q. c.restores start s i (omega arith)));
    }
