-- The nodes made so far open the nodes of every text that goes on so. Assumes nothing.
use Prim.Native.Nat.{ℕ, ◌+◌, ◌*◌, ◌-◌, ◌≤◌, ◌<◌}
use native.Mathlib.Omega.{arith}
use native.Mathlib.Decide.{dec_lt}
use native.Mathlib.Nat.{zero-add}
use mathlib.Core.Path.{◌≡◌, refl, sym, ap, ◌∙◌}
use mathlib.Core.Bool.{false}
use mathlib.Core.List.{List, [], ◌∷◌, ◌++◌, append_assoc, append-nil}
use lib.ListN.{length, get_or, length-append, get_or-append}
use lib.Seq.{get_or_at}
use Rattle.refusal.specs.Answers.{result}
use Rattle.node.specs.declared.nodes.Node.{Node}
use Rattle.node.specs.declared.nodes.Node.TheVariants.{Zero, Input, Not, Xor, And}
use Rattle.node.specs.Nodes.{NodeOk}
use Rattle.grammar.specs.Characters.{digit0}
use Rattle.grammar.specs.Grammar.{Sum, Product, Factor, constant0, constant1, variable, negation, brackets}
use Rattle.grammar.specs.FormulaNodes.{sum_count, product_count, factor_count, sum_nodes, product_nodes, factor_nodes}
use Rattle.grammar.proofs.CountLaws.{sum_nodes_lem, product_nodes_lem}
use Rattle.grammar.proofs.OrderLaws.{OkFrom, ok_append, ok_sum, ok_product, ok_table}
use Rattle.automaton.specs.States.{AroundSum, AroundProduct, AroundFactor, outermost, in_brackets, first_product, next_product, first_factor, next_factor, negated}
use Rattle.automaton.specs.States.{State, factor_next, digit_next, digits_read, product_read, made_sum, made_product, made_factor}
use Rattle.automaton.specs.Automaton.{product_with, outside_factor, after_factor, sum_with, outside_product, read_byte, finish_sum, finish_product, finish}
use Rattle.automaton.specs.Answers.{FirstHigh}
use Rattle.automaton.proofs.Following.{Follows, stay, read}
use Rattle.automaton.proofs.Steps.{Step, a_zero, a_one, a_letter, a_bang, a_bracket, a_digit, a_second, behind, an_and, a_caret, a_close, step_to}
use Rattle.automaton.proofs.BoundLaws.{BoundSum, BoundProduct, BoundFactor}

-- the nodes made so far
unfoldable mutual
  nodes_sum : AroundSum → List Node
  nodes_sum outermost = []
  nodes_sum (in_brackets c) = nodes_factor c

  nodes_product : AroundProduct → List Node
  nodes_product (first_product k) = nodes_sum k
  nodes_product (next_product s k) = nodes_sum k ++ sum_nodes s (made_sum k)

  nodes_factor : AroundFactor → List Node
  nodes_factor (first_factor k) = nodes_product k
  nodes_factor (next_factor p k) = nodes_product k ++ product_nodes p (made_product k)
  nodes_factor (negated c) = nodes_factor c

unfoldable nodes_so : State → List Node
nodes_so (factor_next c) = nodes_factor c
nodes_so (digit_next c) = nodes_factor c
nodes_so (digits_read j c) = nodes_factor c
nodes_so (product_read p k) = nodes_product k ++ product_nodes p (made_product k)

mutual
  unfolding nodes_sum made_sum

  length_sum : (k : AroundSum) → length (nodes_sum k) ≡ made_sum k
  length_sum outermost = refl
  length_sum (in_brackets c) = length_factor c

  length_product : (k : AroundProduct) → length (nodes_product k) ≡ made_product k
  length_product (first_product k) = length_sum k
  length_product (next_product s k) = simp length-append (omega (arith, length_sum k, sum_nodes_lem s (made_sum k)))

  length_factor : (c : AroundFactor) → length (nodes_factor c) ≡ made_factor c
  length_factor (first_factor k) = length_product k
  length_factor (next_factor p k) = simp length-append (omega (arith, length_product k, product_nodes_lem p (made_product k)))
  length_factor (negated c) = length_factor c

-- some nodes open others
record Opens (a b : List Node) : Type 0 where
  more : List Node
  is : b ≡ a ++ more

opens_self : (a : List Node) → Opens a a
opens_self a = record { more = []; is = sym (append-nil a) }

opens_more : (a b : List Node) → Opens a (a ++ b)
opens_more a b = record { more = b; is = refl }

opens_then : {a b c : List Node} → Opens a b → Opens b c → Opens a c
opens_then {a} p q = record { more = p.more ++ q.more; is = q.is ∙ ap (λ (l : List Node). l ++ q.more) p.is ∙ append_assoc a p.more q.more }

-- a factor that ends adds its nodes first
opens_after : (f : Factor) (c : AroundFactor) → Opens (nodes_factor c ++ factor_nodes f (made_factor c)) (nodes_so (after_factor f c))
unfolding nodes_so nodes_sum after_factor product_with outside_factor sum_nodes made_sum
opens_after f (first_factor k) = opens_self (nodes_product k ++ factor_nodes f (made_product k))
opens_after f (next_factor p k) =
    record { more = And false (made_product k + product_count p - 1) (made_product k + product_count p + factor_count f - 1) ∷ []; is = simp append_assoc }
opens_after f (negated c) =
    opens_then (record { more = Not (made_factor c + factor_count f - 1) ∷ []; is = simp append_assoc }) (opens_after (negation f) c)

-- and so does a product
opens_summed : (p : Product) (k : AroundProduct) → Opens (nodes_product k ++ product_nodes p (made_product k)) (nodes_sum (outside_product k) ++ sum_nodes (sum_with p k) (made_sum (outside_product k)))
unfolding nodes_sum outside_product sum_with sum_nodes made_sum
opens_summed p (first_product k) = opens_self (nodes_sum k ++ product_nodes p (made_sum k))
opens_summed p (next_product s k) =
    record { more = Xor (made_sum k + sum_count s - 1) (made_sum k + sum_count s + product_count p - 1) ∷ []; is = simp append_assoc }

opens_variable : (j : ℕ) (c : AroundFactor) → Opens (nodes_factor c ++ (Input j ∷ [])) (nodes_so (after_factor (variable j) c))
unfolding sum_nodes
opens_variable j c = opens_after (variable j) c

opens_step : {σ τ : State} {b : ℕ} → Step σ b τ → Opens (nodes_so σ) (nodes_so τ)
unfolding nodes_so nodes_sum made_sum sum_nodes
opens_step (a_zero {c}) = opens_then (opens_more _ _) (opens_after constant0 c)
opens_step (a_one {c}) = opens_then (opens_more _ _) (opens_after constant1 c)
opens_step (a_letter {c}) = opens_self (nodes_factor c)
opens_step (a_bang {c}) = opens_self (nodes_factor c)
opens_step (a_bracket {c}) = opens_self (nodes_factor c)
opens_step (a_digit {c} l u) = opens_self (nodes_factor c)
opens_step (a_second {c} l u l' u') = opens_self (nodes_factor c)
opens_step (behind {c} {j} s) = opens_then (opens_then (opens_more _ _) (opens_variable j c)) (opens_step s)
opens_step (an_and {p} {k}) = opens_self (nodes_product k ++ product_nodes p (made_product k))
opens_step (a_caret {p} {k}) = opens_summed p k
opens_step (a_close {p} {k} {c} e) = ends (outside_product k) e (opens_summed p k)
  where
    ends : (j : AroundSum) → j ≡ in_brackets c → Opens (nodes_product k ++ product_nodes p (made_product k)) (nodes_sum j ++ sum_nodes (sum_with p k) (made_sum j))
        → Opens (nodes_product k ++ product_nodes p (made_product k)) (nodes_so (after_factor (brackets (sum_with p k)) c))
    ends j q h =
        let h' : Opens (nodes_product k ++ product_nodes p (made_product k)) (nodes_sum (in_brackets c) ++ sum_nodes (sum_with p k) (made_sum (in_brackets c))) = rw q at h in
        opens_then h' (opens_after (brackets (sum_with p k)) c)

opens_follows : {d n : ℕ} {σ τ : State} {bs : List ℕ} → Follows d n σ bs τ → Opens (nodes_so σ) (nodes_so τ)
opens_follows {σ = σ} stay = opens_self (nodes_so σ)
opens_follows (read e o i w) = opens_then (opens_step (step_to e)) (opens_follows w)

-- where a text ends, the nodes made open those of its formula
opens_product : (l : ℕ) (p : Product) (k : AroundProduct) (s : Sum) → finish_product l p k ≡ result s → Opens (nodes_product k ++ product_nodes p (made_product k)) (sum_nodes s 0)
unfolding finish_product finish_sum nodes_sum made_sum
opens_product l p k s e = ends (outside_product k) e (opens_summed p k)
  where
    ends : (j : AroundSum) → finish_sum l (sum_with p k) j ≡ result s → Opens (nodes_product k ++ product_nodes p (made_product k)) (nodes_sum j ++ sum_nodes (sum_with p k) (made_sum j))
        → Opens (nodes_product k ++ product_nodes p (made_product k)) (sum_nodes s 0)
    ends outermost q h = let same : sum_with p k ≡ s = cc in rw same at h
    ends (in_brackets c) q h = absurd (let z : ◌≡◌ {A = ℕ} 0 1 = cc in omega arith)

opens_finish : (l : ℕ) (σ : State) (s : Sum) → finish l σ ≡ result s → Opens (nodes_so σ) (sum_nodes s 0)
unfolding finish nodes_so after_factor
opens_finish l (factor_next c) s e = absurd (let z : ◌≡◌ {A = ℕ} 0 1 = cc in omega arith)
opens_finish l (digit_next c) s e = absurd (let z : ◌≡◌ {A = ℕ} 0 1 = cc in omega arith)
opens_finish l (digits_read j c) s e = opens_then (opens_then (opens_more _ _) (opens_variable j c)) (opens_product l (product_with (variable j) c) (outside_factor c) s e)
opens_finish l (product_read p k) s e = opens_product l p k s e

-- behind a number, the next node is an input whose number is that or larger
record Larger (j : ℕ) (c : AroundFactor) (nodes : List Node) : Type 0 where
  input : ℕ
  least : j ≤ input
  opens : Opens (nodes_factor c ++ (Input input ∷ [])) nodes

larger : {d n : ℕ} (l j : ℕ) (c : AroundFactor) {σ τ : State} {bs : List ℕ} (s : Sum) → Follows d n σ bs τ → σ ≡ digits_read j c → finish l τ ≡ result s → Larger j c (sum_nodes s 0)
unfolding finish nodes_so after_factor
larger l j c {σ} s stay a e =
    let e' : finish l (digits_read j c) ≡ result s = rw a at e in
    record { input = j; least = omega arith; opens = opens_then (opens_variable j c) (opens_product l (product_with (variable j) c) (outside_factor c) s e') }
larger l j c {τ = υ} s (read {b = b} q o i w) a e =
    by (step_to (ap (λ (ρ : State). read_byte ρ b) (sym a) ∙ q)) (opens_then (opens_follows w) (opens_finish l υ s e)) (λ k h. larger l k c s w h e)
  where
    by : {b : ℕ} {ρ : State} → Step (digits_read j c) b ρ → Opens (nodes_so ρ) (sum_nodes s 0) → ((k : ℕ) → ρ ≡ digits_read k c → Larger k c (sum_nodes s 0)) → Larger j c (sum_nodes s 0)
    by (a_second {b = b} l₁ u₁ l₂ u₂) rest again =
        let g = again (10 * j + (b - digit0)) refl in
        record { input = g.input; least = omega (arith, g.least); opens = g.opens }
    by (behind t) rest again =
        record { input = j; least = omega arith; opens = opens_then (opens_then (opens_variable j c) (opens_step t)) rest }

-- the nodes made before it are in order
module _ (d n : ℕ) where
  mutual
    unfolding nodes_sum made_sum BoundSum OkFrom

    ordered_sum : (k : AroundSum) → BoundSum d n k → OkFrom n 0 (nodes_sum k)
    ordered_sum outermost o = tt
    ordered_sum (in_brackets c) o = ordered_factor c o

    ordered_product : (k : AroundProduct) → BoundProduct d n k → OkFrom n 0 (nodes_product k)
    ordered_product (first_product k) o = ordered_sum k o
    ordered_product (next_product s k) o = ok_append n 0 (made_sum k) (nodes_sum k) (sum_nodes s (made_sum k)) (zero-add (length (nodes_sum k)) ∙ length_sum k) (ordered_sum k o.0) (ok_sum n s (made_sum k) o.1)

    ordered_factor : (c : AroundFactor) → BoundFactor d n c → OkFrom n 0 (nodes_factor c)
    ordered_factor (first_factor k) o = ordered_product k o
    ordered_factor (next_factor p k) o =
        ok_append n 0 (made_product k) (nodes_product k) (product_nodes p (made_product k)) (zero-add (length (nodes_product k)) ∙ length_product k) (ordered_product k o.0) (ok_product n p (made_product k) o.1)
    ordered_factor (negated c) o = ordered_factor c o

  -- so it is the first that is not, if its number is not below n
  pub first_high : {m : ℕ} (l j : ℕ) (c : AroundFactor) {τ : State} {bs : List ℕ} (s : Sum) → BoundFactor d n c → n ≤ j → Follows m 100 (digits_read j c) bs τ → finish l τ ≡ result s
      → FirstHigh n (sum_nodes s 0) (made_factor c)
  first_high l j c s o h w e =
      let g = larger l j c s w refl e in
      let more : List Node = Input g.input ∷ g.opens.more in
      let all : sum_nodes s 0 ≡ nodes_factor c ++ more = g.opens.is ∙ append_assoc (nodes_factor c) (Input g.input ∷ []) g.opens.more in
      record {
        before = λ k below.
            rw (all, get_or-append (nodes_factor c) more Zero k (omega (arith, length_factor c)))
            (ok_table n (nodes_factor c) (ordered_factor c o) k (omega (arith, length_factor c)));
        input = g.input;
        is = ap (λ (ns : List Node). get_or ns (made_factor c) Zero) all ∙ get_or_at (nodes_factor c) (Input g.input) g.opens.more Zero (made_factor c) (length_factor c);
        high = omega (arith, g.least);
      }

-- and no other node is
pub high_once : {n : ℕ} {nodes : List Node} {i k : ℕ} → FirstHigh n nodes i → FirstHigh n nodes k → i ≡ k
high_once {n} {nodes} {i} {k} p q = omega (arith, not_before p q, not_before q p)
  where
    not_before : {i k : ℕ} → FirstHigh n nodes i → FirstHigh n nodes k → k ≤ i
    not_before {i} {k} p q = by (dec_lt i k)
      where
        by : Dec (i < k) → k ≤ i
        by (yes l) = let ok : NodeOk n i (Input p.input) = rw p.is at (q.before i l) in absurd (omega (arith, ok, p.high))
        by (no l) = omega arith
