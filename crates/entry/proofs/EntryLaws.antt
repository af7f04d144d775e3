-- Laws of an entry of the count list: it is made of the operands' entries, and its counts are small. Assumes nothing.
use Prim.Native.Nat.{ℕ, ◌+◌, ◌≤◌, max}
use native.Mathlib.Omega.{arith}
use mathlib.Core.Path.{◌≡◌, refl, sym, ap, ap₂, ◌∙◌}
use mathlib.Core.Bool.{Bool, true, false, cond, false≢true}
use mathlib.Core.Option as tree
use lib.Dec.{eqb}
use Rattle.std.specs.Prelude.{Option, Some, None, is_some, ◌&&◌}
use Rattle.std.specs.Option.{option_eq}
use Rattle.wire.specs.Limits.{most_quoted}
use Rattle.wire.specs.Shown.{shown}
use Rattle.wire.proofs.ShownLaws.{shown_few, shown_both, shown_more}
use Rattle.node.specs.Exprs.{Expr, ZERO, ONE, INPUT, NOT, XOR, AND}
use Rattle.construction.specs.Construction.{input_of}
use Rattle.construction.specs.Steps.{tree_held, operand_count, same_input, and_count, cleaning_count, built_count, undone_count}
use Rattle.construction.specs.Theorems.{tree_lines}
use Rattle.construction.proofs.CountLaws.{operand_few, and_one}
use Rattle.construction.proofs.Numbers.{operand_lines, held, most}
use Rattle.construction.proofs.PoolLaws.{tree_lines_lem, tree_held_lem}
use Rattle.entry.specs.declared.Tally.{Tally}
use Rattle.entry.specs.declared.Entry.{Entry}
use Rattle.entry.specs.declared.OperandCounts.{OperandCounts}
use Rattle.entry.specs.Entries.{tally_of, input_field, input_in, leaf_entry, operand_from, and_tally, entry_of, SmallTally, SmallEntry, SmallOperand}

tally_small : (c : ℕ) (e : Expr) → SmallTally (tally_of c e)
unfolding tally_of
tally_small c e = record { built_few = shown_few most_quoted (built_count c e); undone_few = shown_few most_quoted (undone_count c e) }

-- the counts of an entry are small
pub small : (e : Expr) {x : Entry} → x ≡ entry_of e → SmallEntry x
unfolding entry_of
small e p =
    rw p
    (record {
      gates_small = tally_small 1 e;
      toffolis_small = tally_small 0 e;
      held_few = shown_few most_quoted (tree_held e 0 1);
      lines_few = shown_few most_quoted (tree_lines e 0 1);
    })

-- what an entry has of an input says that input
input_back : (q : tree.Option ℕ) → input_in (input_field q) ≡ q
unfolding input_field input_in
input_back tree.none = refl
input_back (tree.some j) = refl

-- what an operand adds, by what its entry says of an input
input_adds : (q : Option ℕ) (k : ℕ) → is_some q ≡ true → operand_count (input_in q) k ≡ 0
unfolding input_in operand_count
input_adds (Some j) k e = refl
input_adds None k e = absurd (false≢true e)

other_adds : (q : Option ℕ) (k : ℕ) → is_some q ≡ false → operand_count (input_in q) k ≡ k
unfolding input_in operand_count
other_adds (Some j) k e = absurd (false≢true (sym e))
other_adds None k e = refl

pub operand_input : (x : Entry) → is_some x.input ≡ true → record { gates = 0; toffolis = 0; held = 0; lines = 0 } ≡ operand_from x
operand_input x e =
    let none : (k : ℕ) → operand_count (input_in x.input) k ≡ 0 = λ k. input_adds x.input k e in
    rw (none x.gates.built, none x.toffolis.built, none (1 + x.held), none (1 + x.lines)) refl

pub operand_built : (x : Entry) → is_some x.input ≡ false → record { gates = x.gates.built; toffolis = x.toffolis.built; held = 1 + x.held; lines = 1 + x.lines } ≡ operand_from x
operand_built x e =
    let all : (k : ℕ) → operand_count (input_in x.input) k ≡ k = λ k. other_adds x.input k e in
    rw (all x.gates.built, all x.toffolis.built, all (1 + x.held), all (1 + x.lines)) refl

-- what the gate of an AND counts, by what both entries say
pub toffolis_are : (x y : Option ℕ) → and_count 0 (input_in x) (input_in y) ≡ cond (is_some x && option_eq eqb x y) 0 1
unfolding input_in and_count same_input
toffolis_are None y = refl
toffolis_are (Some i) None = refl
toffolis_are (Some i) (Some j) = refl

-- what an operand adds is small
pub added_small : {x : Entry} {o : OperandCounts} → SmallEntry x → o ≡ operand_from x → (o ≡ operand_from x) × SmallOperand o
added_small {x} s e =
    let q : tree.Option ℕ = input_in x.input in
    let small : SmallOperand (operand_from x) =
    record {
      gates_few = omega (arith, operand_few q x.gates.built);
      toffolis_few = omega (arith, operand_few q x.toffolis.built);
      held_few = omega (arith, operand_few q (1 + x.held));
      lines_few = omega (arith, operand_few q (1 + x.lines));
    } in
    (e, rw e small)

cond_few : (b : Bool) → cond b 0 1 ≤ 1
cond_few true = omega arith
cond_few false = omega arith

pub toffoli_few : (q r : tree.Option ℕ) → and_count 0 q r ≤ 1
unfolding and_count
toffoli_few q r = cond_few (same_input q r)

-- no more gates clean up behind an AND than made its operands
pub cleaning_few : (m : Bool) (made : ℕ) → cleaning_count m made ≤ made
unfolding cleaning_count
cleaning_few true made = omega arith
cleaning_few false made = omega arith

-- where numbers are shown alike, so are their sums
sum_alike : (a b k l : ℕ) → shown most_quoted a ≡ shown most_quoted k → shown most_quoted b ≡ shown most_quoted l → shown most_quoted (a + b) ≡ shown most_quoted (k + l)
sum_alike a b k l p q = sym (shown_both most_quoted a b) ∙ ap₂ (λ (m n : ℕ). shown most_quoted (m + n)) p q ∙ shown_both most_quoted k l

-- the larger of two numbers is shown as the larger of both as shown
shown_larger : (a b : ℕ) → shown most_quoted (max a b) ≡ max (shown most_quoted a) (shown most_quoted b)
unfolding shown
shown_larger a b = omega arith

-- so the most lines of two trees are shown alike
most_alike : (a h b k i l : ℕ) → shown most_quoted a ≡ shown most_quoted k → shown most_quoted h ≡ shown most_quoted i → shown most_quoted b ≡ shown most_quoted l
    → shown most_quoted (max a (h + b)) ≡ shown most_quoted (max k (i + l))
most_alike a h b k i l p q r = shown_larger a (h + b) ∙ ap₂ max p (sum_alike h b i l q r) ∙ sym (shown_larger k (i + l))

-- and so are gates with those that clean up behind them
cleaned_alike : (m : Bool) (k l : ℕ) → shown most_quoted k ≡ shown most_quoted l → shown most_quoted (k + cleaning_count m k) ≡ shown most_quoted (l + cleaning_count m l)
unfolding cleaning_count
cleaned_alike true k l p = sum_alike k k l l p p
cleaned_alike false k l p = sum_alike k 0 l 0 p refl

-- and the lines that an AND still holds
held_alike : (m : Bool) (k l : ℕ) → shown most_quoted k ≡ shown most_quoted l → shown most_quoted (cond m 0 k) ≡ shown most_quoted (cond m 0 l)
held_alike true k l p = refl
held_alike false k l p = p

-- a number as it is shown is shown alike
shown_again : (k : ℕ) → shown most_quoted (shown most_quoted k) ≡ shown most_quoted k
unfolding shown
shown_again k = omega arith

-- so what an operand adds is, whether it goes by a number or by how that is shown
made_alike : (q : tree.Option ℕ) (k : ℕ) → shown most_quoted (operand_count q (shown most_quoted k)) ≡ shown most_quoted (operand_count q k)
unfolding operand_count
made_alike (tree.some j) k = refl
made_alike tree.none k = shown_again k

lines_alike : (q : tree.Option ℕ) (k : ℕ) → shown most_quoted (operand_count q (1 + shown most_quoted k)) ≡ shown most_quoted (operand_lines q k)
unfolding operand_count operand_lines
lines_alike (tree.some j) k = refl
lines_alike tree.none k = shown_more most_quoted 1 k

tally_made : (c : ℕ) (q : tree.Option ℕ) (e : Expr) {x : Tally} → x ≡ tally_of c e → shown most_quoted (operand_count q x.built) ≡ shown most_quoted (operand_count q (built_count c e))
unfolding tally_of
tally_made c q e p = rw p (made_alike q (built_count c e))

-- tallies of operands make a node's
module _ (c : ℕ) {x : Tally} (a : Expr) (p : x ≡ tally_of c a) where
  tally_not : ◌≡◌ {A = Tally} (record { built = shown most_quoted (c + x.built); undone = x.undone }) (tally_of c (NOT a))
  unfolding tally_of built_count undone_count
  tally_not = rw (p, shown_more most_quoted c (built_count c a)) refl

  module _ {y : Tally} (b : Expr) (q : y ≡ tally_of c b) where
    tally_xor : ◌≡◌ {A = Tally} (record { built = shown most_quoted (x.built + y.built); undone = shown most_quoted (x.undone + y.undone) }) (tally_of c (XOR a b))
    unfolding tally_of built_count undone_count
    tally_xor = rw (p, q, shown_both most_quoted (built_count c a) (built_count c b), shown_both most_quoted (undone_count c a) (undone_count c b)) refl

    tally_and : (m : Bool) {g k l : ℕ} → g ≡ and_count c (input_of a) (input_of b) → k ≡ operand_count (input_of a) x.built → l ≡ operand_count (input_of b) y.built
        → and_tally m g (k + l) ≡ tally_of c (AND m a b)
    unfolding tally_of built_count undone_count shown
    tally_and m {g} {k} {l} eg ek el =
        let made : ℕ = operand_count (input_of a) (built_count c a) + operand_count (input_of b) (built_count c b) in
        let both : shown most_quoted (k + l) ≡ shown most_quoted made = rw (ek, el) (sum_alike _ _ _ _ (tally_made c (input_of a) a p) (tally_made c (input_of b) b q)) in
        let undone : shown most_quoted (k + l + cleaning_count m (k + l)) ≡ shown most_quoted (made + cleaning_count m made) = cleaned_alike m (k + l) made both in
        let all : shown most_quoted (g + (k + l + cleaning_count m (k + l))) ≡ shown most_quoted (built_count c (AND m a b)) = omega (arith, undone, eg) in
        ap₂ (λ (u v : ℕ). record { built = u; undone = v }) all undone

-- an entry from its parts
whole : (e : Expr) {g t : Tally} {h l : ℕ} {i : Option ℕ} → g ≡ tally_of 1 e → t ≡ tally_of 0 e → h ≡ shown most_quoted (held e) → l ≡ shown most_quoted (most e) → i ≡ input_field (input_of e)
    → record { gates = g; toffolis = t; held = h; lines = l; input = i } ≡ entry_of e
unfolding entry_of
whole e g t h l i = rw (g, t, h, l, i, tree_held_lem e 0 1, tree_lines_lem e 0 1) refl

-- the leaves have one gate or none, and take no line
pub entry_zero : leaf_entry 0 None ≡ entry_of ZERO
unfolding tally_of built_count undone_count held most shown input_of input_field
entry_zero = whole ZERO refl refl refl refl refl

pub entry_one : leaf_entry 1 None ≡ entry_of ONE
unfolding tally_of built_count undone_count held most shown input_of input_field
entry_one = whole ONE refl refl refl refl refl

pub entry_input : (j : ℕ) → leaf_entry 1 (Some j) ≡ entry_of (INPUT j)
unfolding tally_of built_count undone_count held most shown input_of input_field
entry_input j = whole (INPUT j) refl refl refl refl refl

-- an entry's parts
module _ {x : Entry} (e : Expr) (p : x ≡ entry_of e) where
  gates : x.gates ≡ tally_of 1 e
  unfolding entry_of
  gates = ap (λ (y : Entry). y.gates) p

  toffolis : x.toffolis ≡ tally_of 0 e
  unfolding entry_of
  toffolis = ap (λ (y : Entry). y.toffolis) p

  lines_held : x.held ≡ shown most_quoted (held e)
  unfolding entry_of
  lines_held = ap (λ (y : Entry). y.held) p ∙ ap (shown most_quoted) (tree_held_lem e 0 1)

  lines : x.lines ≡ shown most_quoted (most e)
  unfolding entry_of
  lines = ap (λ (y : Entry). y.lines) p ∙ ap (shown most_quoted) (tree_lines_lem e 0 1)

  input : input_in x.input ≡ input_of e
  unfolding entry_of
  input = ap (λ (y : Entry). input_in y.input) p ∙ input_back (input_of e)

  -- what it adds as an operand goes by its tree
  made : {o : OperandCounts} → o ≡ operand_from x
      → o
      ≡ record {
        gates = operand_count (input_of e) x.gates.built;
        toffolis = operand_count (input_of e) x.toffolis.built;
        held = operand_count (input_of e) (1 + x.held);
        lines = operand_count (input_of e) (1 + x.lines);
      }
  made q = rw input at q

-- entries of operands make a node's
pub entry_not : {x : Entry} (a : Expr) → x ≡ entry_of a → {g t : Tally}
    → g ≡ record { built = shown most_quoted (1 + x.gates.built); undone = x.gates.undone }
    → t ≡ record { built = shown most_quoted (0 + x.toffolis.built); undone = x.toffolis.undone }
    → record { gates = g; toffolis = t; held = x.held; lines = x.lines; input = None } ≡ entry_of (NOT a)
unfolding most held input_of input_field
entry_not a p g t = whole (NOT a) (g ∙ tally_not 1 a (gates a p)) (t ∙ tally_not 0 a (toffolis a p)) (lines_held a p) (lines a p) refl

module _ {x y : Entry} (a b : Expr) (p : x ≡ entry_of a) (q : y ≡ entry_of b) where
  pub entry_xor : {g t : Tally} {h l : ℕ}
      → g ≡ record { built = shown most_quoted (x.gates.built + y.gates.built); undone = shown most_quoted (x.gates.undone + y.gates.undone) }
      → t ≡ record { built = shown most_quoted (x.toffolis.built + y.toffolis.built); undone = shown most_quoted (x.toffolis.undone + y.toffolis.undone) }
      → h ≡ shown most_quoted (x.held + y.held)
      → l ≡ shown most_quoted (max x.lines (x.held + y.lines))
      → record { gates = g; toffolis = t; held = h; lines = l; input = None } ≡ entry_of (XOR a b)
  unfolding most held input_of input_field
  entry_xor g t h l =
      whole (XOR a b)
      (g ∙ tally_xor 1 a (gates a p) b (gates b q))
      (t ∙ tally_xor 0 a (toffolis a p) b (toffolis b q))
      (h ∙ rw (lines_held a p, lines_held b q) (shown_both most_quoted (held a) (held b)))
      (l ∙ rw (lines a p, lines_held a p, lines b q) (most_alike _ _ _ _ _ _ (shown_again (most a)) (shown_again (held a)) (shown_again (most b))))
      refl

  pub entry_and : (m : Bool) {o u : OperandCounts} → o ≡ operand_from x → u ≡ operand_from y → {k : ℕ} → k ≡ and_count 0 (input_in x.input) (input_in y.input) → {g t : Tally} {h l : ℕ}
      → g ≡ and_tally m 1 (o.gates + u.gates)
      → t ≡ and_tally m k (o.toffolis + u.toffolis)
      → h ≡ shown most_quoted (cond m 0 (o.held + u.held))
      → l ≡ shown most_quoted (max o.lines (o.held + u.lines))
      → record { gates = g; toffolis = t; held = h; lines = l; input = None } ≡ entry_of (AND m a b)
  unfolding most held input_of input_field
  entry_and m eo eu ek g t h l =
      let first = made a p eo in
      let second = made b q eu in
      let firstHeld = lines_alike (input_of a) (held a) in
      let secondHeld = lines_alike (input_of b) (held b) in
      whole (AND m a b)
      (g ∙ tally_and 1 a (gates a p) b (gates b q) m (sym (and_one (input_of a) (input_of b))) (ap (λ (v : OperandCounts). v.gates) first) (ap (λ (v : OperandCounts). v.gates) second))
      (t ∙ tally_and 0 a (toffolis a p) b (toffolis b q) m (rw (input a p, input b q) at ek) (ap (λ (v : OperandCounts). v.toffolis) first) (ap (λ (v : OperandCounts). v.toffolis) second))
      (h ∙ rw (first, second, lines_held a p, lines_held b q) (held_alike m _ _ (sum_alike _ _ _ _ firstHeld secondHeld)))
      (l ∙ rw (first, second, lines a p, lines_held a p, lines b q) (most_alike _ _ _ _ _ _ (lines_alike (input_of a) (most a)) firstHeld (lines_alike (input_of b) (most b))))
      refl
