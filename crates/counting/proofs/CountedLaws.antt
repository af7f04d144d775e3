-- Laws of what counting answers: a tree's numbers are made of its operands' numbers, and nothing overflows. Assumes nothing.
use Prim.Native.Nat.{ℕ, ◌+◌, ◌-◌, ◌*◌, ◌/◌, ◌<◌, ◌≤◌, max, min}
use native.Mathlib.Omega.{arith}
use native.Mathlib.Nat.{mul-add}
use mathlib.Core.Path.{◌≡◌, refl, sym, ap, ◌∙◌}
use mathlib.Core.Bool.{Bool, true, false, false≢true}
use mathlib.Core.Option.{Option, none, some}
use mathlib.Core.List.{List, [], ◌∷◌}
use lib.ListN.{length, get_or, drop, drop_of_length-le}
use lib.Dec.{ltb}
use borrow.Author.Tests.{ltb-true, ltb-false}
use Rattle.refusal.proofs.CheckLaws.{by_test}
use Rattle.wire.specs.Limits.{most_size, most_counted}
use Rattle.wire.specs.Shown.{shown}
use Rattle.wire.proofs.ListLaws.{drop_next}
use Rattle.node.specs.Exprs.{Expr, ZERO, ONE, INPUT, NOT, XOR, AND, size}
use Rattle.program.specs.Reading.{output_at}
use Rattle.construction.specs.Construction.{input_of}
use Rattle.construction.specs.Counting.{gates_shown}
use Rattle.construction.specs.Steps.{operand_count, and_count, cleaning_count, built_count, undone_count, share_count, shares_count}
use Rattle.construction.proofs.Numbers.{operand_lines, held, most, most_of}
use Rattle.construction.proofs.AndLaws.{held_most, lines_more}
use Rattle.construction.proofs.CountLaws.{lines_few, lines_below_size, and_one}
use Rattle.construction.proofs.PoolLaws.{tree_lines_lem, tree_held_lem, lines_needed_lem}
use Rattle.counting.specs.declared.Needs.{Needs}
use Rattle.std.specs.Prelude as rust
use Rattle.std.specs.Prelude.{Some, None, is_some}
use Rattle.controls.specs.Controls.{found}
use Rattle.counter.specs.Counter.{one_gate, packed_counts, gates_in, most_in, used_in, once_more, most_passed, OperandsMade}
use Rattle.counter.proofs.CounterLaws.{packed_gates, packed_most, packed_used, most_low, used_low, more_gates, same_most, same_used}
use Rattle.counting.specs.Counters.{weighed, Countable, CountRoom, Counted, Needed}
use Rattle.program.specs.Tables.{tree_in, trees_in}
use Rattle.program.proofs.OperandLaws.{Operand, trees_length, tree_at}

-- all that is undone is built
undone_few : (e : Expr) → undone_count 1 e ≤ built_count 1 e
unfolding undone_count built_count
undone_few ZERO = omega arith
undone_few ONE = omega arith
undone_few (INPUT j) = omega arith
undone_few (NOT a) = omega (arith, undone_few a)
undone_few (XOR a b) = omega (arith, undone_few a, undone_few b)
undone_few (AND m a b) = omega arith

-- where its own line counts 2, every gate that builds a tree counts 2, and where it counts 1, they count what a share has
weighed_two : (e : Expr) → weighed 2 e ≡ 2 * built_count 1 e
unfolding weighed
weighed_two e = omega (arith, undone_few e)

weighed_one : (e : Expr) → weighed 1 e ≡ share_count 1 e
unfolding weighed share_count
weighed_one e = omega (arith, undone_few e)

-- an operand of AND counts 2 for each gate that makes it
operand_two : (q : Option ℕ) (e : Expr) → operand_count q (weighed 2 e) ≡ 2 * operand_count q (built_count 1 e)
unfolding operand_count
operand_two (some j) e = refl
operand_two none e = weighed_two e

cleaning_two : (m : Bool) (k l : ℕ) → k ≡ 2 * l → cleaning_count m k ≡ 2 * cleaning_count m l
unfolding cleaning_count
cleaning_two true k l e = e
cleaning_two false k l e = refl

-- so a tree's gates are counted from its operands'
weighed_zero : (own : ℕ) → weighed own ZERO ≡ 0
unfolding weighed built_count undone_count
weighed_zero own = omega arith

weighed_leaf : (own : ℕ) → (weighed own ONE ≡ own) × ((j : ℕ) → weighed own (INPUT j) ≡ own)
unfolding weighed built_count undone_count
weighed_leaf own = (omega arith, λ j. omega arith)

weighed_not : (own : ℕ) (a : Expr) → weighed own (NOT a) ≡ own + weighed own a
unfolding weighed built_count undone_count
weighed_not own a =
    let more : 1 + built_count 1 a - undone_count 1 a ≡ 1 + (built_count 1 a - undone_count 1 a) = omega (arith, undone_few a) in
    rw more (omega (arith, mul-add own 1 (built_count 1 a - undone_count 1 a)))

weighed_xor : (own : ℕ) (a b : Expr) → weighed own (XOR a b) ≡ weighed own a + weighed own b
unfolding weighed built_count undone_count
weighed_xor own a b =
    let x : ℕ = built_count 1 a - undone_count 1 a in
    let y : ℕ = built_count 1 b - undone_count 1 b in
    let both : built_count 1 a + built_count 1 b - (undone_count 1 a + undone_count 1 b) ≡ x + y = omega (arith, undone_few a, undone_few b) in
    rw both (omega (arith, mul-add own x y))

weighed_and : (own : ℕ) (m : Bool) (a b : Expr)
    → let made = operand_count (input_of a) (weighed 2 a) + operand_count (input_of b) (weighed 2 b) in
    weighed own (AND m a b) ≡ made + (own + cleaning_count m made)
unfolding weighed built_count undone_count
weighed_and own m a b =
    let k : ℕ = operand_count (input_of a) (weighed 2 a) + operand_count (input_of b) (weighed 2 b) in
    let l : ℕ = operand_count (input_of a) (built_count 1 a) + operand_count (input_of b) (built_count 1 b) in
    let twice : k ≡ 2 * l = omega (arith, operand_two (input_of a) a, operand_two (input_of b) b) in
    let one : l + (and_count 1 (input_of a) (input_of b) + cleaning_count m l) - (l + cleaning_count m l) ≡ 1 = omega (arith, and_one (input_of a) (input_of b)) in
    rw one (omega (arith, twice, cleaning_two m k l twice))

-- a tree is counted, by numbers
pub record CountedBy (e : Expr) (own s r : ℕ) : Type 0 where
  pub gates_shown_lem : min (gates_in r) (most_counted + 1) ≡ min (gates_in s + weighed own e) (most_counted + 1)
  pub gates_least : gates_in s ≤ gates_in r
  pub gates_most : gates_in r ≤ max (gates_in s) (2 * most_counted) + 2 * size e
  pub used_are : used_in r ≡ used_in s + held e
  pub most_are : most_in r ≡ max (most_in s) (used_in s + most e)

-- that is, as the construction takes them
module _ {e : Expr} {own s r : ℕ} where
  pub by_numbers : Counted e own s r → CountedBy e own s r
  unfolding gates_shown shown
  by_numbers c =
      record {
        gates_shown_lem = c.gates_shown_lem;
        gates_least = c.gates_least;
        gates_most = c.gates_most;
        used_are = c.used_are 0 0 ∙ ap (λ (k : ℕ). used_in s + k) (tree_held_lem e 0 0);
        most_are = c.most_are 0 0 ∙ ap (λ (k : ℕ). max (most_in s) (used_in s + k)) (tree_lines_lem e 0 0);
      }

  counted : CountedBy e own s r → Counted e own s r
  unfolding gates_shown shown
  counted c =
      record {
        gates_shown_lem = c.gates_shown_lem;
        gates_least = c.gates_least;
        gates_most = c.gates_most;
        used_are = λ t f. c.used_are ∙ ap (λ (k : ℕ). used_in s + k) (sym (tree_held_lem e t f));
        most_are = λ t f. c.most_are ∙ ap (λ (k : ℕ). max (most_in s) (used_in s + k)) (sym (tree_lines_lem e t f));
      }

-- a leaf takes no line, and counts its own gate or none
leaf : (e : Expr) (own s : ℕ) {r : ℕ} (w : ℕ) → own ≤ 2 → weighed own e ≡ w → w ≤ own → held e ≡ 0 → most e ≡ 0 → 1 ≤ size e → used_in s ≤ most_in s → r ≡ s + w * one_gate → Counted e own s r
leaf e own s w few is low h m one busy to =
    counted (record {
      gates_shown_lem = omega (arith, more_gates s w to, is);
      gates_least = omega (arith, more_gates s w to);
      gates_most = omega (arith, more_gates s w to);
      used_are = omega (arith, same_used s w to, h);
      most_are = omega (arith, same_most s w to, m, busy);
    })

-- what each arm answers
module _ {own s : ℕ} {n : ℕ} (g : CountRoom n own s) where
  pub counted_zero : Counted ZERO own s s
  unfolding held most size
  counted_zero = leaf ZERO own s 0 g.own_few (weighed_zero own) (omega arith) refl refl (omega arith) g.in_use (omega arith)

  pub counted_one : {r : ℕ} → r ≡ s + own * one_gate → Counted ONE own s r
  unfolding held most size
  counted_one to = leaf ONE own s own g.own_few (weighed_leaf own).0 (omega arith) refl refl (omega arith) g.in_use to

  pub counted_input : (j : ℕ) {r : ℕ} → r ≡ s + own * one_gate → Counted (INPUT j) own s r
  unfolding held most size
  counted_input j to = leaf (INPUT j) own s own g.own_few ((weighed_leaf own).1 j) (omega arith) refl refl (omega arith) g.in_use to

  pub counted_not : {a : Expr} {p r : ℕ} → p ≡ s + own * one_gate → Counted a own p r → Counted (NOT a) own s r
  unfolding held most size
  counted_not {a} {p} to c =
      let d = by_numbers c in
      counted (record {
        gates_shown_lem = omega (arith, d.gates_shown_lem, more_gates s own to, weighed_not own a);
        gates_least = omega (arith, d.gates_least, more_gates s own to);
        gates_most = omega (arith, d.gates_most, more_gates s own to, g.own_few);
        used_are = omega (arith, d.used_are, same_used s own to);
        most_are = omega (arith, d.most_are, same_most s own to, same_used s own to);
      })

  pub counted_xor : {a b : Expr} {p r : ℕ} → Counted a own s p → Counted b own p r → Counted (XOR a b) own s r
  unfolding held most size
  counted_xor {a} {b} c d =
      let x = by_numbers c in
      let y = by_numbers d in
      counted (record {
        gates_shown_lem = omega (arith, x.gates_shown_lem, y.gates_shown_lem, weighed_xor own a b);
        gates_least = omega (arith, x.gates_least, y.gates_least);
        gates_most = omega (arith, x.gates_most, y.gates_most);
        used_are = omega (arith, x.used_are, y.used_are);
        most_are = omega (arith, x.used_are, x.most_are, y.most_are);
      })

-- an operand of AND is counted from s to p
pub record Made (e : Expr) (s p : ℕ) : Type 0 where
  pub gates_shown_lem : min (gates_in p) (most_counted + 1) ≡ min (gates_in s + operand_count (input_of e) (weighed 2 e)) (most_counted + 1)
  pub gates_least : gates_in s ≤ gates_in p
  pub gates_most : gates_in p ≤ max (gates_in s) (2 * most_counted) + 2 * size e
  pub used_are : used_in p ≡ used_in s + operand_lines (input_of e) (held e)
  pub most_are : most_in p ≡ max (most_in s) (used_in s + operand_lines (input_of e) (most e))

no_operand : (o : rust.Option ℕ) (k l : ℕ) → is_some o ≡ true → (operand_count (found o) k ≡ 0) × (operand_lines (found o) l ≡ 0)
unfolding operand_count operand_lines
no_operand (Some j) k l h = (refl, refl)
no_operand None k l h = absurd (false≢true h)

an_operand : (o : rust.Option ℕ) (k l : ℕ) → is_some o ≡ false → (operand_count (found o) k ≡ k) × (operand_lines (found o) l ≡ 1 + l)
unfolding operand_count operand_lines
an_operand (Some j) k l h = absurd (false≢true (sym h))
an_operand None k l h = (refl, refl)

module _ {e : Expr} {s p : ℕ} (o : rust.Option ℕ) (is : found o ≡ input_of e) where
  -- an input adds nothing
  pub made_input : used_in s ≤ most_in s → is_some o ≡ true → p ≡ s → Made e s p
  made_input busy b same =
      let no = rw is at (no_operand o (weighed 2 e) (held e) b) in
      let none = rw is at (no_operand o (weighed 2 e) (most e) b) in
      rw same
      (record {
        gates_shown_lem = omega (arith, no.0);
        gates_least = omega arith;
        gates_most = omega arith;
        used_are = omega (arith, no.1);
        most_are = omega (arith, none.1, busy);
      })

  -- any other operand its own numbers, behind the line that it takes
  pub made_built : {u : ℕ} → used_in s < most_size → most_in s ≤ most_size → is_some o ≡ false
      → u ≡ packed_counts (gates_in s) (max (most_in s) (used_in s + 1)) (used_in s + 1) → Counted e 2 u p → Made e s p
  made_built {u} low few b to c =
      let d = by_numbers c in
      let an = rw is at (an_operand o (weighed 2 e) (held e) b) in
      let also = rw is at (an_operand o (weighed 2 e) (most e) b) in
      let gates : gates_in u ≡ gates_in s = packed_gates (gates_in s) to (omega arith) (omega arith) in
      let lines : most_in u ≡ max (most_in s) (used_in s + 1) = packed_most (gates_in s) to (omega arith) (omega arith) in
      let used : used_in u ≡ used_in s + 1 = packed_used (gates_in s) to (omega arith) (omega arith) in
      record {
        gates_shown_lem = omega (arith, d.gates_shown_lem, gates, an.0);
        gates_least = omega (arith, d.gates_least, gates);
        gates_most = omega (arith, d.gates_most, gates);
        used_are = omega (arith, d.used_are, used, an.1);
        most_are = omega (arith, d.most_are, used, lines, also.1);
      }

module _ {e : Expr} {s p : ℕ} (d : Made e s p) where
  -- the lines in use are still no more than the most in use together
  pub made_use : used_in s ≤ most_in s → used_in p ≤ most_in p
  made_use busy = omega (arith, d.used_are, d.most_are, busy, lines_more (input_of e) (held e) (most e) (held_most e))

  -- and few
  made_lines : operand_lines (input_of e) (most e) ≤ size e
  made_lines = lines_few (input_of e) (most e) (size e) (lines_below_size e)

-- there is room to count a tree behind a line that was taken for it
taken_room : (s : ℕ) {u k : ℕ} → u ≡ packed_counts (gates_in s) (max (most_in s) (used_in s + 1)) (used_in s + 1) → gates_in s + 2 * k ≤ most_passed → most_in s ≤ most_size → used_in s + 1 + k ≤ most_size → CountRoom k 2 u
taken_room s to gates few low =
    let g = packed_gates (gates_in s) to (omega arith) (omega arith) in
    let m = packed_most (gates_in s) to (omega arith) (omega arith) in
    let u = packed_used (gates_in s) to (omega arith) (omega arith) in
    record { own_few = omega arith; small = omega arith; gates_few = omega (arith, g); used_few = omega (arith, u); most_few = omega (arith, m); in_use = omega (arith, m, u) }

-- a line can be taken
abbrev Takable : ℕ → Type 0
Takable s = (gates_in s ≤ most_passed) × (most_in s ≤ most_size) × (used_in s < most_size)

-- where there is room to count a NOT or an XOR there is room for its operands
module _ {own s n : ℕ} (g : CountRoom n own s) where
  -- a gate more overflows nothing
  pub one_more : (gates_in s ≤ most_passed) × (own ≤ 2)
  one_more = (omega (arith, g.gates_few), g.own_few)

  pub not_room : {k p : ℕ} → n ≡ 1 + k → p ≡ s + own * one_gate → CountRoom k own p
  not_room {k} is to =
      record {
        own_few = g.own_few;
        small = omega (arith, g.small);
        gates_few = omega (arith, g.gates_few, g.own_few, more_gates s own to);
        used_few = omega (arith, g.used_few, same_used s own to);
        most_few = omega (arith, g.most_few, same_most s own to);
        in_use = omega (arith, g.in_use, same_used s own to, same_most s own to);
      }

  module _ (a b : Expr) (is : n ≡ 1 + size a + size b) where
    pub xor_first : CountRoom (size a) own s
    xor_first =
        record {
          own_few = g.own_few;
          small = omega (arith, g.small);
          gates_few = omega (arith, g.gates_few);
          used_few = omega (arith, g.used_few);
          most_few = g.most_few;
          in_use = g.in_use;
        }

    pub xor_second : {p : ℕ} → Counted a own s p → CountRoom (size b) own p
    xor_second c =
        let d = by_numbers c in
        record {
          own_few = g.own_few;
          small = omega (arith, g.small);
          gates_few = omega (arith, g.gates_few, g.small, d.gates_most);
          used_few = omega (arith, g.used_few, d.used_are, held_most a, lines_below_size a);
          most_few = omega (arith, g.most_few, g.used_few, d.most_are, lines_below_size a);
          in_use = omega (arith, g.in_use, d.used_are, d.most_are, held_most a);
        }

    -- for an AND there is room for its first operand, which takes a line where it is built
    pub take_first : Takable s
    take_first = (omega (arith, g.gates_few), g.most_few, omega (arith, g.used_few))

    pub first_room : {u : ℕ} → u ≡ packed_counts (gates_in s) (max (most_in s) (used_in s + 1)) (used_in s + 1) → CountRoom (size a) 2 u
    first_room to = taken_room s to (omega (arith, g.gates_few)) g.most_few (omega (arith, g.used_few))

    -- and then for the second
    module _ {p : ℕ} (d : Made a s p) where
      held_few : operand_lines (input_of a) (held a) ≤ operand_lines (input_of a) (most a)
      held_few = lines_more (input_of a) (held a) (most a) (held_most a)

      pub take_second : Takable p
      take_second = (
        omega (arith, g.gates_few, g.small, d.gates_most),
        omega (arith, g.most_few, g.used_few, d.most_are, made_lines d),
        omega (arith, g.used_few, d.used_are, held_few, made_lines d),
      )

      pub second_room : {u : ℕ} → u ≡ packed_counts (gates_in p) (max (most_in p) (used_in p + 1)) (used_in p + 1) → CountRoom (size b) 2 u
      second_room to =
          taken_room p to
          (omega (arith, g.gates_few, g.small, d.gates_most))
          take_second.1
          (omega (arith, g.used_few, d.used_are, held_few, made_lines d))

      module _ {q : ℕ} (e : Made b p q) where
        gates_last : gates_in q + 2 ≤ max (gates_in s) (2 * most_counted) + 2 * n
        gates_last = omega (arith, d.gates_most, e.gates_most)

        -- where counting has come with both operands
        pub operands_made : OperandsMade s q
        operands_made =
            record {
              gates_least = omega (arith, d.gates_least, e.gates_least);
              gates_few = omega (arith, g.gates_few, g.small, gates_last);
              used_least = omega (arith, d.used_are, e.used_are);
            }

        -- one gate more overflows nothing
        pub last_more : (gates_in q ≤ most_passed) × (own ≤ 2)
        last_more = (operands_made.gates_few, g.own_few)

        pub counted_plain : {r : ℕ} {m : Bool} → m ≡ false → r ≡ q + own * one_gate → Counted (AND m a b) own s r
        unfolding cleaning_count held most size
        counted_plain un to =
            rw un
            (counted (record {
              gates_shown_lem = omega (arith, more_gates q own to, d.gates_shown_lem, e.gates_shown_lem, weighed_and own false a b);
              gates_least = omega (arith, more_gates q own to, d.gates_least, e.gates_least);
              gates_most = omega (arith, more_gates q own to, gates_last, is, g.own_few);
              used_are = omega (arith, same_used q own to, d.used_are, e.used_are);
              most_are = omega (arith, same_most q own to, d.used_are, d.most_are, e.most_are);
            }))

        module _ {u : ℕ} (to : u ≡ packed_counts (once_more (gates_in s) (gates_in q)) (most_in q) (used_in s)) where
          cleaned_gates : gates_in u ≡ once_more (gates_in s) (gates_in q)
          cleaned_gates = packed_gates (once_more (gates_in s) (gates_in q)) to (most_low q) (used_low s)

          -- the gates once more, by whether they are above what is shown
          more_by : (P : ℕ → Type 0) → (most_counted < gates_in q → P (gates_in q)) → (gates_in q ≤ most_counted → P (gates_in q + (gates_in q - gates_in s))) → P (gates_in u)
          more_by P above within =
              rw cleaned_gates
              (by_test (ltb most_counted (gates_in q))
              (λ t. rw t (above (ltb-true most_counted (gates_in q) t)))
              (λ t. rw t (within (ltb-false most_counted (gates_in q) t))))

          pub cleaned_more : (gates_in u ≤ most_passed) × (own ≤ 2)
          cleaned_more = (more_by (λ (k : ℕ). k ≤ most_passed) (λ h. operands_made.gates_few) (λ h. omega arith), g.own_few)

          pub counted_marked : {r : ℕ} {m : Bool} → m ≡ true → r ≡ u + own * one_gate → Counted (AND m a b) own s r
          unfolding cleaning_count held most size
          counted_marked is-marked at =
              let lines : most_in u ≡ most_in q = packed_most (once_more (gates_in s) (gates_in q)) to (most_low q) (used_low s) in
              let used : used_in u ≡ used_in s = packed_used (once_more (gates_in s) (gates_in q)) to (most_low q) (used_low s) in
              let made : ℕ = operand_count (input_of a) (weighed 2 a) + operand_count (input_of b) (weighed 2 b) in
              let both : min (gates_in q) (most_counted + 1) ≡ min (gates_in s + made) (most_counted + 1) = omega (arith, d.gates_shown_lem, e.gates_shown_lem) in
              let least : gates_in s ≤ gates_in q = operands_made.gates_least in
              rw is-marked
              (counted (record {
                gates_shown_lem =
                    omega (arith, more_gates u own at, weighed_and own true a b, more_by (λ (k : ℕ). min (k + own) (most_counted + 1) ≡ min (gates_in s + (made + (own + made))) (most_counted + 1)) (λ h. omega (arith, both)) (λ h. omega (arith, both, least)));
                gates_least = omega (arith, more_gates u own at, more_by (λ (k : ℕ). gates_in s ≤ k) (λ h. least) (λ h. omega (arith, least)));
                gates_most = omega (arith, more_gates u own at, g.own_few, is, gates_last, more_by (λ (k : ℕ). k ≤ max (gates_in q) (2 * most_counted)) (λ h. omega arith) (λ h. omega arith));
                used_are = omega (arith, same_used u own at, used);
                most_are = omega (arith, same_most u own at, lines, d.used_are, d.most_are, e.most_are);
              }))

-- the operands of a node that is small enough are so too
pub countable_operand : {nodes : List ℕ} {i a : ℕ} → Countable nodes i → Operand nodes i a → Countable nodes a
countable_operand m o = record { valid = o.valid; small = omega (arith, m.small, o.smaller) }

-- the first k outputs are counted: what is left, with what is counted, is the whole
pub record Tallied (es : List Expr) (s k : ℕ) : Type 0 where
  pub within : k ≤ length es
  pub few : gates_in s ≤ 2 * most_counted + 2 * most_size * k
  pub most_few : most_in s ≤ most_size
  pub gates_left : min (gates_in s + shares_count (drop k es)) (most_counted + 1) ≡ min (shares_count es) (most_counted + 1)
  pub lines_left : max (most_in s) (most_of (drop k es)) ≡ most_of es

pub tallied_start : (es : List Expr) → Tallied es 0 0
unfolding gates_in most_in
tallied_start es = record { within = omega arith; few = omega arith; most_few = omega arith; gates_left = omega arith; lines_left = omega arith }

module _ {es : List Expr} {s k : ℕ} (m : Tallied es s k) where
  -- the number of gates passed on is few
  pub tallied_few : k ≤ 64 → gates_in s ≤ most_passed
  tallied_few h = omega (arith, m.few)

  -- every line is free again
  module _ {u : ℕ} (to : u ≡ packed_counts (gates_in s) (most_in s) 0) where
    freed_gates : gates_in u ≡ gates_in s
    freed_gates = packed_gates (gates_in s) to (most_low s) (omega arith)

    freed_most : most_in u ≡ most_in s
    freed_most = packed_most (gates_in s) to (most_low s) (omega arith)

    freed_used : used_in u ≡ 0
    freed_used = packed_used (gates_in s) to (most_low s) (omega arith)

    -- there is room to count the next output
    pub output_room : {n : ℕ} → k < 64 → n ≤ most_size → CountRoom n 1 u
    output_room low small =
        record {
          own_few = omega arith;
          small = small;
          gates_few = omega (arith, m.few, freed_gates);
          used_few = omega (arith, freed_used);
          most_few = omega (arith, m.most_few, freed_most);
          in_use = omega (arith, freed_used);
        }

    tallied_next : (r : ℕ) → k < length es → Counted (get_or es k ZERO) 1 u r → size (get_or es k ZERO) ≤ most_size → Tallied es r (k + 1)
    unfolding shares_count most_of
    tallied_next r h c small =
        let d = by_numbers c in
        let next : drop k es ≡ get_or es k ZERO ∷ drop (k + 1) es = drop_next es k ZERO h in
        record {
          within = omega arith;
          few = omega (arith, m.few, freed_gates, d.gates_most, small);
          most_few = omega (arith, m.most_few, freed_most, freed_used, d.most_are, lines_below_size (get_or es k ZERO), small);
          gates_left = omega (arith, m.gates_left, ap shares_count next, freed_gates, d.gates_shown_lem, weighed_one (get_or es k ZERO));
          lines_left = omega (arith, m.lines_left, ap most_of next, freed_most, freed_used, d.most_are);
        }

  pub tallied_all : {r : Needs} → length es ≤ k → r ≡ record { gates = gates_shown (gates_in s); lines = most_in s } → Needed es r
  unfolding gates_shown shown shares_count most_of
  tallied_all h e =
      let none : drop k es ≡ [] = drop_of_length-le es h in
      rw e
      (record { gates_are = omega (arith, m.gates_left, ap shares_count none); lines_are = λ n. omega (arith, m.lines_left, ap most_of none, lines_needed_lem n es) })

-- the next output's node is counted
pub tallied_output : (nodes outputs : List ℕ) {s k : ℕ} → Tallied (trees_in nodes outputs) s k → k < length outputs / 2
    → (o u r : ℕ) → u ≡ packed_counts (gates_in s) (most_in s) 0 → o ≡ output_at outputs k → Countable nodes o → Counted (tree_in nodes o) 1 u r
    → Tallied (trees_in nodes outputs) r (k + 1)
tallied_output nodes outputs {s} {k} m h o u r to e v c =
    let is : tree_in nodes o ≡ get_or (trees_in nodes outputs) k ZERO = ap (tree_in nodes) e ∙ sym (tree_at nodes outputs k h) in
    tallied_next m to r (omega (arith, trees_length nodes outputs)) (rw is at c) (rw is at v.small)
