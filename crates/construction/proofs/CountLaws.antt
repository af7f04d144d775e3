-- Laws of counting: the counts are the lengths of what the construction writes, and the sizes bound them. Assumes nothing.
use Prim.Native.Nat.{ℕ, ◌+◌, ◌<◌, ◌≤◌}
use native.Mathlib.Omega.{arith}
use native.Mathlib.Nat.{zero-add}
use mathlib.Core.Path.{◌≡◌, refl, sym, ap, ap₂, ◌∙◌}
use mathlib.Core.Logic.{◌≢◌, ◌⊎◌, inl, inr, ⊎_elim}
use mathlib.Core.Bool.{Bool, true, false}
use mathlib.Core.Option.{Option, none, some}
use mathlib.Core.List.{List, [], ◌∷◌}
use lib.ListN.{length, length-append}
use lib.Dec.{eqb}
use borrow.Author.Tests.{eq-eqb}
use Rattle.wire.specs.Limits.{most_gates}
use Rattle.wire.specs.Shown.{shown}
use Rattle.refusal.proofs.CheckLaws.{by_test}
use Rattle.gate.specs.declared.gates.Gate.{Gate}
use Rattle.gate.specs.Gates.{target, toffoli_count, All}
use Rattle.gate.specs.Running.{without, uncompute}
use Rattle.gate.proofs.ToffoliLaws.{counted, counted_length, counted_toffolis, counted_append, counted_reverse, counted_uncompute, counted_without}
use Rattle.gate.proofs.UncomputeLaws.{without_none, one_out}
use Rattle.node.specs.Exprs.{Expr, ZERO, ONE, INPUT, NOT, XOR, AND, size, InputsBelow}
use Rattle.construction.specs.Construction.{input_of, and_gate, cleaning, circuit_gates}
use Rattle.construction.specs.Counting.{gates_shown}
use Rattle.construction.specs.Steps.{operand_count, same_input, and_count, cleaning_count, built_count, undone_count, share_count, shares_count}
use Rattle.construction.proofs.Numbers.{control_from, operand_gates, operand_lines, held, most, next_free, build_from, share_from, shares_from}
use Rattle.construction.proofs.PoolLaws.{circuit_is}
use Rattle.construction.proofs.AndLaws.{input_below, same_control, lines_built, lines_more, held_most, all_cleaning, and_by, and_target}
use Rattle.construction.proofs.LineLaws.{next_behind, operands_from, operands_miss}

-- the gates that make an operand count what those that build it do, or nothing
made_counted : (c : ℕ) (q : Option ℕ) (gs : List Gate) (k : ℕ) → (q ≡ none → counted c gs ≡ k) → counted c (operand_gates q gs) ≡ operand_count q k
unfolding counted operand_gates operand_count
made_counted c (some j) gs k h = refl
made_counted c none gs k h = h refl

operands_counted : (c : ℕ) (a b : Expr) (f : ℕ)
    → (input_of a ≡ none → counted c (build_from a f (f + 1)) ≡ built_count c a)
    → (input_of b ≡ none → counted c (build_from b (next_free f a) (next_free f a + 1)) ≡ built_count c b)
    → counted c (operands_from a b f) ≡ operand_count (input_of a) (built_count c a) + operand_count (input_of b) (built_count c b)
operands_counted c a b f ha hb =
    let A : List Gate = build_from a f (f + 1) in
    let B : List Gate = build_from b (next_free f a) (next_free f a + 1) in
    counted_append c (operand_gates (input_of a) A) (operand_gates (input_of b) B)
    ∙ ap₂ ◌+◌ (made_counted c (input_of a) A (built_count c a) ha) (made_counted c (input_of b) B (built_count c b) hb)

-- the gate of an AND counts what the inputs that its operands name say, where inputs are below the work lines
gate_counted : (c : ℕ) (q r : Option ℕ) (f g t : ℕ) → ((i : ℕ) → q ≡ some i → i < g) → ((j : ℕ) → r ≡ some j → j < f) → (q ≡ none → f < g)
    → counted c (and_gate (control_from q f) (control_from r g) t ∷ []) ≡ and_count c q r
unfolding counted and_gate and_count
gate_counted c q r f g t hq hr h =
    let same : eqb (control_from q f) (control_from r g) ≡ same_input q r = same_control q r f g hq hr h in
    rw same (by_test (same_input q r) (λ e. rw e (omega arith)) (λ e. rw e refl))

-- with c 1 it counts 1 wherever they are
one_counted : (c d t : ℕ) → counted 1 (and_gate c d t ∷ []) ≡ 1
unfolding counted
one_counted c d t = and_by c d t (λ g. counted 1 (g ∷ []) ≡ 1) (λ e. refl) (λ e. refl)

pub and_one : (q r : Option ℕ) → and_count 1 q r ≡ 1
unfolding and_count
and_one q r = by_test (same_input q r) (λ e. rw e refl) (λ e. rw e refl)

-- so counting asks that the inputs are below n and the work lines are not, unless c is 1
abbrev Told : ℕ → ℕ → Expr → ℕ → Type 0
Told c n e f = (c ≡ 1) ⊎ (InputsBelow n e × (n ≤ f))

told_part : {c : ℕ} {P Q : Type 0} → (P → Q) → (c ≡ 1) ⊎ P → (c ≡ 1) ⊎ Q
told_part h d = ⊎_elim (λ e. inl e) (λ w. inr (h w)) d

-- what cleans up behind an AND counts what made its operands did, or nothing
cleaning_counted : (c : ℕ) (m : Bool) (gs : List Gate) (k : ℕ) → counted c gs ≡ k → counted c (cleaning m gs) ≡ cleaning_count m k
unfolding cleaning cleaning_count counted
cleaning_counted c true gs k h = counted_reverse c gs ∙ h
cleaning_counted c false gs k h = refl

and_counted : (c n : ℕ) (m : Bool) (a b : Expr) (t f : ℕ) → Told c n (AND m a b) f
    → counted c (and_gate (control_from (input_of a) f) (control_from (input_of b) (next_free f a)) t ∷ []) ≡ and_count c (input_of a) (input_of b)
unfolding next_free
and_counted c n m a b t f d =
    let x : ℕ = control_from (input_of a) f in
    let y : ℕ = control_from (input_of b) (next_free f a) in
    ⊎_elim
    (λ e. ap (λ (k : ℕ). counted k (and_gate x y t ∷ [])) e ∙ one_counted x y t ∙ sym (and_one (input_of a) (input_of b)) ∙ ap (λ (k : ℕ). and_count k (input_of a) (input_of b)) (sym e))
    (λ w.
    gate_counted c (input_of a) (input_of b) f (next_free f a) t
    (λ i e. omega (arith, input_below n a w.0.0 i e, w.1))
    (λ j e. omega (arith, input_below n b w.0.1 j e, w.1))
    (λ e. omega (arith, lines_built e (held a))))
    d

-- what is counted of a tree, with c for a NOT or CNOT, is what the gates that build it count
module _ (c n : ℕ) where
  build_counted : (e : Expr) (t f : ℕ) → Told c n e f → counted c (build_from e t f) ≡ built_count c e
  unfolding counted build_from built_count
  build_counted ZERO t f d = refl
  build_counted ONE t f d = omega arith
  build_counted (INPUT j) t f d = omega arith
  build_counted (NOT a) t f d = omega (arith, build_counted a t f d)
  build_counted (XOR a b) t f d =
      omega (
        arith,
        counted_append c (build_from a t f) (build_from b t (f + held a)),
        build_counted a t f (told_part (λ w. (w.0.0, omega (arith, w.1))) d),
        build_counted b t (f + held a) (told_part (λ w. (w.0.1, omega (arith, w.1))) d),
      )
  build_counted (AND m a b) t f d =
      let g : ℕ = next_free f a in
      let gs : List Gate = operands_from a b f in
      let G : Gate = and_gate (control_from (input_of a) f) (control_from (input_of b) g) t in
      let made : ℕ = operand_count (input_of a) (built_count c a) + operand_count (input_of b) (built_count c b) in
      let all : counted c gs ≡ made =
      operands_counted c a b f
      (λ e. build_counted a f (f + 1) (told_part (λ w. (w.0.0, omega (arith, w.1))) d))
      (λ e. build_counted b g (g + 1) (told_part (λ w. (w.0.1, omega (arith, w.1, next_behind f a))) d)) in
      counted_append c gs (G ∷ cleaning m gs)
      ∙ ap₂ ◌+◌ all (counted_append c (G ∷ []) (cleaning m gs) ∙ ap₂ ◌+◌ (and_counted c n m a b t f d) (cleaning_counted c m gs made all))

  -- and those of them whose target is not the tree's own line are what a share undoes
  undone_counted : (e : Expr) (t f : ℕ) → Told c n e f → t < f → counted c (without (eqb t) (build_from e t f)) ≡ undone_count c e
  unfolding counted build_from undone_count without target
  undone_counted ZERO t f d h = refl
  undone_counted ONE t f d h = rw (eq-eqb t t refl) refl
  undone_counted (INPUT j) t f d h = rw (eq-eqb t t refl) refl
  undone_counted (NOT a) t f d h = rw (eq-eqb t t refl) (undone_counted a t f d h)
  undone_counted (XOR a b) t f d h =
      omega (
        arith,
        counted_without c (eqb t) (build_from a t f) (build_from b t (f + held a)),
        undone_counted a t f (told_part (λ w. (w.0.0, omega (arith, w.1))) d) h,
        undone_counted b t (f + held a) (told_part (λ w. (w.0.1, omega (arith, w.1))) d) (omega arith),
      )
  undone_counted (AND m a b) t f d h =
      let g : ℕ = next_free f a in
      let gs : List Gate = operands_from a b f in
      let G : Gate = and_gate (control_from (input_of a) f) (control_from (input_of b) g) t in
      let made : ℕ = operand_count (input_of a) (built_count c a) + operand_count (input_of b) (built_count c b) in
      let all : counted c gs ≡ made =
      operands_counted c a b f
      (λ e. build_counted a f (f + 1) (told_part (λ w. (w.0.0, omega (arith, w.1))) d))
      (λ e. build_counted b g (g + 1) (told_part (λ w. (w.0.1, omega (arith, w.1, next_behind f a))) d)) in
      let own : without (eqb t) (G ∷ []) ≡ [] = one_out (eqb t) G (eq-eqb t (target G) (sym (and_target _ _ t))) in
      let missed : All (λ x. t ≢ target x) gs = operands_miss a b f t h in
      let others : without (eqb t) gs ≡ gs = without_none t gs missed in
      let last : without (eqb t) (cleaning m gs) ≡ cleaning m gs = without_none t (cleaning m gs) (all_cleaning _ m gs missed) in
      counted_without c (eqb t) gs (G ∷ cleaning m gs)
      ∙ ap₂ ◌+◌ (ap (counted c) others ∙ all)
      (counted_without c (eqb t) (G ∷ []) (cleaning m gs)
      ∙ ap₂ ◌+◌ (ap (counted c) own) (ap (counted c) last ∙ cleaning_counted c m gs made all)
      ∙ zero-add (cleaning_count m made))

  share_counted : (e : Expr) (t f : ℕ) → Told c n e f → t < f → counted c (share_from e t f) ≡ share_count c e
  unfolding share_from share_count
  share_counted e t f d h =
      let gs : List Gate = build_from e t f in
      omega (arith, counted_append c gs (uncompute (eqb t) gs), counted_uncompute c (eqb t) gs, build_counted e t f d, undone_counted e t f d h)

-- a tree is built by as many gates as are counted
pub build_length : (e : Expr) (t f : ℕ) → length (build_from e t f) ≡ built_count 1 e
build_length e t f = sym (counted_length (build_from e t f)) ∙ build_counted 1 0 e t f (inl refl)

-- and an operand of AND is made by as many
pub made_length : (e : Expr) (f : ℕ) → length (operand_gates (input_of e) (build_from e f (f + 1))) ≡ operand_count (input_of e) (built_count 1 e)
made_length e f =
    let gs : List Gate = build_from e f (f + 1) in
    sym (counted_length (operand_gates (input_of e) gs)) ∙ made_counted 1 (input_of e) gs (built_count 1 e) (λ q. build_counted 1 0 e f (f + 1) (inl refl))

-- a share has as many gates as are counted
pub share_length : (e : Expr) (t f : ℕ) → t < f → length (share_from e t f) ≡ share_count 1 e
share_length e t f h = sym (counted_length (share_from e t f)) ∙ share_counted 1 0 e t f (inl refl) h

-- and as many Toffolis, where the inputs are below n and the target and the work lines are not
pub share_toffolis : (n : ℕ) (e : Expr) (t f : ℕ) → InputsBelow n e → n ≤ t → t < f → toffoli_count (share_from e t f) ≡ share_count 0 e
share_toffolis n e t f w m h = sym (counted_toffolis (share_from e t f)) ∙ share_counted 0 n e t f (inr (w, omega arith)) h

-- several shares have as many gates together as are counted
pub shares_length : (es : List Expr) (t f : ℕ) → t + length es ≤ f → length (shares_from es t f) ≡ shares_count es
unfolding shares_from shares_count
shares_length [] t f h = refl
shares_length (e ∷ es) t f h =
    omega (arith, length-append (share_from e t f) (shares_from es (t + 1) f), share_length e t f (omega arith), shares_length es (t + 1) f (omega arith))

-- and so has a circuit
pub circuit_length : (n : ℕ) (es : List Expr) → length (circuit_gates n es) ≡ shares_count es
circuit_length n es = rw (circuit_is n es) (shares_length es n (n + length es) (omega arith))

-- an operand of AND holds no more lines than the size of its tree
pub lines_few : (q : Option ℕ) (k l : ℕ) → k + 1 ≤ l → operand_lines q k ≤ l
unfolding operand_lines
lines_few (some j) k l h = omega arith
lines_few none k l h = omega arith

-- the lines that a tree takes are fewer than its size
pub lines_below_size : (e : Expr) → most e + 1 ≤ size e
unfolding most size
lines_below_size ZERO = omega arith
lines_below_size ONE = omega arith
lines_below_size (INPUT j) = omega arith
lines_below_size (NOT a) = omega (arith, lines_below_size a)
lines_below_size (XOR a b) = omega (arith, lines_below_size a, lines_below_size b, held_most a)
lines_below_size (AND m a b) =
    omega (
      arith,
      lines_few (input_of a) (most a) (size a) (lines_below_size a),
      lines_few (input_of b) (most b) (size b) (lines_below_size b),
      lines_more (input_of a) (held a) (most a) (held_most a),
    )

-- an operand of AND is made by no more gates than build it
pub operand_few : (q : Option ℕ) (k : ℕ) → operand_count q k ≤ k
unfolding operand_count
operand_few (some j) k = omega arith
operand_few none k = omega arith

-- what counting shows is exact up to 8,000 gates, and more where there are more
pub shown_within : (k : ℕ) → gates_shown k ≤ most_gates → gates_shown k ≡ k
unfolding gates_shown shown
shown_within k h = omega (arith, h)

pub shown_over : (k : ℕ) → most_gates < gates_shown k → most_gates < k
unfolding gates_shown shown
shown_over k h = omega (arith, h)
