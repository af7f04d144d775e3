-- Laws of lines: how many the construction takes, and which of them its gates use. Assumes nothing.
use Prim.Native.Nat.{ℕ, ◌+◌, ◌<◌, ◌≤◌}
use native.Mathlib.Omega.{arith}
use mathlib.Core.Path.{◌≡◌, refl, sym, ap, ◌∙◌}
use mathlib.Core.Logic.{◌≢◌}
use mathlib.Core.Bool.{Bool, true, false}
use mathlib.Core.Option.{Option, none, some}
use mathlib.Core.List.{List, [], ◌∷◌, ◌++◌, reverse}
use lib.ListN.{length}
use lib.Dec.{eqb}
use borrow.Author.Tests.{eqb-false, ne_eqb}
use Rattle.wire.specs.Bits.{bit, Bits}
use Rattle.gate.specs.declared.gates.Gate.{Gate}
use Rattle.gate.specs.declared.gates.Gate.TheVariants.{Not, Cnot}
use Rattle.gate.specs.Gates.{target, Controls, WellFormed, All, Fits}
use Rattle.gate.specs.Running.{step, run}
use Rattle.gate.specs.Theorems.{Spares}
use Rattle.gate.proofs.AllLaws.{all_append, all_map, all_reverse}
use Rattle.gate.proofs.StepLaws.{controls_map, run_other, run_append, run_bits, length_run, length_step, step_other, step_bits, fits_run, Agree, agree_run, backwards_undoes}
use Rattle.gate.proofs.WellFormedLaws.{not_formed, cnot_formed}
use Rattle.node.specs.Exprs.{Expr, ZERO, ONE, INPUT, NOT, XOR, AND, InputsBelow}
use Rattle.construction.specs.Construction.{input_of, and_gate, cleaning}
use Rattle.construction.proofs.Numbers.{control_from, operand_gates, operand_lines, held, most, next_free, build_from, ApartFrom}
use Rattle.construction.proofs.AndLaws.{input_below, control_by, all_made, all_cleaning, lines_built, and_target, and_controls, and_formed}

-- a NOT takes what its operand takes
pub most_not : (a : Expr) → most (NOT a) ≡ most a
unfolding most
most_not a = omega arith

module _ (a b : Expr) where
  -- an XOR takes what its first operand takes
  pub most_xor_first : most a ≤ most (XOR a b)
  unfolding most
  most_xor_first = omega arith

  -- and what its second takes beside what the first still holds
  pub most_xor_second : held a + most b ≤ most (XOR a b)
  unfolding most
  most_xor_second = omega arith

  -- an AND takes what its first operand takes
  pub most_and_first : (m : Bool) → operand_lines (input_of a) (most a) ≤ most (AND m a b)
  unfolding most
  most_and_first m = omega arith

  -- and what its second takes beside what the first still holds
  pub most_and_second : (m : Bool) → operand_lines (input_of a) (held a) + operand_lines (input_of b) (most b) ≤ most (AND m a b)
  unfolding most
  most_and_second m = omega arith

-- where the lines of a tree are apart, so are those of its operands
module _ {n t f L : ℕ} where
  pub apart_not : {a : Expr} → ApartFrom n (NOT a) t f L → ApartFrom n a t f L
  apart_not {a} p = record { inputs = p.inputs; behind = p.behind; free = p.free; below = omega (arith, most_not a) }

  module _ {a b : Expr} where
    pub apart_xor_first : ApartFrom n (XOR a b) t f L → ApartFrom n a t f L
    apart_xor_first p = record { inputs = p.inputs.0; behind = p.behind; free = p.free; below = omega (arith, most_xor_first a b) }

    pub apart_xor_second : ApartFrom n (XOR a b) t f L → ApartFrom n b t (f + held a) L
    apart_xor_second p = record { inputs = p.inputs.1; behind = p.behind; free = omega arith; below = omega (arith, most_xor_second a b) }

    -- an operand of AND that is built has its line, and takes those behind it
    module _ {m : Bool} (p : ApartFrom n (AND m a b) t f L) where
      pub apart_and_first : input_of a ≡ none → ApartFrom n a f (f + 1) L
      apart_and_first e = record { inputs = p.inputs.0; behind = omega arith; free = omega arith; below = omega (arith, most_and_first a b m, lines_built e (most a)) }

      pub apart_and_second : input_of b ≡ none → ApartFrom n b (next_free f a) (next_free f a + 1) L
      unfolding next_free
      apart_and_second e = record { inputs = p.inputs.1; behind = omega arith; free = omega arith; below = omega (arith, most_and_second a b m, lines_built e (most b)) }

-- the second operand's lines are behind the first's
pub next_behind : (f : ℕ) (a : Expr) → f ≤ next_free f a
unfolding next_free
next_behind f a = omega arith

-- the gates of an AND's operands
abbrev pub operands_from : Expr → Expr → ℕ → List Gate
operands_from a b f =
    operand_gates (input_of a) (build_from a f (f + 1)) ++ operand_gates (input_of b) (build_from b (next_free f a) (next_free f a + 1))

-- what holds of the gates that build them holds of these
module _ (P : Gate → Type 0) (a b : Expr) (f : ℕ) (ha : input_of a ≡ none → All P (build_from a f (f + 1))) (hb : input_of b ≡ none → All P (build_from b (next_free f a) (next_free f a + 1))) where
  pub all_operands : All P (operands_from a b f)
  all_operands = all_append P (operand_gates (input_of a) (build_from a f (f + 1))) _ (all_made P (input_of a) _ ha) (all_made P (input_of b) _ hb)

  -- and of all gates of the AND, where it holds of the one from its controls too
  all_and : (m : Bool) (g : Gate) → P g → All P (operands_from a b f ++ (g ∷ cleaning m (operands_from a b f)))
  all_and m g h = all_append P (operands_from a b f) _ all_operands (h, all_cleaning P m (operands_from a b f) all_operands)

-- a line that is neither t nor taken is no gate's target
pub build_misses : (e : Expr) (t f i : ℕ) → i ≢ t → (f ≤ i → f + most e ≤ i) → All (λ g. i ≢ target g) (build_from e t f)
unfolding build_from next_free target
build_misses ZERO t f i n h = tt
build_misses ONE t f i n h = (n, tt)
build_misses (INPUT j) t f i n h = (n, tt)
build_misses (NOT a) t f i n h = (n, build_misses a t f i n (λ p. omega (arith, h p, most_not a)))
build_misses (XOR a b) t f i n h =
    all_append _ (build_from a t f) _
    (build_misses a t f i n (λ p. omega (arith, h p, most_xor_first a b)))
    (build_misses b t (f + held a) i n (λ p. omega (arith, h (omega arith), most_xor_second a b)))
build_misses (AND m a b) t f i n h =
    let g : ℕ = next_free f a in
    let ma : operand_lines (input_of a) (most a) ≤ most (AND m a b) = most_and_first a b m in
    let mb : operand_lines (input_of a) (held a) + operand_lines (input_of b) (most b) ≤ most (AND m a b) = most_and_second a b m in
    all_and (λ x. i ≢ target x) a b f
    (λ e.
    let l : operand_lines (input_of a) (most a) ≡ 1 + most a = lines_built e (most a) in
    build_misses a f (f + 1) i (λ q. omega (arith, h (omega arith))) (λ q. omega (arith, h (omega arith))))
    (λ e.
    let l : operand_lines (input_of b) (most b) ≡ 1 + most b = lines_built e (most b) in
    build_misses b g (g + 1) i (λ q. omega (arith, h (omega arith))) (λ q. omega (arith, h (omega arith))))
    m _ (λ q. n (q ∙ and_target (control_from (input_of a) f) (control_from (input_of b) g) t))

-- a control below f is an input
pub build_controls : (e : Expr) (n t f : ℕ) → InputsBelow n e → All (Controls (λ c. c < f → c < n)) (build_from e t f)
unfolding build_from next_free
build_controls ZERO n t f w = tt
build_controls ONE n t f w = (tt, tt)
build_controls (INPUT j) n t f w = (λ p. w, tt)
build_controls (NOT a) n t f w = (tt, build_controls a n t f w)
build_controls (XOR a b) n t f w =
    all_append _ (build_from a t f) _
    (build_controls a n t f w.0)
    (all_map (controls_map (λ c h p. h (omega arith))) (build_from b t (f + held a)) (build_controls b n t (f + held a) w.1))
build_controls (AND m a b) n t f w =
    let g : ℕ = next_free f a in
    let Q : ℕ → Type 0 = λ c. c < f → c < n in
    all_and (Controls Q) a b f
    (λ e. all_map (controls_map (λ c h p. h (omega arith))) (build_from a f (f + 1)) (build_controls a n f (f + 1) w.0))
    (λ e. all_map (controls_map (λ c h p. h (omega arith))) (build_from b g (g + 1)) (build_controls b n g (g + 1) w.1))
    m _
    (and_controls (control_from (input_of a) f) (control_from (input_of b) g) t Q
    (control_by (input_of a) f Q (λ j e p. input_below n a w.0 j e) (λ e p. omega arith))
    (control_by (input_of b) g Q (λ j e p. input_below n b w.1 j e) (λ e p. omega arith)))

-- the target is no control
pub target_no_control_from : (n : ℕ) (e : Expr) (t f L : ℕ) → ApartFrom n e t f L → All (Spares (eqb t)) (build_from e t f)
target_no_control_from n e t f L p =
    all_map (controls_map (λ c k. ne_eqb t c (λ q. omega (arith, k (omega arith))))) (build_from e t f) (build_controls e n t f p.inputs)

-- each gate is well formed on the lines
pub build_formed : (n : ℕ) (e : Expr) (t f L : ℕ) → ApartFrom n e t f L → All (WellFormed L) (build_from e t f)
unfolding build_from
build_formed n ZERO t f L p = tt
build_formed n ONE t f L p = (not_formed L t (omega arith), tt)
build_formed n (INPUT j) t f L p =
    (cnot_formed L j t (record { control_below = omega arith; target_below = omega arith; apart = omega arith }), tt)
build_formed n (NOT a) t f L p = (not_formed L t (omega arith), build_formed n a t f L (apart_not p))
build_formed n (XOR a b) t f L p =
    all_append _ (build_from a t f) _
    (build_formed n a t f L (apart_xor_first p))
    (build_formed n b t (f + held a) L (apart_xor_second p))
build_formed n (AND m a b) t f L p =
    let g : ℕ = next_free f a in
    let behind : f ≤ g = next_behind f a in
    let Q : ℕ → Type 0 = λ c. (c < L) × (c ≢ t) in
    let ca : Q (control_from (input_of a) f) =
    control_by (input_of a) f Q
    (λ j e. let l : j < n = input_below n a p.inputs.0 j e in (omega arith, omega arith))
    (λ e. let q = apart_and_first p e in (omega arith, omega arith)) in
    let cb : Q (control_from (input_of b) g) =
    control_by (input_of b) g Q
    (λ j e. let l : j < n = input_below n b p.inputs.1 j e in (omega arith, omega arith))
    (λ e. let q = apart_and_second p e in (omega arith, omega arith)) in
    all_and (WellFormed L) a b f
    (λ e. build_formed n a f (f + 1) L (apart_and_first p e))
    (λ e. build_formed n b g (g + 1) L (apart_and_second p e))
    m _ (and_formed (control_from (input_of a) f) (control_from (input_of b) g) t L ca.0 cb.0 (omega arith) ca.1 cb.1)

-- every line but t and those taken stays as it was
pub build_leaves_from : (e : Expr) (t f : ℕ) (s : List ℕ) (i : ℕ) → i ≢ t → (f ≤ i → f + most e ≤ i) → bit (run (build_from e t f) s) i ≡ bit s i
build_leaves_from e t f s i n h = run_other (build_from e t f) s i (build_misses e t f i n h)

-- the gates of an AND's operands open all of its gates, so that what is known of these is known of those
pub all_open : (P : Gate → Type 0) (gs hs : List Gate) → All P (gs ++ hs) → All P gs
all_open P [] hs h = tt
all_open P (g ∷ gs) hs h = (h.0, all_open P gs hs h.1)

module _ (n : ℕ) (m : Bool) (a b : Expr) (t f L : ℕ) (p : ApartFrom n (AND m a b) t f L) where
  pub operands_formed : All (WellFormed L) (operands_from a b f)
  unfolding build_from
  operands_formed = all_open _ (operands_from a b f) _ (build_formed n (AND m a b) t f L p)

  -- of the first alone
  pub first_formed : All (WellFormed L) (operand_gates (input_of a) (build_from a f (f + 1)))
  first_formed = all_open _ (operand_gates (input_of a) (build_from a f (f + 1))) _ operands_formed

  operands_spare : All (Spares (eqb t)) (operands_from a b f)
  unfolding build_from
  operands_spare = all_open _ (operands_from a b f) _ (target_no_control_from n (AND m a b) t f L p)

-- a line below those taken is no target of theirs
pub operands_miss : (a b : Expr) (f i : ℕ) → i < f → All (λ g. i ≢ target g) (operands_from a b f)
operands_miss a b f i h =
    let behind : f ≤ next_free f a = next_behind f a in
    all_operands (λ g. i ≢ target g) a b f
    (λ e. build_misses a f (f + 1) i (omega arith) (λ p. omega arith))
    (λ e. build_misses b (next_free f a) (next_free f a + 1) i (omega arith) (λ p. omega arith))

-- gates, then one on t, which controls none of them, then the same gates undone: every line but t is as it was, from every start
cleaned_leaves : (t : ℕ) (gs : List Gate) (g : Gate) (s : List ℕ) → target g ≡ t → Fits gs s → All (Spares (eqb t)) gs → Bits s
    → (i : ℕ) → i ≢ t → bit (run (gs ++ (g ∷ reverse gs)) s) i ≡ bit s i
unfolding run
cleaned_leaves t gs g s e w n b i ne =
    let s₁ : List ℕ = run gs s in
    let one : Agree (eqb t) (step g s₁) s₁ = record { long = length_step g s₁; at = λ k o. step_other g s₁ k (λ q. eqb-false t k o (sym (q ∙ e))) } in
    let back : Agree (eqb t) (run (reverse gs) (step g s₁)) (run (reverse gs) s₁) =
    agree_run (eqb t) (reverse gs) (step g s₁) s₁ (rw (length_step g s₁) (fits_run gs (reverse gs) s (all_reverse _ gs w))) (all_reverse _ gs n) one in
    ap (λ (r : List ℕ). bit r i) (run_append gs (g ∷ reverse gs) s)
    ∙ back.at i (ne_eqb t i (λ q. ne (sym q)))
    ∙ ap (λ (r : List ℕ). bit r i) (backwards_undoes gs s w b)

-- a marked AND leaves every line but t as it was, from every start (02, A7)
pub marked_leaves : (n : ℕ) (a b : Expr) (t f : ℕ) (s : List ℕ) → ApartFrom n (AND true a b) t f (length s) → Bits s
    → (i : ℕ) → i ≢ t → bit (run (build_from (AND true a b) t f) s) i ≡ bit s i
unfolding build_from cleaning
marked_leaves n a b t f s p bs i ne =
    cleaned_leaves t (operands_from a b f) (and_gate (control_from (input_of a) f) (control_from (input_of b) (next_free f a)) t) s (and_target _ _ t)
    (operands_formed n true a b t f (length s) p) (operands_spare n true a b t f (length s) p) bs i ne

-- the gates that make an operand leave what those that build it leave
pub made_leaves : (q : Option ℕ) (gs : List Gate) (s : List ℕ) (i : ℕ) → (q ≡ none → bit (run gs s) i ≡ bit s i) → bit (run (operand_gates q gs) s) i ≡ bit s i
unfolding operand_gates run
made_leaves (some j) gs s i h = refl
made_leaves none gs s i h = h refl

-- where the lines hold bits, every line but t and those still held stays as it was
pub build_frees : (n : ℕ) (e : Expr) (t f : ℕ) (s : List ℕ) → ApartFrom n e t f (length s) → Bits s
    → (i : ℕ) → i ≢ t → (f ≤ i → f + held e ≤ i) → bit (run (build_from e t f) s) i ≡ bit s i
unfolding build_from held next_free cleaning run target
build_frees n ZERO t f s p b i ne h = refl
build_frees n ONE t f s p b i ne h = step_other (Not t) s i ne
build_frees n (INPUT j) t f s p b i ne h = step_other (Cnot j t) s i ne
build_frees n (NOT a) t f s p b i ne h =
    let q : ApartFrom n a t f (length (step (Not t) s)) = rw (length_step (Not t) s) (apart_not p) in
    build_frees n a t f (step (Not t) s) q (step_bits (Not t) s (omega arith) b) i ne h ∙ step_other (Not t) s i ne
build_frees n (XOR a c) t f s p b i ne h =
    let s₁ : List ℕ = run (build_from a t f) s in
    let pa : ApartFrom n a t f (length s) = apart_xor_first p in
    let pc : ApartFrom n c t (f + held a) (length s₁) = rw (length_run (build_from a t f) s) (apart_xor_second p) in
    ap (λ (r : List ℕ). bit r i) (run_append (build_from a t f) (build_from c t (f + held a)) s)
    ∙ build_frees n c t (f + held a) s₁ pc (run_bits (build_from a t f) s (build_formed n a t f (length s) pa) b) i ne (λ q. omega (arith, h (omega arith)))
    ∙ build_frees n a t f s pa b i ne (λ q. omega (arith, h (omega arith)))
build_frees n (AND true a c) t f s p b i ne h = marked_leaves n a c t f s p b i ne
build_frees n (AND false a c) t f s p b i ne h =
    let A : List Gate = build_from a f (f + 1) in
    let g : ℕ = next_free f a in
    let C : List Gate = build_from c g (g + 1) in
    let G : Gate = and_gate (control_from (input_of a) f) (control_from (input_of c) g) t in
    let s₁ : List ℕ = run (operand_gates (input_of a) A) s in
    let l₁ : length s₁ ≡ length s = length_run (operand_gates (input_of a) A) s in
    let b₁ : Bits s₁ = run_bits (operand_gates (input_of a) A) s (first_formed n false a c t f (length s) p) b in
    ap (λ (r : List ℕ). bit r i) (run_append (operands_from a c f) (G ∷ []) s ∙ ap (step G) (run_append (operand_gates (input_of a) A) (operand_gates (input_of c) C) s))
    ∙ step_other G (run (operand_gates (input_of c) C) s₁) i (λ q. ne (q ∙ and_target (control_from (input_of a) f) (control_from (input_of c) g) t))
    ∙ made_leaves (input_of c) C s₁ i (λ e.
    let l : operand_lines (input_of c) (held c) ≡ 1 + held c = lines_built e (held c) in
    build_frees n c g (g + 1) s₁ (rw l₁ (apart_and_second p e)) b₁ i (λ q. omega (arith, h (omega arith))) (λ q. omega (arith, h (omega arith))))
    ∙ made_leaves (input_of a) A s i (λ e.
    let l : operand_lines (input_of a) (held a) ≡ 1 + held a = lines_built e (held a) in
    build_frees n a f (f + 1) s (apart_and_first p e) b i (λ q. omega (arith, h (omega arith))) (λ q. omega (arith, h (omega arith))))
