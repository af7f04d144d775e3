-- Laws of what building leaves on the lines (001, Theorem 1). Assumes nothing.
use Prim.Native.Nat.{ℕ, ◌+◌, ◌*◌, ◌<◌, ◌≤◌}
use native.Mathlib.Omega.{arith}
use mathlib.Core.Path.{◌≡◌, refl, sym, ap, ap₂, ◌∙◌}
use mathlib.Core.Logic.{◌≢◌}
use mathlib.Core.Bool.{Bool}
use mathlib.Core.Option.{Option, none, some}
use mathlib.Core.List.{List, [], ◌∷◌}
use lib.ListN.{length, take}
use lib.Seq.{get_or-take}
use Rattle.wire.specs.Bits.{xor_bit, bit, Bits}
use Rattle.wire.proofs.BitLaws.{xor_end, xor_start, xor_assoc, bit_below, bits_take}
use Rattle.gate.specs.declared.gates.Gate.{Gate}
use Rattle.gate.specs.declared.gates.Gate.TheVariants.{Not, Cnot}
use Rattle.gate.specs.Gates.{target, All}
use Rattle.gate.specs.Running.{addend, step, run}
use Rattle.gate.proofs.StepLaws.{length_run, step_target, step_other, step_bits, run_append, run_bits, run_other}
use Rattle.node.specs.Exprs.{Expr, ZERO, ONE, INPUT, NOT, XOR, AND, value, InputsBelow}
use Rattle.node.proofs.ValueLaws.{value_bit}
use Rattle.construction.specs.Construction.{input_of, and_gate, cleaning}
use Rattle.construction.specs.Theorems.{Zeros, Computes}
use Rattle.construction.proofs.AfterLaws.{same_front}
use Rattle.construction.proofs.Numbers.{control_from, operand_gates, operand_lines, held, most, next_free, build_from, ApartFrom}
use Rattle.construction.proofs.AndLaws.{is_input, input_below, control_by, all_cleaning, lines_built, and_target, and_addend}
use Rattle.construction.proofs.LineLaws.{most_not, most_xor_first, most_xor_second, most_and_first, most_and_second, apart_not, apart_xor_first, apart_xor_second, apart_and_first, apart_and_second, next_behind, operands_from, build_formed, build_leaves_from, first_formed, operands_miss, made_leaves, build_frees}

-- where a run leaves the first n lines, they are read as before
pub inputs_run : (n : ℕ) (gs : List Gate) (s : List ℕ) → ((i : ℕ) → i < n → bit (run gs s) i ≡ bit s i) → take n (run gs s) ≡ take n s
inputs_run n gs s same = same_front n (run gs s) s (length_run gs s) same

-- what building leaves for what is built next
module _ {n : ℕ} {e : Expr} {t f : ℕ} (s : List ℕ) (p : ApartFrom n e t f (length s)) (b : Bits s) where
  -- the inputs
  inputs_kept : take n (run (build_from e t f) s) ≡ take n s
  inputs_kept = inputs_run n (build_from e t f) s (λ i h. build_leaves_from e t f s i (omega arith) (λ q. omega arith))

  -- bits
  bits_kept : Bits (run (build_from e t f) s)
  bits_kept = run_bits (build_from e t f) s (build_formed n e t f (length s) p) b

  -- zeros behind the lines that it holds
  zeros_kept : (k : ℕ) → Zeros (f + held e) k s → Zeros (f + held e) k (run (build_from e t f) s)
  zeros_kept k zs i q r = build_frees n e t f s p b i (omega arith) (λ h. q) ∙ zs i q r

  -- on a line that was 0 the value itself
  holds_value : bit s t ≡ 0 → Computes (build_from e t f) n e t s → bit (run (build_from e t f) s) t ≡ value e (take n s)
  holds_value z c =
      c
      ∙ ap (λ (v : ℕ). xor_bit v (value e (take n s))) z
      ∙ xor_start (value e (take n s)) (value_bit e (take n s) (bits_take n s b))

-- an operand's control holds its value, once the gates that make it have run
made_value : (n : ℕ) (a : Expr) (q : Option ℕ) (f : ℕ) (gs : List Gate) (s : List ℕ) → input_of a ≡ q → InputsBelow n a
    → (q ≡ none → bit (run gs s) f ≡ value a (take n s)) → bit (run (operand_gates q gs) s) (control_from q f) ≡ value a (take n s)
unfolding operand_gates control_from run value
made_value n a (some j) f gs s e w h = sym (get_or-take n s j 0 (input_below n a w j e)) ∙ ap (λ (b : Expr). value b (take n s)) (sym (is_input a j e))
made_value n a none f gs s e w h = h refl

-- a line that is no target of an AND's operands is left by what cleans up behind it too
cleaning_leaves : (m : Bool) (gs : List Gate) (s : List ℕ) (i : ℕ) → All (λ g. i ≢ target g) gs → bit (run (cleaning m gs) s) i ≡ bit s i
cleaning_leaves m gs s i h = run_other (cleaning m gs) s i (all_cleaning _ m gs h)

-- building computes the tree: 001, Theorem 1
pub build_computes_from : (n : ℕ) (e : Expr) (t f : ℕ) (s : List ℕ) → ApartFrom n e t f (length s) → Bits s → Zeros f (most e) s → Computes (build_from e t f) n e t s
unfolding build_from next_free value run addend target
build_computes_from n ZERO t f s p b zs = sym (xor_end (bit s t) (bit_below s b t))
build_computes_from n ONE t f s p b zs = step_target (Not t) s (omega arith)
build_computes_from n (INPUT j) t f s p b zs =
    step_target (Cnot j t) s (omega arith) ∙ ap (xor_bit (bit s t)) (sym (get_or-take n s j 0 p.inputs))
build_computes_from n (NOT a) t f s p b zs =
    let s₁ : List ℕ = step (Not t) s in
    let below : t < length s = omega arith in
    let l : length s₁ ≡ length s = length_run (Not t ∷ []) s in
    let q : ApartFrom n a t f (length s₁) = rw l (apart_not p) in
    build_computes_from n a t f s₁ q (step_bits (Not t) s below b)
    (λ i h g. step_other (Not t) s i (omega arith) ∙ zs i h (omega (arith, most_not a)))
    ∙ ap₂ (λ (v : ℕ) (x : List ℕ). xor_bit v (value a x)) (step_target (Not t) s below)
    (inputs_run n (Not t ∷ []) s (λ i h. step_other (Not t) s i (omega arith)))
    ∙ xor_assoc (bit s t) 1 (value a (take n s))
build_computes_from n (XOR a b) t f s p bs zs =
    let A : List Gate = build_from a t f in
    let B : List Gate = build_from b t (f + held a) in
    let s₁ : List ℕ = run A s in
    let pa : ApartFrom n a t f (length s) = apart_xor_first p in
    let pb : ApartFrom n b t (f + held a) (length s₁) = rw (length_run A s) (apart_xor_second p) in
    let at : Computes A n a t s = build_computes_from n a t f s pa bs (λ i h g. zs i h (omega (arith, most_xor_first a b))) in
    let zb : Zeros (f + held a) (most b) s₁ =
    zeros_kept s pa bs (most b) (λ i h g. zs i (omega arith) (omega (arith, most_xor_second a b))) in
    ap (λ (r : List ℕ). bit r t) (run_append A B s)
    ∙ build_computes_from n b t (f + held a) s₁ pb (bits_kept s pa bs) zb
    ∙ ap₂ (λ (v : ℕ) (x : List ℕ). xor_bit v (value b x)) at (inputs_kept s pa bs)
    ∙ xor_assoc (bit s t) (value a (take n s)) (value b (take n s))
build_computes_from n (AND m a b) t f s p bs zs =
    let g : ℕ = next_free f a in
    let A : List Gate = operand_gates (input_of a) (build_from a f (f + 1)) in
    let B : List Gate = operand_gates (input_of b) (build_from b g (g + 1)) in
    let c : ℕ = control_from (input_of a) f in
    let d : ℕ = control_from (input_of b) g in
    let G : Gate = and_gate c d t in
    let s₁ : List ℕ = run A s in
    let s₂ : List ℕ = run B s₁ in
    let l₁ : length s₁ ≡ length s = length_run A s in
    let b₁ : Bits s₁ = run_bits A s (first_formed n m a b t f (length s) p) bs in
    let behind : f ≤ g = next_behind f a in
    let ma : operand_lines (input_of a) (most a) ≤ most (AND m a b) = most_and_first a b m in
    let mb : operand_lines (input_of a) (held a) + operand_lines (input_of b) (most b) ≤ most (AND m a b) = most_and_second a b m in
    let same₁ : (i : ℕ) → (f ≤ i → g ≤ i) → bit s₁ i ≡ bit s i =
    λ i h. made_leaves (input_of a) (build_from a f (f + 1)) s i (λ e.
    let l : operand_lines (input_of a) (held a) ≡ 1 + held a = lines_built e (held a) in
    build_frees n a f (f + 1) s (apart_and_first p e) bs i (λ q. omega (arith, h (omega arith))) (λ q. omega (arith, h (omega arith)))) in
    let same₂ : (i : ℕ) → i < g → bit s₂ i ≡ bit s₁ i =
    λ i h. made_leaves (input_of b) (build_from b g (g + 1)) s₁ i (λ e. build_leaves_from b g (g + 1) s₁ i (omega arith) (λ q. omega arith)) in
    let inputs : take n s₁ ≡ take n s = inputs_run n A s (λ i h. same₁ i (λ q. omega arith)) in
    let first : bit s₁ c ≡ value a (take n s) =
    made_value n a (input_of a) f (build_from a f (f + 1)) s refl p.inputs.0 (λ e.
    let l : operand_lines (input_of a) (most a) ≡ 1 + most a = lines_built e (most a) in
    holds_value s (apart_and_first p e) bs (zs f (omega arith) (omega arith))
    (build_computes_from n a f (f + 1) s (apart_and_first p e) bs (λ i h k. zs i (omega arith) (omega arith)))) in
    let last : bit s₂ d ≡ value b (take n s₁) =
    made_value n b (input_of b) g (build_from b g (g + 1)) s₁ refl p.inputs.1 (λ e.
    let l : operand_lines (input_of b) (most b) ≡ 1 + most b = lines_built e (most b) in
    let pb : ApartFrom n b g (g + 1) (length s₁) = rw l₁ (apart_and_second p e) in
    let zb : Zeros g (1 + most b) s₁ = λ i h k. same₁ i (λ q. h) ∙ zs i (omega arith) (omega arith) in
    holds_value s₁ pb b₁ (zb g (omega arith) (omega arith)) (build_computes_from n b g (g + 1) s₁ pb b₁ (λ i h k. zb i (omega arith) (omega arith)))) in
    let below : c < g =
    control_by (input_of a) f (λ (k : ℕ). k < g)
    (λ j e. let l : j < n = input_below n a p.inputs.0 j e in omega arith)
    (λ e. omega (arith, lines_built e (held a))) in
    let kept : bit s₂ c ≡ value a (take n s) = same₂ c below ∙ first in
    let left : bit s₂ t ≡ bit s t = same₂ t (omega arith) ∙ same₁ t (λ q. omega arith) in
    let small : bit s₂ c < 2 = rw kept (value_bit a (take n s) (bits_take n s bs)) in
    let e : target G ≡ t = and_target c d t in
    let hit : bit (step G s₂) t ≡ xor_bit (bit s₂ t) (addend G s₂) =
    rw e at (step_target G s₂ (rw e (omega (arith, length_run B s₁)))) in
    let C : List Gate = cleaning m (operands_from a b f) in
    ap (λ (r : List ℕ). bit r t) (run_append (operands_from a b f) (G ∷ C) s ∙ ap (λ (r : List ℕ). run C (step G r)) (run_append A B s))
    ∙ cleaning_leaves m (operands_from a b f) (step G s₂) t (operands_miss a b f t p.free)
    ∙ hit
    ∙ ap₂ xor_bit left (and_addend c d t s₂ small ∙ ap₂ ◌*◌ kept (last ∙ ap (value b) inputs))
