-- Laws of running gates: backwards undoes forwards, and undoing brings back every line that is not left out (001, Lemma 1). Assumes nothing.
use Prim.Native.Nat.{ℕ, ◌*◌, ◌<◌}
use native.Mathlib.Omega.{arith}
use native.Mathlib.Decide.{ℕ_discrete}
use mathlib.Core.Path.{◌≡◌, refl, sym, ap, ap₂, ◌∙◌, subst}
use mathlib.Core.Logic.{◌≢◌}
use mathlib.Core.Bool.{Bool, true, false, false≢true}
use mathlib.Core.List.{List, [], ◌∷◌, ◌++◌, reverse, reverse-cons, reverse-reverse}
use lib.ListN.{length, set, length-set}
use lib.Seq.{get_or-set_same, get_or-set_other, set-set, set-get_or}
use Rattle.wire.specs.Bits.{xor_bit, bit, Bits}
use Rattle.wire.proofs.BitLaws.{xor_bit_lem, and_bit, xor_twice, bit_below}
use Rattle.gate.specs.declared.gates.Gate.{Gate}
use Rattle.gate.specs.declared.gates.Gate.TheVariants.{Not, Cnot, Toffoli}
use Rattle.gate.specs.Gates.{target, Controls, WellFormed, All, Fits}
use Rattle.gate.specs.Running.{addend, step, run, without, uncompute}
use Rattle.gate.specs.Theorems.{Spares, BackwardsUndoes, ForwardsUndoes, Uncomputes}
use Rattle.gate.proofs.AllLaws.{all_reverse}
use Rattle.gate.proofs.UncomputeLaws.{without_at, all_without}
use Rattle.gate.proofs.WellFormedLaws.{target_below, target_free}

-- what is XORed in depends on the controls alone
pub addend_same : (g : Gate) (s s' : List ℕ) → Controls (λ c. bit s c ≡ bit s' c) g → addend g s ≡ addend g s'
unfolding addend
addend_same (Not t) s s' h = refl
addend_same (Cnot a t) s s' h = h
addend_same (Toffoli a b t) s s' h = ap₂ ◌*◌ h.0 h.1

-- and it is a bit
pub addend_bit : (g : Gate) (s : List ℕ) → Bits s → addend g s < 2
unfolding addend
addend_bit (Not t) s b = omega arith
addend_bit (Cnot a t) s b = bit_below s b a
addend_bit (Toffoli p q t) s b = and_bit (bit s p) (bit s q) (bit_below s b p) (bit_below s b q)

-- what follows from P at each control
pub controls_map : {P Q : ℕ → Type 0} → ((c : ℕ) → P c → Q c) → (g : Gate) → Controls P g → Controls Q g
controls_map f (Not t) h = tt
controls_map f (Cnot a t) h = f a h
controls_map f (Toffoli a b t) h = (f a h.0, f b h.1)

-- one gate, from its target t and what it XORs in
pub step_is : (g : Gate) (s : List ℕ) {t v w : ℕ} → t ≡ target g → v ≡ addend g s → w ≡ xor_bit (bit s t) v → set s t w ≡ step g s
unfolding step
step_is g s {t} e₁ e₂ e₃ = ap (set s t) e₃ ∙ ap₂ (λ (k x : ℕ). set s k (xor_bit (bit s k) x)) e₁ e₂

-- a gate keeps the number of lines
pub length_step : (g : Gate) (s : List ℕ) → length (step g s) ≡ length s
unfolding step
length_step g s = length-set s (target g) _

-- the target after a gate
pub step_target : (g : Gate) (s : List ℕ) → target g < length s → bit (step g s) (target g) ≡ xor_bit (bit s (target g)) (addend g s)
unfolding step
step_target g s h = get_or-set_same s (target g) _ 0 h

-- every other line after a gate
pub step_other : (g : Gate) (s : List ℕ) (i : ℕ) → i ≢ target g → bit (step g s) i ≡ bit s i
unfolding step
step_other g s i h = get_or-set_other s (target g) i _ 0 h

-- and leaves bits
pub step_bits : (g : Gate) (s : List ℕ) → target g < length s → Bits s → Bits (step g s)
step_bits g s h b i hi = go (ℕ_discrete i (target g))
  where
    go : Dec (i ≡ target g) → bit (step g s) i < 2
    go (yes e) = rw e (rw (step_target g s h) (xor_bit_lem _ _))
    go (no n) = rw (step_other g s i n) (bit_below s b i)

-- a gate undoes itself
pub step_step : (g : Gate) (s : List ℕ) → WellFormed (length s) g → Bits s → step g (step g s) ≡ s
unfolding step
step_step g s w b =
    let t : ℕ = target g in
    let v : ℕ = xor_bit (bit s t) (addend g s) in
    let below : t < length s = target_below (length s) g w in
    let same : addend g (set s t v) ≡ addend g s =
    addend_same g (set s t v) s (controls_map (λ c n. get_or-set_other s t c v 0 n) g (target_free (length s) g w)) in
    let back : xor_bit (bit (set s t v) t) (addend g (set s t v)) ≡ bit s t =
    ap₂ xor_bit (get_or-set_same s t v 0 below) same ∙ xor_twice (bit s t) (addend g s) (b t below) in
    set-set s t v _ ∙ ap (set s t) back ∙ set-get_or s t 0

-- gates and then other gates are run as one list
pub run_append : (gs hs : List Gate) (s : List ℕ) → run (gs ++ hs) s ≡ run hs (run gs s)
unfolding run
run_append [] hs s = refl
run_append (g ∷ gs) hs s = run_append gs hs (step g s)

-- running keeps the number of lines
pub length_run : (gs : List Gate) (s : List ℕ) → length (run gs s) ≡ length s
unfolding run
length_run [] s = refl
length_run (g ∷ gs) s = length_run gs (step g s) ∙ length_step g s

-- gates that fit the lines still fit them after a gate, and after a run
pub fits_step : (g : Gate) (gs : List Gate) (s : List ℕ) → Fits gs s → Fits gs (step g s)
fits_step g gs s w = rw (length_step g s) w

pub fits_run : (hs gs : List Gate) (s : List ℕ) → Fits gs s → Fits gs (run hs s)
fits_run hs gs s w = rw (length_run hs s) w

-- running leaves bits
pub run_bits : (gs : List Gate) (s : List ℕ) → Fits gs s → Bits s → Bits (run gs s)
unfolding run
run_bits [] s w b = b
run_bits (g ∷ gs) s w b =
    run_bits gs (step g s) (fits_step g gs s w.1) (step_bits g s (target_below (length s) g w.0) b)

-- a line that is no gate's target stays as it was
pub run_other : (gs : List Gate) (s : List ℕ) (i : ℕ) → All (λ g. i ≢ target g) gs → bit (run gs s) i ≡ bit s i
unfolding run
run_other [] s i a = refl
run_other (g ∷ gs) s i a = run_other gs (step g s) i a.1 ∙ step_other g s i a.0

-- backwards after forwards
pub backwards_undoes : BackwardsUndoes
unfolding run
backwards_undoes [] s w b = refl
backwards_undoes (g ∷ gs) s w b =
    ap (λ (hs : List Gate). run hs (run gs (step g s))) (reverse-cons g gs)
    ∙ run_append (reverse gs) (g ∷ []) (run gs (step g s))
    ∙ ap (step g) (backwards_undoes gs (step g s) (fits_step g gs s w.1) (step_bits g s (target_below (length s) g w.0) b))
    ∙ step_step g s w.0 b

-- forwards after backwards
pub forwards_undoes : ForwardsUndoes
forwards_undoes gs s w b =
    ap (λ (hs : List Gate). run hs (run (reverse gs) s)) (sym (reverse-reverse gs))
    ∙ backwards_undoes (reverse gs) s (all_reverse _ gs w) b

-- two states agree on the lines that are not left out
pub record Agree (out : ℕ → Bool) (s s' : List ℕ) : Type 0 where
  pub long : length s ≡ length s'
  pub at : (i : ℕ) → out i ≡ false → bit s i ≡ bit s' i

-- a state agrees with itself
pub agree_refl : (out : ℕ → Bool) (s : List ℕ) → Agree out s s
agree_refl out s = record { long = refl; at = λ i o. refl }

-- a gate that no line left out controls keeps the agreement
agree_step : (out : ℕ → Bool) (g : Gate) (s s' : List ℕ) → WellFormed (length s) g → Spares out g → Agree out s s' → Agree out (step g s) (step g s')
agree_step out g s s' w n a = record {
  long = length_step g s ∙ a.long ∙ sym (length_step g s');
  at = λ i o. go i o (ℕ_discrete i (target g));
}
  where
    go : (i : ℕ) → out i ≡ false → Dec (i ≡ target g) → bit (step g s) i ≡ bit (step g s') i
    go i o (yes e) =
        let below : target g < length s = target_below (length s) g w in
        ap (bit (step g s)) e
        ∙ step_target g s below
        ∙ ap₂ xor_bit (a.at (target g) (ap out (sym e) ∙ o)) (addend_same g s s' (controls_map a.at g n))
        ∙ sym (step_target g s' (rw a.long at below))
        ∙ ap (bit (step g s')) (sym e)
    go i o (no n) = step_other g s i n ∙ a.at i o ∙ sym (step_other g s' i n)

-- running cannot tell two states apart by a line that is left out
pub agree_run : (out : ℕ → Bool) (gs : List Gate) (s s' : List ℕ) → Fits gs s → All (Spares out) gs → Agree out s s' → Agree out (run gs s) (run gs s')
unfolding run
agree_run out [] s s' w n a = a
agree_run out (g ∷ gs) s s' w n a =
    agree_run out gs (step g s) (step g s') (fits_step g gs s w.1) n.1 (agree_step out g s s' w.0 n.0 a)

-- leaving gates out changes only the lines left out
pub agree_without : (out : ℕ → Bool) (gs : List Gate) (s s' : List ℕ) → Fits gs s → All (Spares out) gs → Agree out s s'
    → Agree out (run gs s) (run (without out gs) s')
unfolding run without
agree_without out [] s s' w n a = a
agree_without out (g ∷ gs) s s' w n a =
    without_at out g gs (λ (hs : List Gate). Agree out (run (g ∷ gs) s) (run hs s'))
    (λ e. agree_without out gs (step g s) s' (fits_step g gs s w.1) n.1 (skipped e))
    (λ e. agree_without out gs (step g s) (step g s') (fits_step g gs s w.1) n.1 (agree_step out g s s' w.0 n.0 a))
  where
    skipped : out (target g) ≡ true → Agree out (step g s) s'
    skipped e = record {
      long = length_step g s ∙ a.long;
      at = λ i o. step_other g s i (λ p. false≢true (sym (sym (ap out p) ∙ o) ∙ e)) ∙ a.at i o;
    }

-- running gates and then their undoing leaves two states that agree where nothing is left out
undone : (out : ℕ → Bool) (gs : List Gate) (s : List ℕ) → Fits gs s → All (Spares out) gs → Bits s
    → Agree out (run (gs ++ uncompute out gs) s) s
unfolding uncompute
undone out gs s w n b =
    let kept : List Gate = without out gs in
    let fits : Fits kept s = all_without _ out gs w in
    let same : Agree out (run gs s) (run kept s) = agree_without out gs s s w n (agree_refl out s) in
    let back : Agree out (run (reverse kept) (run gs s)) (run (reverse kept) (run kept s)) =
    agree_run out (reverse kept) (run gs s) (run kept s) (fits_run gs (reverse kept) s (all_reverse _ kept fits)) (all_reverse _ kept (all_without _ out gs n)) same in
    rw (run_append gs (reverse kept) s) (subst (Agree out (run (reverse kept) (run gs s))) (backwards_undoes kept s fits b) back)

-- the uncompute lemma: 001, Lemma 1
pub uncomputes : Uncomputes
uncomputes out gs s w n b i o = (undone out gs s w n b).at i o
