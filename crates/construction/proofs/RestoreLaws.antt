-- Laws of the shares of several outputs: they restore the lines. Assumes nothing.
use Prim.Native.Nat.{ℕ, zero, suc, ◌+◌, ◌<◌, ◌≤◌}
use native.Mathlib.Omega.{arith}
use native.Mathlib.Nat.{add-zero}
use mathlib.Core.Path.{◌≡◌, refl, sym, ap, ap₂, ◌∙◌}
use mathlib.Core.Logic.{◌≢◌}
use mathlib.Core.List.{List, [], ◌∷◌, ◌++◌, append_assoc, append-nil}
use lib.ListN.{length, get_or, take, drop, take-append-drop}
use lib.Seq.{take-length, get_or-take, length-take-le}
use Rattle.wire.specs.Bits.{xor_bit, bit, Bits}
use Rattle.wire.proofs.ListLaws.{take_next}
use Rattle.gate.specs.declared.gates.Gate.{Gate}
use Rattle.gate.specs.Gates.{WellFormed, All}
use Rattle.gate.specs.Running.{run}
use Rattle.gate.proofs.AllLaws.{all_append}
use Rattle.gate.proofs.StepLaws.{length_run, run_append, run_bits}
use Rattle.node.specs.Exprs.{Expr, ZERO, value, EachBelow}
use Rattle.construction.specs.Construction.{shares, circuit_gates}
use Rattle.construction.specs.Theorems.{Zeros, CircuitFormed, Start, first_built, first_shares, share_of, After, SharesRestore}
use Rattle.construction.proofs.Numbers.{share_from, shares_from, most_of, ApartFrom}
use Rattle.construction.proofs.PoolLaws.{circuit_is, lines_needed_lem, first_shares_lem, share_of_lem, rest_shares}
use Rattle.construction.proofs.ComputeLaws.{inputs_run}
use Rattle.construction.proofs.ShareLaws.{share_formed_from, share_restores_from, share_computes}

-- inputs, targets and work lines of several outputs are apart: the targets start at t, behind the inputs, and the work lines at f, behind the targets
pub record AllApart (n : ℕ) (es : List Expr) (t f L : ℕ) : Type 0 where
  pub inputs : EachBelow n es
  pub behind : n ≤ t
  pub free : t + length es ≤ f
  pub below : f + most_of es ≤ L

-- so they are for the first output, and for those after it
module _ {n : ℕ} {e : Expr} {es : List Expr} {t f L : ℕ} (p : AllApart n (e ∷ es) t f L) where
  apart_first : ApartFrom n e t f L
  unfolding most_of
  apart_first = record { inputs = p.inputs.0; behind = p.behind; free = omega arith; below = omega arith }

  apart_rest : AllApart n es (t + 1) f L
  unfolding most_of
  apart_rest = record { inputs = p.inputs.1; behind = omega arith; free = omega arith; below = omega arith }

-- every gate of the shares is well formed
pub shares_formed : (n : ℕ) (es : List Expr) (t f L : ℕ) → AllApart n es t f L → All (WellFormed L) (shares_from es t f)
unfolding shares_from
shares_formed n [] t f L p = tt
shares_formed n (e ∷ es) t f L p =
    all_append _ (share_from e t f) _ (share_formed_from n e t f L (apart_first p)) (shares_formed n es (t + 1) f L (apart_rest p))

-- and so is every gate of the circuit
pub circuit_formed : CircuitFormed
circuit_formed n es w =
    rw (circuit_is n es, lines_needed_lem n es)
    (shares_formed n es n (n + length es) _ (record { inputs = w; behind = omega arith; free = omega arith; below = omega arith }))

-- what the first share leaves for those after it
module _ {n : ℕ} {e : Expr} {es : List Expr} {t f : ℕ} (s : List ℕ) (p : AllApart n (e ∷ es) t f (length s)) (b : Bits s) where
  rest_apart : AllApart n es (t + 1) f (length (run (share_from e t f) s))
  rest_apart = rw (length_run (share_from e t f) s) (apart_rest p)

  rest_bits : Bits (run (share_from e t f) s)
  rest_bits = run_bits (share_from e t f) s (share_formed_from n e t f (length s) (apart_first p)) b

  rest_runs : (i : ℕ) → bit (run (shares_from (e ∷ es) t f) s) i ≡ bit (run (shares_from es (t + 1) f) (run (share_from e t f) s)) i
  unfolding shares_from
  rest_runs i = ap (λ (r : List ℕ). bit r i) (run_append (share_from e t f) (shares_from es (t + 1) f) s)

-- from every start, shares leave every line but their targets as it started
pub shares_leave : (n : ℕ) (es : List Expr) (t f : ℕ) (s : List ℕ) → AllApart n es t f (length s) → Bits s
    → (i : ℕ) → (t ≤ i → t + length es ≤ i) → bit (run (shares_from es t f) s) i ≡ bit s i
unfolding shares_from run
shares_leave n [] t f s p b i h = refl
shares_leave n (e ∷ es) t f s p b i h =
    rest_runs s p b i
    ∙ shares_leave n es (t + 1) f (run (share_from e t f) s) (rest_apart s p b) (rest_bits s p b) i (λ q. omega (arith, h (omega arith)))
    ∙ share_restores_from n e t f s (apart_first p) b i (λ q. omega (arith, h (omega arith)))

-- and where the work lines hold 0, each target holds its first bit XOR its output's value
pub shares_compute : (n : ℕ) (es : List Expr) (t f : ℕ) (s : List ℕ) → AllApart n es t f (length s) → Bits s → Zeros f (most_of es) s
    → (k : ℕ) → k < length es → bit (run (shares_from es t f) s) (t + k) ≡ xor_bit (bit s (t + k)) (value (get_or es k ZERO) (take n s))
unfolding most_of
shares_compute n [] t f s p b zs k h = absurd (omega arith)
shares_compute n (e ∷ es) t f s p b zs zero h =
    rw (add-zero t)
    (rest_runs s p b t
    ∙ shares_leave n es (t + 1) f (run (share_from e t f) s) (rest_apart s p b) (rest_bits s p b) t (λ q. omega arith)
    ∙ share_computes n e t f s (apart_first p) b (λ i q r. zs i q (omega arith)))
shares_compute n (e ∷ es) t f s p b zs (suc k) h =
    let s₁ : List ℕ = run (share_from e t f) s in
    let same : (i : ℕ) → i ≢ t → bit s₁ i ≡ bit s i = share_restores_from n e t f s (apart_first p) b in
    let at : t + suc k ≡ t + 1 + k = omega arith in
    rw at
    (rest_runs s p b (t + 1 + k)
    ∙ shares_compute n es (t + 1) f s₁ (rest_apart s p b) (rest_bits s p b)
    (λ i q r. same i (omega arith) ∙ zs i q (omega arith)) k (omega arith)
    ∙ ap₂ (λ (v : ℕ) (x : List ℕ). xor_bit v (value (get_or es k ZERO) x)) (same (t + 1 + k) (omega arith))
    (inputs_run n (share_from e t f) s (λ i q. same i (omega arith))))

-- the shares of some outputs and of those that follow them
pub shares_append : (ds es : List Expr) (t f : ℕ) → shares_from (ds ++ es) t f ≡ shares_from ds t f ++ shares_from es (t + length ds) f
unfolding shares_from
shares_append [] es t f = ap (λ (k : ℕ). shares_from es k f) (sym (add-zero t))
shares_append (d ∷ ds) es t f =
    let at : t + 1 + length ds ≡ t + suc (length ds) = omega arith in
    ap (λ (gs : List Gate). share_from d t f ++ gs) (shares_append ds es (t + 1) f ∙ ap (λ (k : ℕ). shares_from ds (t + 1) f ++ shares_from es k f) at)
    ∙ sym (append_assoc (share_from d t f) (shares_from ds (t + 1) f) (shares_from es (t + suc (length ds)) f))

module _ (n : ℕ) (es : List Expr) where
  -- the first j shares open the circuit
  pub shares_open : (j : ℕ) → j ≤ length es → circuit_gates n es ≡ first_shares n es j ++ (shares (drop j es) (n + j) (first_built n es j).pool).gates
  shares_open j h =
      let f : ℕ = n + length es in
      rw (circuit_is n es, first_shares_lem n es j, rest_shares n es j)
      (ap (λ (ds : List Expr). shares_from ds n f) (sym (take-append-drop j es))
      ∙ shares_append (take j es) (drop j es) n f
      ∙ ap (λ (k : ℕ). shares_from (take j es) n f ++ shares_from (drop j es) (n + k) f) (length-take-le j es h))

  -- the share of output j follows the first j shares
  pub shares_next : (j : ℕ) → j < length es → first_shares n es (j + 1) ≡ first_shares n es j ++ share_of n es j
  unfolding shares_from
  shares_next j h =
      let f : ℕ = n + length es in
      let e : Expr = get_or es j ZERO in
      rw (first_shares_lem n es (j + 1), first_shares_lem n es j, share_of_lem n es j)
      (ap (λ (ds : List Expr). shares_from ds n f) (take_next es j ZERO h)
      ∙ shares_append (take j es) (e ∷ []) n f
      ∙ ap (λ (gs : List Gate). shares_from (take j es) n f ++ gs)
      (append-nil (share_from e (n + length (take j es)) f) ∙ ap (λ (k : ℕ). share_from e (n + k) f) (length-take-le j es (omega arith))))

-- the inputs of the first outputs are below n
below_take : (n j : ℕ) (es : List Expr) → EachBelow n es → EachBelow n (take j es)
below_take n zero es w = tt
below_take n (suc j) [] w = tt
below_take n (suc j) (e ∷ es) w = (w.0, below_take n j es w.1)

-- the first outputs need no more work lines than all
lines_take : (j : ℕ) (es : List Expr) → most_of (take j es) ≤ most_of es
unfolding most_of
lines_take zero es = omega arith
lines_take (suc j) [] = omega arith
lines_take (suc j) (e ∷ es) = omega (arith, lines_take j es)

-- what the first j shares leave
shares_after : (n : ℕ) (es : List Expr) → EachBelow n es → (start : List ℕ) → Start (n + length es + most_of es) start → (j : ℕ) → j ≤ length es
    → After n (length es) (most_of es) (λ k. value (get_or es k ZERO) (take n start)) j start (run (shares_from (take j es) n (n + length es)) start)
shares_after n es w start st j h =
    let f : ℕ = n + length es in
    let ds : List Expr = take j es in
    let l : length ds ≡ j = length-take-le j es h in
    let fewer : most_of ds ≤ most_of es = lines_take j es in
    let p : AllApart n ds n f (length start) =
    record { inputs = below_take n j es w; behind = omega arith; free = omega arith; below = omega arith } in
    let left : (i : ℕ) → (n ≤ i → n + j ≤ i) → bit (run (shares_from ds n f) start) i ≡ bit start i =
    λ i q. shares_leave n ds n f start p st.bits i (λ r. omega (arith, q r)) in
    record {
      long = length_run (shares_from ds n f) start;
      inputs = λ i q. left i (λ r. omega arith);
      work = λ i q. left i (λ r. omega arith);
      waiting = λ k q r. left (n + k) (λ u. omega arith);
      over = λ zs k q.
          shares_compute n ds n f start p st.bits (λ i r u. zs i r (omega arith)) k (omega arith)
          ∙ ap (λ (e : Expr). xor_bit (bit start (n + k)) (value e (take n start))) (get_or-take j es k ZERO q);
    }

-- the shares restore the lines
pub shares_restore : (n : ℕ) (es : List Expr) → EachBelow n es → SharesRestore n es
shares_restore n es w = record {
  opens = shares_open n es;
  whole = first_shares_lem n es (length es) ∙ ap (λ (ds : List Expr). shares_from ds n (n + length es)) (take-length es) ∙ sym (circuit_is n es);
  follows = λ start j h. ap (λ (gs : List Gate). run gs start) (shares_next n es j h) ∙ run_append (first_shares n es j) (share_of n es j) start;
  holds = λ start st j h. rw (first_shares_lem n es j, lines_needed_lem n es) (shares_after n es w start (rw (lines_needed_lem n es) at st) j h);
}
