-- Laws of the gates of a gate body. Assumes nothing.
use Prim.Native.Nat.{ℕ, ◌+◌, ◌-◌, ◌/◌, ◌<◌, ◌≤◌}
use native.Mathlib.Omega.{arith}
use mathlib.Core.Path.{◌≡◌, sym, ap, ◌∙◌}
use mathlib.Core.List.{List, [], ◌∷◌, ◌++◌}
use lib.ListN.{length, get_or, take, drop}
use lib.Seq.{take-length, drop-length}
use Rattle.wire.proofs.ListLaws.{drop_next, take_next, tabulate_length, tabulate_at}
use Rattle.gate.specs.declared.gates.Gate.{Gate}
use Rattle.gate.specs.declared.gates.Gate.TheVariants.{Not}
use Rattle.gate.specs.Gates.{WellFormed, All}
use Rattle.wire.specs.Lists.{tabulate}
use Rattle.gate_bytes.specs.GateBytes.{gates_bytes, gate_at}
use Rattle.gate_bytes.proofs.ByteLaws.{gates_length}
use Rattle.gate_bytes.proofs.ReadBackLaws.{gates_back}
use Rattle.gate.proofs.AllLaws.{all_at}
use Rattle.circuit.specs.Circuits.{gates_in}

module _ (body : List ℕ) where
  -- a gate body has a gate for every eight bytes, each where its index says
  pub gates_count : length (gates_in body) ≡ length body / 8
  gates_count = tabulate_length (gate_at body) (length body / 8)

  pub gates_at : (i : ℕ) → i < length body / 8 → get_or (gates_in body) i (Not 0) ≡ gate_at body i
  gates_at i h = tabulate_at (gate_at body) (length body / 8) i (Not 0) h

  -- the gates from i on, and the first i + 1
  pub gates_from_lem : (i : ℕ) → i < length body / 8 → drop i (gates_in body) ≡ gate_at body i ∷ drop (i + 1) (gates_in body)
  gates_from_lem i h =
      drop_next (gates_in body) i (Not 0) (omega (arith, gates_count))
      ∙ ap (λ (g : Gate). g ∷ drop (i + 1) (gates_in body)) (gates_at i h)

  pub gates_to : (i : ℕ) → i < length body / 8 → take (i + 1) (gates_in body) ≡ take i (gates_in body) ++ (gate_at body i ∷ [])
  gates_to i h =
      take_next (gates_in body) i (Not 0) (omega (arith, gates_count))
      ∙ ap (λ (g : Gate). take i (gates_in body) ++ (g ∷ [])) (gates_at i h)

  -- all of them
  pub gates_none : (i : ℕ) → i ≡ length body / 8 → drop i (gates_in body) ≡ []
  gates_none i e = ap (λ (n : ℕ). drop n (gates_in body)) (e ∙ sym gates_count) ∙ drop-length (gates_in body)

  pub gates_whole : (i : ℕ) → i ≡ length body / 8 → take i (gates_in body) ≡ gates_in body
  gates_whole i e = ap (λ (n : ℕ). take n (gates_in body)) (e ∙ sym gates_count) ∙ take-length (gates_in body)

  -- the last of the first i gates, and none where i is 0
  pub gates_last : (i : ℕ) → 0 < i → i ≤ length body / 8 → take i (gates_in body) ≡ take (i - 1) (gates_in body) ++ (gate_at body (i - 1) ∷ [])
  gates_last i h l =
      let e : i ≡ i - 1 + 1 = omega arith in
      ap (λ (n : ℕ). take n (gates_in body)) e ∙ gates_to (i - 1) (omega arith)

  pub gates_first_none : (i : ℕ) → i ≤ 0 → take i (gates_in body) ≡ []
  gates_first_none i h = let e : i ≡ 0 = omega arith in ap (λ (n : ℕ). take n (gates_in body)) e

  -- a gate of a body that is well formed on L lines
  pub gate_formed : (L : ℕ) → All (WellFormed L) (gates_in body) → (i : ℕ) → i < length body / 8 → WellFormed L (gate_at body i)
  gate_formed L w i h = rw (gates_at i h) at (all_at (WellFormed L) (gates_in body) w i (Not 0) (omega (arith, gates_count)))

-- the gates of a body that was written are those written
pub written_gates : (L : ℕ) → L ≤ 65536 → (gs : List Gate) → All (WellFormed L) gs → gates_in (gates_bytes gs) ≡ gs
written_gates L few gs w =
    let n : length (gates_bytes gs) / 8 ≡ length gs = omega (arith, gates_length gs) in
    ap (tabulate (gate_at (gates_bytes gs))) n ∙ gates_back L few gs w
