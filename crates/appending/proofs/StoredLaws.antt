-- Laws of gates that were stored, with others behind them: they are read back, and stand in order. Assumes nothing.
use Prim.Native.Nat.{ℕ, ◌+◌, ◌-◌, ◌<◌, ◌≤◌}
use native.Mathlib.Omega.{arith}
use mathlib.Core.Path.{◌≡◌, ◌∙◌}
use mathlib.Core.List.{List}
use lib.ListN.{length}
use Rattle.wire.proofs.ListLaws.{tabulate_from-same}
use Rattle.gate.specs.declared.gates.Gate.{Gate}
use Rattle.gate.specs.Gates.{WellFormed, All}
use Rattle.circuit.specs.Format.{file_length}
use Rattle.areas.specs.AreaGates.{put_gates, gate_in, gates_from}
use Rattle.areas.proofs.AreaLaws.{put_before, put_back}
use Rattle.appending.specs.Reversing.{InOrder}
use Rattle.appending.proofs.CopyLaws.{order_before, put_order}

-- gates that were stored from gate k on, well formed on at most 65,536 lines, and others behind them
module _ (L : ℕ) (small : L ≤ 65536) (area : List ℕ) (k : ℕ) (gs hs : List Gate) (formed : All (WellFormed L) gs) (room : file_length (k + length gs) ≤ length area) where
  abbrev after : List ℕ
  after = put_gates (put_gates area k gs) (k + length gs) hs

  pub stored_back : gates_from after k (length gs) ≡ gs
  stored_back =
      tabulate_from-same (gate_in after) (gate_in (put_gates area k gs)) k (length gs) (λ j p q. put_before (put_gates area k gs) (k + length gs) hs j q)
      ∙ put_back L small area k gs formed room

  pub stored_order : (j : ℕ) → j < k + length gs → k ≤ j → InOrder after j
  stored_order j h q =
      let at : k + (j - k) ≡ j = omega arith in
      let there : InOrder (put_gates area k gs) (k + (j - k)) = put_order L small area k gs formed room (j - k) (omega arith) in
      order_before (put_gates area k gs) j (k + length gs) hs h (rw at at there)
