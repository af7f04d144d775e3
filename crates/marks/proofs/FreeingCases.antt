-- What the claim about marked ANDs comes to in one circuit: it speaks of the AND, of its place and of the line that it frees. Assumes nothing.
use Prim.Native.Nat.{ℕ}
use native.Mathlib.Omega.{arith}
use mathlib.Core.Path.{◌≡◌, refl}
use mathlib.Core.List.{List, [], ◌∷◌}
use Rattle.wire.specs.Bits.{bit}
use Rattle.refusal.specs.Checks.{lowest_from}
use Rattle.gate.specs.declared.gates.Gate.TheVariants.{Toffoli}
use Rattle.gate.specs.Running.{run}
use Rattle.node.specs.Exprs.{INPUT}
use Rattle.construction.specs.Pools.{is_among, all_free, lowest_free, take_line, release}
use Rattle.construction.specs.Construction.{input_of, operand, and_gate, cleaning, cleaned, build, share, shares, all_shares, circuit_gates, lines_needed}
use Rattle.construction.specs.Theorems.{Start, first_built, first_shares}
use Rattle.construction.proofs.AndCases.{two_and}
use Rattle.construction.proofs.AndCleanCases.{three_marked}
use Rattle.marks.specs.Freeing.{Freed, CleansUp}
use Rattle.marks.proofs.FreeingLaws.{marked_clean_up}

-- the AND of three inputs with its last AND marked: that one is met, with no gate before it
three_cleans : CleansUp (circuit_gates 3 (three_marked ∷ [])) 5 [] two_and (INPUT 2) 3 (all_free 4)
unfolding lines_needed all_shares shares share build input_of operand and_gate cleaning cleaned is_among all_free lowest_free lowest_from take_line release first_built first_shares
three_cleans = (marked_clean_up 3 (three_marked ∷ []) (((omega arith, omega arith), omega arith), tt) 0 (omega arith)).0 refl

-- line 4 is freed
four_freed : Freed two_and (INPUT 2) (all_free 4) 4
unfolding build input_of operand cleaned is_among all_free lowest_free lowest_from take_line
four_freed = record { was_free = refl; taken = refl }

-- so it holds after the AND's three gates what it held before them
four_holds : (start : List ℕ) → Start 5 start → bit (run (Toffoli 0 1 4 ∷ Toffoli 2 4 3 ∷ Toffoli 0 1 4 ∷ []) start) 4 ≡ bit start 4
unfolding build input_of operand and_gate cleaning cleaned is_among all_free lowest_free lowest_from take_line release run
four_holds start s = three_cleans.holds start s 4 four_freed
