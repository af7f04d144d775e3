-- Marked ANDs, run, gate by gate and with their work lines. Assumes nothing.
use mathlib.Core.Path.{◌≡◌, refl}
use mathlib.Core.Bool.{true, false}
use mathlib.Core.List.{[], ◌∷◌}
use Rattle.wire.specs.Bits.{xor_bit}
use Rattle.refusal.specs.Checks.{lowest_from}
use Rattle.gate.specs.declared.gates.Gate.TheVariants.{Cnot, Toffoli}
use Rattle.gate.specs.Gates.{target}
use Rattle.gate.specs.Running.{addend, step, run, without, uncompute}
use Rattle.node.specs.Exprs.{Expr, INPUT, XOR, AND}
use Rattle.construction.specs.Pools.{is_among, all_free, lowest_free, take_line, release}
use Rattle.construction.specs.Construction.{input_of, operand, and_gate, cleaning, cleaned, build, share, shares, all_shares, circuit_gates, lines_needed}
use Rattle.construction.proofs.AndCases.{two_and, three_and}

-- the AND of the inputs 0 to 2 with its last AND marked, and that of 0 to 3
abbrev pub three_marked : Expr
three_marked = AND true two_and (INPUT 2)

abbrev pub four_marked : Expr
four_marked = AND true three_and (INPUT 3)

-- the operands are undone last to first: from every line at 1 but the target, each comes back
pub order_run : run (build four_marked 4 (all_free 5)).gates (1 ∷ 1 ∷ 1 ∷ 1 ∷ 0 ∷ 1 ∷ 1 ∷ []) ≡ 1 ∷ 1 ∷ 1 ∷ 1 ∷ 1 ∷ 1 ∷ 1 ∷ []
unfolding build input_of operand and_gate cleaning cleaned is_among all_free lowest_free lowest_from take_line release target run step addend xor_bit
order_run = refl

pub order_gates : (build four_marked 4 (all_free 5)).gates ≡ Toffoli 0 1 6 ∷ Toffoli 2 6 5 ∷ Toffoli 3 5 4 ∷ Toffoli 2 6 5 ∷ Toffoli 0 1 6 ∷ []
unfolding build input_of operand and_gate cleaning cleaned is_among all_free lowest_free lowest_from take_line release
order_gates = refl

-- its gate is not undone: inputs 1, 1, 1 change the target
pub marked_run : run (circuit_gates 3 (three_marked ∷ [])) (1 ∷ 1 ∷ 1 ∷ 0 ∷ 0 ∷ []) ≡ 1 ∷ 1 ∷ 1 ∷ 1 ∷ 0 ∷ []
unfolding circuit_gates all_shares shares share build input_of operand and_gate cleaning cleaned is_among all_free lowest_free lowest_from take_line release uncompute without target run step addend xor_bit
marked_run = refl

-- the share's end covers what cleans up too
pub marked_gates : circuit_gates 3 (three_marked ∷ []) ≡ Toffoli 0 1 4 ∷ Toffoli 2 4 3 ∷ Toffoli 0 1 4 ∷ Toffoli 0 1 4 ∷ Toffoli 0 1 4 ∷ []
unfolding circuit_gates all_shares shares share build input_of operand and_gate cleaning cleaned is_among all_free lowest_free lowest_from take_line release uncompute without target
marked_gates = refl

-- lines are counted as the most held together: this one holds none when it is built
pub marked_lines : lines_needed 3 (three_marked ∷ []) ≡ 1
unfolding lines_needed all_shares shares share build input_of operand and_gate cleaning cleaned is_among all_free lowest_free lowest_from take_line release
marked_lines = refl

-- the lines of a marked AND are free again, lowest first: the other operand of an XOR takes the same one
abbrev pub two_marked : Expr
two_marked = XOR three_marked (AND false two_and (INPUT 3))

pub free_gates : (build two_marked 4 (all_free 5)).gates ≡ Toffoli 0 1 5 ∷ Toffoli 2 5 4 ∷ Toffoli 0 1 5 ∷ Toffoli 0 1 5 ∷ Toffoli 3 5 4 ∷ []
unfolding build input_of operand and_gate cleaning cleaned is_among all_free lowest_free lowest_from take_line release
free_gates = refl

pub free_lines : lines_needed 4 (two_marked ∷ []) ≡ 1
unfolding lines_needed all_shares shares share build input_of operand and_gate cleaning cleaned is_among all_free lowest_free lowest_from take_line release
free_lines = refl

-- the most held together are those of the first, though the second takes its line later
pub earlier_lines : lines_needed 4 (XOR four_marked (AND false two_and (INPUT 2)) ∷ []) ≡ 2
unfolding lines_needed all_shares shares share build input_of operand and_gate cleaning cleaned is_among all_free lowest_free lowest_from take_line release
earlier_lines = refl

-- the lines in use before it stay in use
abbrev pub kept_marked : Expr
kept_marked = AND false three_marked (AND true (XOR (INPUT 2) (INPUT 3)) (INPUT 0))

pub kept_gates : (build kept_marked 4 (all_free 5)).gates
    ≡ Toffoli 0 1 6 ∷ Toffoli 2 6 5 ∷ Toffoli 0 1 6 ∷ Cnot 2 7 ∷ Cnot 3 7 ∷ Toffoli 0 7 6 ∷ Cnot 3 7 ∷ Cnot 2 7 ∷ Toffoli 5 6 4 ∷ []
unfolding build input_of operand and_gate cleaning cleaned is_among all_free lowest_free lowest_from take_line release
kept_gates = refl

pub kept_lines : lines_needed 4 (kept_marked ∷ []) ≡ 3
unfolding lines_needed all_shares shares share build input_of operand and_gate cleaning cleaned is_among all_free lowest_free lowest_from take_line release
kept_lines = refl

-- both operands are undone, the second first, and marks in marks multiply gates
abbrev pub nested_marked : Expr
nested_marked = AND true three_marked (XOR (INPUT 2) (INPUT 3))

pub nested_gates : (build nested_marked 4 (all_free 5)).gates
    ≡ Toffoli 0 1 6 ∷ Toffoli 2 6 5 ∷ Toffoli 0 1 6 ∷ Cnot 2 6 ∷ Cnot 3 6 ∷ Toffoli 5 6 4 ∷ Cnot 3 6 ∷ Cnot 2 6 ∷ Toffoli 0 1 6 ∷ Toffoli 2 6 5 ∷ Toffoli 0 1 6 ∷ []
unfolding build input_of operand and_gate cleaning cleaned is_among all_free lowest_free lowest_from take_line release
nested_gates = refl

pub nested_lines : lines_needed 4 (nested_marked ∷ []) ≡ 2
unfolding lines_needed all_shares shares share build input_of operand and_gate cleaning cleaned is_among all_free lowest_free lowest_from take_line release
nested_lines = refl

-- an AND of inputs has nothing to undo
pub inputs_gates : circuit_gates 2 (AND true (INPUT 0) (INPUT 1) ∷ AND true (INPUT 1) (INPUT 1) ∷ []) ≡ Toffoli 0 1 2 ∷ Cnot 1 3 ∷ []
unfolding circuit_gates all_shares shares share build input_of operand and_gate cleaning cleaned is_among all_free lowest_free lowest_from take_line release uncompute without target
inputs_gates = refl

pub inputs_lines : lines_needed 2 (AND true (INPUT 0) (INPUT 1) ∷ AND true (INPUT 1) (INPUT 1) ∷ []) ≡ 0
unfolding lines_needed all_shares shares share build input_of operand and_gate cleaning cleaned is_among all_free lowest_free lowest_from take_line release
inputs_lines = refl
