-- ANDs of two, three and four inputs and their neighbours, run, gate by gate and with their work lines. Assumes nothing.
use mathlib.Core.Path.{◌≡◌, refl}
use mathlib.Core.Bool.{false}
use mathlib.Core.List.{[], ◌∷◌, ◌++◌}
use lib.Dec.{eqb}
use Rattle.wire.specs.Bits.{xor_bit}
use Rattle.refusal.specs.Checks.{lowest_from}
use Rattle.gate.specs.declared.gates.Gate.TheVariants.{Not, Cnot, Toffoli}
use Rattle.gate.specs.Gates.{target}
use Rattle.gate.specs.Running.{addend, step, run, without, uncompute}
use Rattle.gate.proofs.OrderCase.{four_inputs}
use Rattle.node.specs.Exprs.{Expr, ONE, INPUT, NOT, XOR, AND}
use Rattle.construction.specs.Pools.{is_among, all_free, lowest_free, take_line, release}
use Rattle.construction.specs.Construction.{input_of, operand, and_gate, cleaning, cleaned, build, share, shares, all_shares, circuit_gates, lines_needed}

-- the ANDs of the inputs 0 and 1, and of 0 to 2
abbrev pub two_and : Expr
two_and = AND false (INPUT 0) (INPUT 1)

abbrev pub three_and : Expr
three_and = AND false two_and (INPUT 2)

-- inputs 1 and 0: the target stays as it was, and the inputs come back
pub two_run : run (circuit_gates 2 (two_and ∷ [])) (1 ∷ 0 ∷ 1 ∷ []) ≡ 1 ∷ 0 ∷ 1 ∷ []
unfolding circuit_gates all_shares shares share build input_of operand and_gate cleaning cleaned is_among all_free lowest_free lowest_from take_line release uncompute without target run step addend xor_bit
two_run = refl

-- inputs control directly: it is one Toffoli
pub two_gates : circuit_gates 2 (two_and ∷ []) ≡ Toffoli 0 1 2 ∷ []
unfolding circuit_gates all_shares shares share build input_of operand and_gate cleaning cleaned is_among all_free lowest_free lowest_from take_line release uncompute without target
two_gates = refl

-- and takes no work line
pub two_lines : lines_needed 2 (two_and ∷ []) ≡ 0
unfolding lines_needed all_shares shares share build input_of operand and_gate cleaning cleaned is_among all_free lowest_free lowest_from take_line release
two_lines = refl

-- the lower control is written first, whichever operand it is
pub turned_gates : circuit_gates 2 (AND false (INPUT 1) (INPUT 0) ∷ []) ≡ Toffoli 0 1 2 ∷ []
unfolding circuit_gates all_shares shares share build input_of operand and_gate cleaning cleaned is_among all_free lowest_free lowest_from take_line release uncompute without target
turned_gates = refl

pub turned_lines : lines_needed 2 (AND false (INPUT 1) (INPUT 0) ∷ []) ≡ 0
unfolding lines_needed all_shares shares share build input_of operand and_gate cleaning cleaned is_among all_free lowest_free lowest_from take_line release
turned_lines = refl

-- two operands that name the same input give a CNOT from it
pub same_gates : circuit_gates 2 (AND false (INPUT 1) (INPUT 1) ∷ []) ≡ Cnot 1 2 ∷ []
unfolding circuit_gates all_shares shares share build input_of operand and_gate cleaning cleaned is_among all_free lowest_free lowest_from take_line release uncompute without target
same_gates = refl

pub same_lines : lines_needed 2 (AND false (INPUT 1) (INPUT 1) ∷ []) ≡ 0
unfolding lines_needed all_shares shares share build input_of operand and_gate cleaning cleaned is_among all_free lowest_free lowest_from take_line release
same_lines = refl

-- NOT of an input is no input: it takes a line
abbrev pub not_and : Expr
not_and = AND false (NOT (INPUT 0)) (INPUT 1)

-- inputs 1 and 1: the target stays as it was
pub not_run : run (circuit_gates 2 (not_and ∷ [])) (1 ∷ 1 ∷ 0 ∷ 0 ∷ []) ≡ 1 ∷ 1 ∷ 0 ∷ 0 ∷ []
unfolding circuit_gates all_shares shares share build input_of operand and_gate cleaning cleaned is_among all_free lowest_free lowest_from take_line release uncompute without target run step addend xor_bit
not_run = refl

pub not_gates : circuit_gates 2 (not_and ∷ []) ≡ Not 3 ∷ Cnot 0 3 ∷ Toffoli 1 3 2 ∷ Cnot 0 3 ∷ Not 3 ∷ []
unfolding circuit_gates all_shares shares share build input_of operand and_gate cleaning cleaned is_among all_free lowest_free lowest_from take_line release uncompute without target
not_gates = refl

pub not_lines : lines_needed 2 (not_and ∷ []) ≡ 1
unfolding lines_needed all_shares shares share build input_of operand and_gate cleaning cleaned is_among all_free lowest_free lowest_from take_line release
not_lines = refl

-- and so does a constant
pub one_gates : circuit_gates 1 (AND false (INPUT 0) ONE ∷ []) ≡ Not 2 ∷ Toffoli 0 2 1 ∷ Not 2 ∷ []
unfolding circuit_gates all_shares shares share build input_of operand and_gate cleaning cleaned is_among all_free lowest_free lowest_from take_line release uncompute without target
one_gates = refl

pub one_lines : lines_needed 1 (AND false (INPUT 0) ONE ∷ []) ≡ 1
unfolding lines_needed all_shares shares share build input_of operand and_gate cleaning cleaned is_among all_free lowest_free lowest_from take_line release
one_lines = refl

-- inputs 1, 1, 1: the target changes, and the inputs and the work line come back
pub three_run : run (circuit_gates 3 (three_and ∷ [])) (1 ∷ 1 ∷ 1 ∷ 0 ∷ 0 ∷ []) ≡ 1 ∷ 1 ∷ 1 ∷ 1 ∷ 0 ∷ []
unfolding circuit_gates all_shares shares share build input_of operand and_gate cleaning cleaned is_among all_free lowest_free lowest_from take_line release uncompute without target run step addend xor_bit
three_run = refl

-- an operand that is no input takes a line; the input is the lower control
pub three_gates : circuit_gates 3 (three_and ∷ []) ≡ Toffoli 0 1 4 ∷ Toffoli 2 4 3 ∷ Toffoli 0 1 4 ∷ []
unfolding circuit_gates all_shares shares share build input_of operand and_gate cleaning cleaned is_among all_free lowest_free lowest_from take_line release uncompute without target
three_gates = refl

pub three_lines : lines_needed 3 (three_and ∷ []) ≡ 1
unfolding lines_needed all_shares shares share build input_of operand and_gate cleaning cleaned is_among all_free lowest_free lowest_from take_line release
three_lines = refl

-- a work line that starts at 1 comes back as 1, whatever the target then holds
pub three_dirty : run (circuit_gates 3 (three_and ∷ [])) (1 ∷ 1 ∷ 1 ∷ 0 ∷ 1 ∷ []) ≡ 1 ∷ 1 ∷ 1 ∷ 0 ∷ 1 ∷ []
unfolding circuit_gates all_shares shares share build input_of operand and_gate cleaning cleaned is_among all_free lowest_free lowest_from take_line release uncompute without target run step addend xor_bit
three_dirty = refl

-- where the second operand is the AND, it alone takes a line
abbrev pub right_and : Expr
right_and = AND false (INPUT 0) (AND false (INPUT 1) (INPUT 2))

pub right_gates : circuit_gates 3 (right_and ∷ []) ≡ Toffoli 1 2 4 ∷ Toffoli 0 4 3 ∷ Toffoli 1 2 4 ∷ []
unfolding circuit_gates all_shares shares share build input_of operand and_gate cleaning cleaned is_among all_free lowest_free lowest_from take_line release uncompute without target
right_gates = refl

pub right_lines : lines_needed 3 (right_and ∷ []) ≡ 1
unfolding lines_needed all_shares shares share build input_of operand and_gate cleaning cleaned is_among all_free lowest_free lowest_from take_line release
right_lines = refl

-- the first operand is built, with the lines that it takes, before the second takes its own
abbrev pub both_and : Expr
both_and = AND false three_and (AND false (INPUT 2) (INPUT 3))

-- inputs 1, 1, 1, 1: the target changes, and the inputs and the work lines come back
pub both_run : run (circuit_gates 4 (both_and ∷ [])) (1 ∷ 1 ∷ 1 ∷ 1 ∷ 0 ∷ 0 ∷ 0 ∷ 0 ∷ []) ≡ 1 ∷ 1 ∷ 1 ∷ 1 ∷ 1 ∷ 0 ∷ 0 ∷ 0 ∷ []
unfolding circuit_gates all_shares shares share build input_of operand and_gate cleaning cleaned is_among all_free lowest_free lowest_from take_line release uncompute without target run step addend xor_bit
both_run = refl

pub both_gates : circuit_gates 4 (both_and ∷ [])
    ≡ Toffoli 0 1 6 ∷ Toffoli 2 6 5 ∷ Toffoli 2 3 7 ∷ Toffoli 5 7 4 ∷ Toffoli 2 3 7 ∷ Toffoli 2 6 5 ∷ Toffoli 0 1 6 ∷ []
unfolding circuit_gates all_shares shares share build input_of operand and_gate cleaning cleaned is_among all_free lowest_free lowest_from take_line release uncompute without target
both_gates = refl

pub both_lines : lines_needed 4 (both_and ∷ []) ≡ 3
unfolding lines_needed all_shares shares share build input_of operand and_gate cleaning cleaned is_among all_free lowest_free lowest_from take_line release
both_lines = refl

-- the ANDs of an XOR go to its line
pub xor_gates : circuit_gates 4 (XOR two_and (AND false (INPUT 2) (INPUT 3)) ∷ []) ≡ Toffoli 0 1 4 ∷ Toffoli 2 3 4 ∷ []
unfolding circuit_gates all_shares shares share build input_of operand and_gate cleaning cleaned is_among all_free lowest_free lowest_from take_line release uncompute without target
xor_gates = refl

pub xor_none : lines_needed 4 (XOR two_and (AND false (INPUT 2) (INPUT 3)) ∷ []) ≡ 0
unfolding lines_needed all_shares shares share build input_of operand and_gate cleaning cleaned is_among all_free lowest_free lowest_from take_line release
xor_none = refl

-- the second operand of an XOR takes lines behind those that the first still holds
abbrev pub two_ands : Expr
two_ands = XOR three_and (AND false two_and (INPUT 3))

pub xor_holds : circuit_gates 4 (two_ands ∷ []) ≡ Toffoli 0 1 5 ∷ Toffoli 2 5 4 ∷ Toffoli 0 1 6 ∷ Toffoli 3 6 4 ∷ Toffoli 0 1 6 ∷ Toffoli 0 1 5 ∷ []
unfolding circuit_gates all_shares shares share build input_of operand and_gate cleaning cleaned is_among all_free lowest_free lowest_from take_line release uncompute without target
xor_holds = refl

pub xor_lines : lines_needed 4 (two_ands ∷ []) ≡ 2
unfolding lines_needed all_shares shares share build input_of operand and_gate cleaning cleaned is_among all_free lowest_free lowest_from take_line release
xor_lines = refl

-- after a share its lines are free again: the next output takes the same ones, and w is not their sum
pub next_gates : circuit_gates 3 (three_and ∷ three_and ∷ []) ≡ Toffoli 0 1 5 ∷ Toffoli 2 5 3 ∷ Toffoli 0 1 5 ∷ Toffoli 0 1 5 ∷ Toffoli 2 5 4 ∷ Toffoli 0 1 5 ∷ []
unfolding circuit_gates all_shares shares share build input_of operand and_gate cleaning cleaned is_among all_free lowest_free lowest_from take_line release uncompute without target
next_gates = refl

pub next_lines : lines_needed 3 (three_and ∷ three_and ∷ []) ≡ 1
unfolding lines_needed all_shares shares share build input_of operand and_gate cleaning cleaned is_among all_free lowest_free lowest_from take_line release
next_lines = refl

-- the share of its AND with input 3 is the case of the order of undoing, last to first
pub four_share : (share (AND false three_and (INPUT 3)) 4 (all_free 5)).gates ≡ four_inputs ++ uncompute (eqb 4) four_inputs
unfolding share build input_of operand and_gate cleaning cleaned is_among all_free lowest_free lowest_from take_line
four_share = refl
