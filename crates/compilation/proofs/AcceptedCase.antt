-- Computed cases: circuits of programs, and what compiling a file leaves in the lent areas. Assumes nothing.
use Prim.Native.Nat.{ℕ}
use mathlib.Core.Path.{◌≡◌, refl}
use mathlib.Core.Bool.{false}
use mathlib.Core.List.{List, [], ◌∷◌}
use lib.ListN.{drop, replicate}
use Rattle.refusal.specs.Checks.{lowest_from}
use Rattle.contents.specs.Contents.{table_fits, entries_from, entries_fit, entries_bytes, contents_bytes}
use Rattle.wire.specs.Lists.{tabulate_from}
use Rattle.gate.specs.declared.gates.Gate.TheVariants.{Cnot, Toffoli}
use Rattle.gate.specs.declared.gates.Gate.TheVariants as gate
use Rattle.gate.specs.Gates.{target}
use Rattle.gate_bytes.specs.GateBytes.{gate_bytes, gates_bytes}
use Rattle.gate.specs.Running.{without, uncompute}
use Rattle.circuit.specs.Format.{opening_bytes, circuit_file}
use Rattle.node.specs.declared.nodes.Node.TheVariants.{Input, Not, Xor, And}
use Rattle.node.specs.Exprs.{size}
use Rattle.node.specs.Nodes.{mark_fits, operands_fit, node_at, node_fits}
use Rattle.program.specs.Programs.{Program, output_tree}
use Rattle.contents.specs.Arity.{arity_fits}
use Rattle.program.specs.Reading.{lengths_fit, output_fits, program_of, read_bodies, read_program}
use Rattle.node.specs.Trees.{tree_of, trees_from, trees}
use Rattle.construction.specs.Pools.{is_among, all_free, lowest_free, take_line, release}
use Rattle.construction.specs.Construction.{input_of, operand, and_gate, cleaning, cleaned, build, share, shares, all_shares, circuit_gates, lines_needed}
use Rattle.construction.specs.Counting.{gates_shown}
use Rattle.compilation.specs.Compiling.{output_trees, program_circuit, compile_program, read_with_sizes, compile_file, compile_of}
use Rattle.sizing.specs.Sizing.{node_sizes}

-- the NOR and the XOR of two inputs
abbrev nor_and_xor : Program
nor_and_xor = record { inputs = 2; nodes = Input 0 ∷ Input 1 ∷ Not 0 ∷ Not 1 ∷ And false 2 3 ∷ Xor 0 1 ∷ []; outputs = 4 ∷ 5 ∷ [] }

-- their circuit has the shares of both outputs, and the work lines of the first
pub two_outputs : program_circuit nor_and_xor
    ≡ record { inputs = 2; outputs = 2; work = 2; gates = gate.Not 4 ∷ Cnot 0 4 ∷ gate.Not 5 ∷ Cnot 1 5 ∷ Toffoli 4 5 2 ∷ Cnot 1 5 ∷ gate.Not 5 ∷ Cnot 0 4 ∷ gate.Not 4 ∷ Cnot 0 3 ∷ Cnot 1 3 ∷ [] }
unfolding program_circuit output_trees output_tree tabulate_from trees trees_from tree_of circuit_gates all_shares shares share build input_of operand and_gate cleaning cleaned lowest_from is_among all_free lowest_free take_line release lines_needed uncompute without target
two_outputs = refl

-- an AND of a node with itself, where that is an input, and of two nodes that name the same input: a CNOT from it each
abbrev same_inputs_lem : Program
same_inputs_lem = record { inputs = 2; nodes = Input 1 ∷ And false 0 0 ∷ Input 1 ∷ And false 0 2 ∷ []; outputs = 1 ∷ 3 ∷ [] }

pub same_inputs : program_circuit same_inputs_lem ≡ record { inputs = 2; outputs = 2; work = 0; gates = Cnot 1 2 ∷ Cnot 1 3 ∷ [] }
unfolding program_circuit output_trees output_tree tabulate_from trees trees_from tree_of circuit_gates all_shares shares share build input_of operand and_gate cleaning cleaned lowest_from is_among all_free lowest_free take_line release lines_needed uncompute without target
same_inputs = refl

-- the file of the program ONE: its table of contents, no input and one output, one node, the output's node
abbrev one_file : List ℕ
one_file =
    3 ∷ 0
    ∷ 1 ∷ 0 ∷ 32 ∷ 0 ∷ 0 ∷ 0 ∷ 4 ∷ 0 ∷ 0 ∷ 0
    ∷ 2 ∷ 0 ∷ 36 ∷ 0 ∷ 0 ∷ 0 ∷ 6 ∷ 0 ∷ 0 ∷ 0
    ∷ 3 ∷ 0 ∷ 42 ∷ 0 ∷ 0 ∷ 0 ∷ 2 ∷ 0 ∷ 0 ∷ 0
    ∷ 0 ∷ 0 ∷ 1 ∷ 0
    ∷ 1 ∷ 0 ∷ 0 ∷ 0 ∷ 0 ∷ 0
    ∷ 0 ∷ 0 ∷ []

-- the area behind its circuit file, which has 36 bytes, is as it was
pub area_behind : drop 34 (compile_of one_file 0 (9 ∷ []) (replicate 38 9)).area ≡ 0 ∷ 0 ∷ 9 ∷ 9 ∷ []
unfolding compile_of compile_file read_with_sizes compile_program gates_shown read_program read_bodies table_fits entries_fit entries_from lengths_fit arity_fits node_fits mark_fits operands_fit output_fits program_of node_at lowest_from size circuit_file opening_bytes contents_bytes entries_bytes gates_bytes gate_bytes program_circuit output_trees output_tree tabulate_from trees trees_from tree_of circuit_gates all_shares shares share build input_of operand and_gate cleaning cleaned is_among all_free lowest_free take_line release lines_needed uncompute without target
area_behind = refl

-- a size list that is too short is as it was
pub list_short : (compile_of one_file 0 [] (replicate 38 9)).sizes ≡ []
unfolding compile_of read_with_sizes read_program read_bodies table_fits entries_fit entries_from lengths_fit arity_fits node_fits mark_fits operands_fit output_fits program_of node_at lowest_from tabulate_from node_sizes trees trees_from tree_of
list_short = refl
