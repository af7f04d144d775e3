-- Programs without marks (02, A7): they have the circuits that they had before there were any.
use Rattle.std.specs.Prelude.{ℕ, ◌+◌, ◌≤◌, ◌<◌, ◌≡◌, length, get_or}
use Rattle.wire.specs.Limits.{most_size}
use Rattle.node.specs.declared.nodes.Node.{Node}
use Rattle.node.specs.declared.nodes.Node.TheVariants.{Zero}
use Rattle.node.specs.NodeBytes.{node_bytes}
use Rattle.node.specs.Exprs.{size}
use Rattle.program.specs.Programs.{Program, output_tree, LegalProgram}
use Rattle.construction.specs.Counting.{gates_shown}
use Rattle.construction.specs.Pools.{all_free}
use Rattle.marks.specs.Unmarked.{unmarked_shares}
use Rattle.compilation.specs.Compiling.{output_trees, program_circuit}

-- a node is not marked: its second byte is 0
abbrev pub NotMarked : Node → Type 0
NotMarked n = get_or (node_bytes n) 1 0 ≡ 0

-- no node of a program is marked
abbrev pub WithoutMarks : Program → Type 0
WithoutMarks p = (i : ℕ) → i < length p.nodes → NotMarked (get_or p.nodes i Zero)

-- a program without marks has the gates and the work lines of the construction before there were marks
abbrev pub UnmarkedPrograms : Type 0
UnmarkedPrograms =
    (p : Program) → WithoutMarks p
    → let b = unmarked_shares (output_trees p) p.inputs (all_free (p.inputs + length p.outputs)) in
    ((program_circuit p).gates ≡ b.gates) × ((program_circuit p).work ≡ b.pool.most)

-- and where no output is too large (8), its number of gates is shown as it is, so that 11 has the place that it had
abbrev pub UnmarkedShown : Type 0
UnmarkedShown =
    (p : Program) → LegalProgram p → WithoutMarks p → ((k : ℕ) → k < length p.outputs → size (output_tree p k) ≤ most_size)
    → gates_shown (length (program_circuit p).gates) ≡ length (program_circuit p).gates
