-- Compiling a program file, check by check in the order of 01's table.
use Rattle.std.specs.Prelude.{ℕ, ◌&&◌, List, ◌++◌, length, drop, leb}
use Rattle.wire.specs.Limits.{most_gates, most_size, most_work}
use Rattle.refusal.specs.Answers.{Answer, result, refused, check, check_each, and_then, map_answer}
use Rattle.wire.specs.Lists.{tabulate}
use Rattle.refusal.specs.declared.causes.Refusal.TheVariants as cause
use Rattle.circuit.specs.declared.reader.CircuitHead.{CircuitHead}
use Rattle.circuit.specs.Circuits.{Circuit, head_of}
use Rattle.circuit.specs.Format.{circuit_file}
use Rattle.wire.specs.Areas.{area_after}
use Rattle.node.specs.Exprs.{Expr, size}
use Rattle.program.specs.Programs.{Program, output_tree}
use Rattle.program.specs.Reading.{read_program}
use Rattle.construction.specs.Construction.{circuit_gates, lines_needed}
use Rattle.construction.specs.Counting.{gates_shown}
use Rattle.sizing.specs.Sizing.{node_sizes}

-- the trees of a program's outputs, in their order
unfoldable pub output_trees : Program → List Expr
output_trees p = tabulate (output_tree p) (length p.outputs)

-- the circuit of a program: w is the most work lines that any output takes
unfoldable pub program_circuit : Program → Circuit
program_circuit p =
    record {
      inputs = p.inputs;
      outputs = length p.outputs;
      work = lines_needed p.inputs (output_trees p);
      gates = circuit_gates p.inputs (output_trees p);
    }

-- compiling a program with a grant (01), the number of work lines allowed, into an area of so many bytes
unfoldable pub compile_program : Program → ℕ → ℕ → Answer Circuit
compile_program p grant room =
    check_each (λ k. leb (size (output_tree p k)) most_size) (length p.outputs) cause.Size  -- 8
    (check (leb grant most_work) cause.Grant  -- 9
    (check (leb (program_circuit p).work grant) (cause.WorkLines (program_circuit p).work)  -- 10
    (check (leb (length (program_circuit p).gates) most_gates && leb (length (circuit_file (program_circuit p))) room) (cause.Room (gates_shown (length (program_circuit p).gates)))  -- 11
    (result (program_circuit p)))))

-- reading a program file that comes with a size list of so many entries
unfoldable pub read_with_sizes : List ℕ → ℕ → Answer Program
read_with_sizes file entries =
    and_then (read_program file) (λ p.
    check (leb (length p.nodes) entries) cause.ListLength  -- 7
    (result p))

-- compiling a program file; the program is accepted (01) where this is a result
unfoldable pub compile_file : List ℕ → ℕ → ℕ → ℕ → Answer Circuit
compile_file file grant entries room = and_then (read_with_sizes file entries) (λ p. compile_program p grant room)

-- the size list at exit: once cause 7 has passed the nodes' sizes, later entries as they were; before that as it was
abbrev pub sizes_after : Answer Program → List ℕ → List ℕ
sizes_after (result p) list = node_sizes p.nodes ++ drop (length p.nodes) list
sizes_after (refused n q) list = list

-- what the service answers, and what it leaves in the lent size list and in the lent area
pub record Compiling : Type 0 where
  pub answer : Answer CircuitHead
  pub sizes : List ℕ
  pub area : List ℕ

-- the service compile: its answer and both lent areas at exit, whatever they held
unfoldable pub compile_of : List ℕ → ℕ → List ℕ → List ℕ → Compiling
compile_of file grant sizes area =
    record {
      answer = map_answer head_of (compile_file file grant (length sizes) (length area));
      sizes = sizes_after (read_with_sizes file (length sizes)) sizes;
      area = area_after (map_answer circuit_file (compile_file file grant (length sizes) (length area))) area;
    }
