-- Reading a program file, check by check in the order of 01's table.
use Rattle.std.specs.Prelude.{ℕ, ◌*◌, ◌/◌, ◌%◌, Bool, ◌&&◌, List, eqb, leb, ltb}
use Rattle.wire.specs.Limits.{most_nodes}
use Rattle.refusal.specs.Answers.{Answer, result, check, check_each}
use Rattle.wire.specs.Bytes.{at16}
use Rattle.contents.specs.Contents.{table_fits, entries_fit, entry_length, body_of}
use Rattle.contents.specs.Arity.{inputs_of, outputs_of, arity_fits}
use Rattle.wire.specs.Lists.{tabulate}
use Rattle.refusal.specs.declared.causes.Refusal.TheVariants as cause
use Rattle.node.specs.Nodes.{nodes_in, node_fits}
use Rattle.program.specs.Programs.{Program}
use Rattle.program.specs.Format.{tags}

-- how many nodes the second body has room for
abbrev pub nodes_of : List ℕ → ℕ
nodes_of f = entry_length f 1 / 6

-- the test of cause 3: four bytes; six a node, 1 to 4,096 nodes; two an output, m as read
unfoldable pub lengths_fit : List ℕ → Bool
lengths_fit f =
    eqb (entry_length f 0) 4
    && (eqb (entry_length f 1 % 6) 0 && (leb 1 (nodes_of f) && leb (nodes_of f) most_nodes))
    && eqb (entry_length f 2) (2 * outputs_of f)

-- the index of the node that output k names
abbrev pub output_at : List ℕ → ℕ → ℕ
output_at body k = at16 body (2 * k)

-- the test of cause 6 at output k: it names one of the nodes
unfoldable pub output_fits : ℕ → List ℕ → ℕ → Bool
output_fits nodes body k = ltb (output_at body k) nodes

-- the program that a file in order holds
unfoldable pub program_of : List ℕ → Program
program_of f =
    record {
      inputs = inputs_of f;
      nodes = nodes_in (body_of f 1);
      outputs = tabulate (output_at (body_of f 2)) (outputs_of f);
    }

-- what reading the nodes and the outputs gives, once the lengths and ranges are right
unfoldable pub read_bodies : List ℕ → Answer Program
read_bodies f =
    check_each (node_fits (inputs_of f) (body_of f 1)) (nodes_of f) cause.Node  -- 5
    (check_each (output_fits (nodes_of f) (body_of f 2)) (outputs_of f) cause.Output  -- 6
    (result (program_of f)))

-- what reading a program file gives
unfoldable pub read_program : List ℕ → Answer Program
read_program f =
    check (table_fits 3 f) cause.Table  -- 1
    (check (entries_fit tags f) cause.Contents  -- 2
    (check (lengths_fit f) cause.BodyLength  -- 3
    (check (arity_fits (body_of f 0)) cause.Range  -- 4
    (read_bodies f))))
