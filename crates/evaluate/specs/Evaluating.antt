-- Evaluating an output, check by check in the order of 01's table.
use Rattle.std.specs.Prelude.{ℕ, List, ◌++◌, length, drop, leb, ltb}
use Rattle.refusal.specs.Answers.{Answer, result, refused, check, and_then, map_answer}
use Rattle.wire.specs.Bits.{bits_fit}
use Rattle.refusal.specs.declared.causes.Refusal.TheVariants as cause
use Rattle.program.specs.Programs.{Program, output_value}
use Rattle.node.specs.Trees.{node_values}
use Rattle.program.specs.Reading.{read_program}

-- the program of a file whose output can be evaluated on these input bytes, with a value list of so many entries
unfoldable pub evaluate_file : List ℕ → ℕ → List ℕ → ℕ → Answer Program
evaluate_file file entries inputs output =
    and_then (read_program file) (λ p.
    check (leb (length p.nodes) entries) cause.ListLength  -- 7
    (check (bits_fit p.inputs inputs) cause.InputBytes  -- 14
    (check (ltb output (length p.outputs)) cause.OutputNumber  -- 15
    (result p))))

-- the value list at exit: on a result the nodes' values, later entries as they were; on a refusal as it was
abbrev pub values_after : Answer Program → List ℕ → List ℕ → List ℕ
values_after (result p) inputs list = node_values p.nodes inputs ++ drop (length p.nodes) list
values_after (refused n q) inputs list = list

-- what the service answers, and what it leaves in the lent value list
pub record Evaluating : Type 0 where
  pub answer : Answer ℕ
  pub values : List ℕ

-- the service evaluate: its answer and the lent value list at exit, whatever the list held
unfoldable pub evaluate_of : List ℕ → List ℕ → List ℕ → ℕ → Evaluating
evaluate_of file list inputs output =
    record {
      answer = map_answer (λ p. output_value p inputs output) (evaluate_file file (length list) inputs output);
      values = values_after (evaluate_file file (length list) inputs output) inputs list;
    }
