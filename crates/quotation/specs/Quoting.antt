-- A quote (02, A1): the gates, the Toffolis and the work lines of each output's share; check by check in the order of 01's table.
use Rattle.std.specs.Prelude.{ℕ, ◌+◌, ◌*◌, ◌/◌, length, drop, replicate, leb}
use mathlib.Core.List.{List, [], ◌∷◌, ◌++◌, flat_map}
use Rattle.refusal.specs.Answers.{Answer, result, refused, check, and_then, map_answer}
use Rattle.refusal.specs.declared.causes.Refusal.TheVariants as cause
use Rattle.wire.specs.Limits.{most_quoted}
use Rattle.wire.specs.Lists.{tabulate}
use Rattle.wire.specs.Shown.{shown}
use Rattle.gate.specs.Gates.{toffoli_count}
use Rattle.program.specs.Programs.{Program, output_tree}
use Rattle.program.specs.Reading.{read_program}
use Rattle.construction.specs.Pools.{all_free}
use Rattle.construction.specs.Construction.{Built, share}

-- the share of output k: its target follows the inputs and the targets before it, and every work line, behind the targets, is free
unfoldable pub output_share : Program → ℕ → Built
output_share p k = share (output_tree p k) (p.inputs + k) (all_free (p.inputs + length p.outputs))

-- what a quote says of a share: its gates, its Toffolis, and the most work lines that were in use together; over 1,000,000 it says 1,000,001
unfoldable pub share_quote : Built → List ℕ
share_quote s =
    shown most_quoted (length s.gates) ∷ shown most_quoted (toffoli_count s.gates) ∷ shown most_quoted s.pool.most ∷ []

-- and of every output of a program, in their order
unfoldable pub quotes : Program → List ℕ
quotes p = flat_map share_quote (tabulate (output_share p) (length p.outputs))

-- the program of a file that can be quoted with lists of so many numbers: a count entry is eight of them, an answer three
unfoldable pub quote_file : List ℕ → ℕ → ℕ → Answer Program
quote_file file counts answers =
    and_then (read_program file) (λ p.
    check (leb (length p.nodes) (counts / 8)) cause.ListLength  -- 7
    (check (leb (length p.outputs) (answers / 3)) cause.ListLength  -- 7
    (result p)))

-- the count list at exit: on a result zero over the entries of the nodes, later numbers as they were; on a refusal as it was
abbrev pub counts_after : Answer Program → List ℕ → List ℕ
counts_after (result p) list = replicate (8 * length p.nodes) 0 ++ drop (8 * length p.nodes) list
counts_after (refused n q) list = list

-- the answer list at exit: on a result three numbers an output, later ones as they were; on a refusal as it was
abbrev pub answers_after : Answer Program → List ℕ → List ℕ
answers_after (result p) list = quotes p ++ drop (3 * length p.outputs) list
answers_after (refused n q) list = list

-- what the service answers, and what it leaves in both lent lists
pub record Quoting : Type 0 where
  pub answer : Answer ℕ
  pub counts : List ℕ
  pub answers : List ℕ

-- the service quote: its answer, the number of outputs, and both lent lists at exit, whatever they held
unfoldable pub quote_of : List ℕ → List ℕ → List ℕ → Quoting
quote_of file counts answers =
    record {
      answer = map_answer (λ p. length p.outputs) (quote_file file (length counts) (length answers));
      counts = counts_after (quote_file file (length counts) (length answers)) counts;
      answers = answers_after (quote_file file (length counts) (length answers)) answers;
    }
