-- Evaluating an output on 64 questions, check by check in the order of 01's table.
use Rattle.std.specs.Prelude.{ℕ, List, ◌++◌, length, drop, eqb, leb, ltb}
use Rattle.refusal.specs.Answers.{Answer, result, refused, check, and_then, map_answer}
use Rattle.refusal.specs.declared.causes.Refusal.TheVariants as cause
use Rattle.word_values.specs.WordBits.{question_count, word_of}
use Rattle.word_values.specs.WordValues.{question, node_words}
use Rattle.program.specs.Programs.{Program, output_value}
use Rattle.program.specs.Reading.{read_program}
use Rattle.evaluate.specs.Evaluating.{Evaluating}

-- the word of an output: its bit k is the output's value on question k
unfoldable pub output_word : Program → List ℕ → ℕ → ℕ
output_word p inputs output = word_of (λ k. output_value p (question inputs k) output) question_count

-- the program of a file whose output can be evaluated on so many input words, whatever they are, with a value list of so many entries
unfoldable pub words_file : List ℕ → ℕ → ℕ → ℕ → Answer Program
words_file file entries words output =
    and_then (read_program file) (λ p.
    check (leb (length p.nodes) entries) cause.ListLength  -- 7
    (check (eqb words p.inputs) cause.InputBytes  -- 14
    (check (ltb output (length p.outputs)) cause.OutputNumber  -- 15
    (result p))))

-- the value list at exit: on a result the nodes' words, later entries as they were; on a refusal as it was
abbrev pub words_after : Answer Program → List ℕ → List ℕ → List ℕ
words_after (result p) inputs list = node_words p.nodes inputs ++ drop (length p.nodes) list
words_after (refused n q) inputs list = list

-- the service evaluate_words: its answer and the lent value list at exit, whatever the list held
unfoldable pub evaluate_words_of : List ℕ → List ℕ → List ℕ → ℕ → Evaluating
evaluate_words_of file list inputs output =
    record {
      answer = map_answer (λ p. output_word p inputs output) (words_file file (length list) (length inputs) output);
      values = words_after (words_file file (length list) (length inputs) output) inputs list;
    }
