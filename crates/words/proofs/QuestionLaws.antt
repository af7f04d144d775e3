-- Each question of a call is answered as the service evaluate answers it, these answers make the whole words, and any 64 questions can be asked. Assumes nothing.
use Prim.Native.Nat.{ℕ, ◌<◌, ◌≤◌, ◌^◌}
use native.Mathlib.Omega.{arith}
use mathlib.Core.Path.{◌≡◌, sym, ap, ◌∙◌}
use mathlib.Core.List.{List}
use lib.ListN.{length, get_or, take, drop}
use lib.Seq.{ext_get_or, take_at, get_or-take}
use borrow.Author.Tests.{eq-eqb, eqb-true}
use Rattle.refusal.specs.Answers.{result}
use Rattle.refusal.proofs.AnswerLaws.{same_result}
use Rattle.wire.specs.Bits.{bit}
use Rattle.wire.proofs.BitLaws.{bits_count, bits_are, bits_pass, bit_below}
use Rattle.wire.proofs.ListLaws.{tabulate_length, tabulate_at}
use Rattle.node.specs.declared.nodes.Node.{Node}
use Rattle.node.specs.Exprs.{ZERO}
use Rattle.node.specs.Trees.{node_values, trees}
use Rattle.node.proofs.FilledLaws.{entries_length, entry_at}
use Rattle.node.proofs.ValueLaws.{values_length, values_at}
use Rattle.word_values.specs.WordBits.{question_count, word_bit, bits_at}
use Rattle.word_values.specs.WordValues.{question, value_word, node_words}
use Rattle.word_values.proofs.WordBitLaws.{bits_at_length, bits_at_lem, word_is, word_below, bit_of_word}
use Rattle.word_values.proofs.WordValueLaws.{question_bits, value_word_below, value_word_bit}
use Rattle.program.specs.Programs.{Program, output_tree, output_value}
use Rattle.evaluate.specs.Evaluating.{evaluate_of}
use Rattle.evaluate.proofs.AskedLaws.{Evaluable, Outcome, outcome_is, answered}
use Rattle.evaluate.proofs.EvaluateLaws.{value_on, bytes_fit, evaluate_outcome}
use Rattle.words.specs.EvaluatingWords.{output_word, evaluate_words_of}
use Rattle.words.specs.Theorems.{EveryCall, QuestionAnswered, EachQuestion, WholeWords, input_word, input_words, AnyQuestions}
use Rattle.words.proofs.EvaluateWordsLaws.{word_on, count_fits, words_outcome}

pub every_call : EveryCall
unfolding output_word output_value value_word
every_call file list x output p read room count there =
    (outcome_is (word_on x) (count_fits x) file list output p (words_outcome file list x output)
    (record { read = read; room = room; tested = eq-eqb (length x) p.inputs count; output = there })
    ).0

-- a call that passed every check
module _ (file list x : List ℕ) (output : ℕ) (p : Program) (a : Evaluable (count_fits x) file (length list) output p) where
  abbrev nodes : List Node
  nodes = p.nodes

  abbrev words : List ℕ
  words = node_words nodes x

  words_count : length words ≡ length nodes
  unfolding node_words
  words_count = entries_length (word_on x) nodes

  word_at : (i : ℕ) → i < length nodes → get_or words i 0 ≡ value_word (get_or (trees nodes) i ZERO) x
  unfolding node_words
  word_at i h = entry_at (word_on x) nodes i h

  -- its list starts with the words of the nodes
  words_left : take (length nodes) (evaluate_words_of file list x output).values ≡ words
  unfolding node_words
  words_left =
      ap (take (length nodes)) (outcome_is (word_on x) (count_fits x) file list output p (words_outcome file list x output) a).1
      ∙ take_at words (drop (length nodes) list) (length nodes) words_count

  left_below : (i : ℕ) → i < length nodes → get_or (evaluate_words_of file list x output).values i 0 < 2 ^ question_count
  left_below i h =
      let here : get_or (evaluate_words_of file list x output).values i 0 ≡ value_word (get_or (trees nodes) i ZERO) x =
      sym (get_or-take (length nodes) (evaluate_words_of file list x output).values i 0 h) ∙ ap (λ (l : List ℕ). get_or l i 0) words_left ∙ word_at i h in
      rw here (value_word_below x (get_or (trees nodes) i ZERO))

  -- one question of it
  module _ (k : ℕ) (h : k < question_count) (values : List ℕ) (room : length nodes ≤ length values) where
    -- evaluate takes it
    question_evaluable : Evaluable (bytes_fit (question x k)) file (length values) output p
    question_evaluable =
        record {
          read = a.read;
          room = room;
          tested = bits_pass p.inputs (question x k) (bits_at_length k x ∙ eqb-true (length x) p.inputs a.tested) (question_bits x k);
          output = a.output;
        }

    -- the values of the nodes on it are the bits k of their words
    node_bits : node_values nodes (question x k) ≡ bits_at k words
    node_bits =
        let long : length (node_values nodes (question x k)) ≡ length (bits_at k words) = values_length nodes (question x k) ∙ sym (bits_at_length k words ∙ words_count) in
        ext_get_or 0 (node_values nodes (question x k)) (bits_at k words) long
        (λ i l.
        let inside : i < length nodes = omega (arith, values_length nodes (question x k)) in
        values_at nodes (question x k) i
        ∙ sym
        (bits_at_lem k words i
        ∙ ap (λ (w : ℕ). word_bit w k) (word_at i inside)
        ∙ value_word_bit x (get_or (trees nodes) i ZERO) k h))

    question_answered : (word : ℕ) → word ≡ value_word (output_tree p output) x → QuestionAnswered file list x output word (length nodes) k values
    unfolding node_values
    question_answered word is =
        let one = outcome_is (value_on (question x k)) (bytes_fit (question x k)) file values output p (evaluate_outcome file values (question x k) output) question_evaluable in
        record {
          answer = one.0 ∙ ap result (sym (ap (λ (w : ℕ). word_bit w k) is ∙ value_word_bit x (output_tree p output) k h));
          lists =
              ap (take (length nodes)) one.1
              ∙ take_at (node_values nodes (question x k)) (drop (length nodes) values) (length nodes) (values_length nodes (question x k))
              ∙ node_bits
              ∙ ap (bits_at k) (sym words_left);
        }

pub each_question : EachQuestion
each_question file list x output word e =
    let o : Outcome (word_on x) (count_fits x) file list output (result word) (evaluate_words_of file list x output).values = rw e at (words_outcome file list x output) in
    let c = answered (word_on x) (count_fits x) file list output o in
    record {
      program = c.program;
      read = c.evaluable.read;
      word_below = rw c.number_is (value_word_below x (output_tree c.program output));
      nodes_below = left_below file list x output c.program c.evaluable;
      each = λ k h values room. question_answered file list x output c.program c.evaluable k (omega arith) values room word c.number_is;
    }

pub whole_words : WholeWords
whole_words file list x output word a values room answers said =
    let left : List ℕ = (evaluate_words_of file list x output).values in
    let count : ℕ = length a.program.nodes in
    record {
      answer = word_is answers word question_count a.word_below (λ k h. same_result (word_bit word k) (answers k) (sym (a.each k (omega arith) values room).answer ∙ said k h));
      each = λ i l.
          word_is (λ k. bit (evaluate_of file values (question x k) output).values i) (get_or left i 0) question_count (a.nodes_below i l)
          (λ k h.
          let given : List ℕ = (evaluate_of file values (question x k) output).values in
          ap (λ (w : ℕ). word_bit w k) (sym (get_or-take count left i 0 l))
          ∙ sym (bits_at_lem k (take count left) i)
          ∙ ap (λ (l : List ℕ). bit l i) (sym (a.each k (omega arith) values room).lists)
          ∙ get_or-take count given i 0 l);
    }

pub any_questions : AnyQuestions
any_questions n questions fits =
    let x : List ℕ = input_words n questions in
    let count : length x ≡ n = tabulate_length (input_word questions) n in
    let word : (j : ℕ) → j < n → get_or x j 0 ≡ input_word questions j = λ j l. tabulate_at (input_word questions) n j 0 l in
    let small : (j k : ℕ) → k < question_count → bit (questions k) j < 2 = λ j k h. bit_below (questions k) (bits_are n (questions k) (fits k h)) j in
    record {
      count = count;
      below = λ j l. rw (word j l) (word_below (λ k. bit (questions k) j) question_count (small j));
      each = λ k h.
          ext_get_or 0 (question x k) (questions k) (bits_at_length k x ∙ count ∙ sym (bits_count n (questions k) (fits k h)))
          (λ j l.
          let inside : j < n = omega (arith, bits_at_length k x, count) in
          bits_at_lem k x j
          ∙ ap (λ (w : ℕ). word_bit w k) (word j inside)
          ∙ bit_of_word (λ k. bit (questions k) j) question_count (small j) k h);
    }
