-- What is proved of evaluating by words; the proofs are in proofs/.
use Rattle.std.specs.Prelude.{ℕ, ◌<◌, ◌≤◌, ◌^◌, ◌≡◌, true, List, length, get_or, take}
use Rattle.refusal.specs.Answers.{result}
use Rattle.wire.specs.Bits.{bit, bits_fit}
use Rattle.wire.specs.Lists.{tabulate}
use Rattle.word_values.specs.WordBits.{question_count, word_bit, bits_at, word_of}
use Rattle.word_values.specs.WordValues.{question}
use Rattle.program.specs.Programs.{Program}
use Rattle.program.specs.Reading.{read_program}
use Rattle.evaluate.specs.Evaluating.{evaluate_of}
use Rattle.words.specs.EvaluatingWords.{output_word, evaluate_words_of}

-- every call is answered in which the file is a program's, the list has an entry for each node, there is a word for each input, whatever it is, and the output's number is below that of the outputs
abbrev pub EveryCall : Type 0
EveryCall =
    (file list inputs : List ℕ) (output : ℕ) (p : Program)
    → read_program file ≡ result p → length p.nodes ≤ length list → length inputs ≡ p.inputs → output < length p.outputs
    → (evaluate_words_of file list inputs output).answer ≡ result (output_word p inputs output)

-- question k as the service evaluate has it, with this value list: its answer is bit k of the word, and the values that it leaves are bits k of the words left for the nodes
pub record QuestionAnswered (file list inputs : List ℕ) (output word nodes k : ℕ) (values : List ℕ) : Type 0 where
  pub answer : (evaluate_of file values (question inputs k) output).answer ≡ result (word_bit word k)
  pub lists : take nodes (evaluate_of file values (question inputs k) output).values ≡ bits_at k (take nodes (evaluate_words_of file list inputs output).values)

-- a call that answers a word: it and those left for the nodes are words, and each of their questions is answered so, with any value list that has an entry for each node
pub record Answered (file list inputs : List ℕ) (output word : ℕ) : Type 0 where
  pub program : Program
  pub read : read_program file ≡ result program
  pub word_below : word < 2 ^ question_count
  pub nodes_below : (i : ℕ) → i < length program.nodes → get_or (evaluate_words_of file list inputs output).values i 0 < 2 ^ question_count
  pub each : (k : ℕ) → k < question_count → (values : List ℕ) → length program.nodes ≤ length values → QuestionAnswered file list inputs output word (length program.nodes) k values

-- each question of an accepted call is answered as evaluate answers it
abbrev pub EachQuestion : Type 0
EachQuestion =
    (file list inputs : List ℕ) (output word : ℕ)
    → (evaluate_words_of file list inputs output).answer ≡ result word
    → Answered file list inputs output word

-- the word that a call answers is made of evaluate's answers to its questions, and each node's word of the values that evaluate leaves for the node
pub record WordsMade (file list inputs : List ℕ) (output word nodes : ℕ) (values : List ℕ) (answers : ℕ → ℕ) : Type 0 where
  pub answer : word ≡ word_of answers question_count
  pub each : (i : ℕ) → i < nodes → get_or (evaluate_words_of file list inputs output).values i 0 ≡ word_of (λ k. bit (evaluate_of file values (question inputs k) output).values i) question_count

-- what is said of the questions leaves no bit of these words open
abbrev pub WholeWords : Type 0
WholeWords =
    (file list inputs : List ℕ) (output word : ℕ) (answered : Answered file list inputs output word)
    → (values : List ℕ) → length answered.program.nodes ≤ length values
    → (answers : ℕ → ℕ) → ((k : ℕ) → k < question_count → (evaluate_of file values (question inputs k) output).answer ≡ result (answers k))
    → WordsMade file list inputs output word (length answered.program.nodes) values answers

-- the word of input j that asks these questions: its bit k is the bit of input j in question k
abbrev pub input_word : (ℕ → List ℕ) → ℕ → ℕ
input_word questions j = word_of (λ k. bit (questions k) j) question_count

-- the words of n inputs that ask them
abbrev pub input_words : ℕ → (ℕ → List ℕ) → List ℕ
input_words n questions = tabulate (input_word questions) n

-- they are n words, and ask them
pub record Asks (n : ℕ) (questions : ℕ → List ℕ) (inputs : List ℕ) : Type 0 where
  pub count : length inputs ≡ n
  pub below : (j : ℕ) → j < n → get_or inputs j 0 < 2 ^ question_count
  pub each : (k : ℕ) → k < question_count → question inputs k ≡ questions k

-- any 64 questions can be asked in one call, each a list of input bytes that passes cause 14
abbrev pub AnyQuestions : Type 0
AnyQuestions =
    (n : ℕ) (questions : ℕ → List ℕ)
    → ((k : ℕ) → k < question_count → bits_fit n (questions k) ≡ true)
    → Asks n questions (input_words n questions)
