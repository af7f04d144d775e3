-- What parsing writes is what was typed. Assumes nothing.
use Prim.Native.Nat.{ℕ, zero, suc, ◌+◌, ◌-◌, ◌≤◌, ◌<◌}
use native.Mathlib.Omega.{arith}
use native.Mathlib.Nat.{add-zero}
use native.Mathlib.Decide.{dec_lt}
use mathlib.Core.Path.{◌≡◌, refl, sym, ap, ◌∙◌, subst}
use mathlib.Core.Logic.{◌≢◌}
use mathlib.Core.Bool.{Bool, true, false}
use mathlib.Core.List.{List, ◌∷◌, ◌++◌}
use lib.ListN.{length, take, drop, replicate, length-append, length-replicate, get_or-append}
use lib.Seq.{take_at, ext_get_or, get_or-append-add}
use lib.Dec.{leb}
use borrow.Author.Tests.{le-leb, lt-leb, leb-true, leb-false}
use Rattle.refusal.specs.Answers.{Answer, result, refused, check, and_then}
use Rattle.refusal.specs.declared.causes.Refusal.TheVariants as cause
use Rattle.refusal.proofs.AnswerLaws.{same_result, checked_next, came, led}
use Rattle.wire.specs.Bits.{xor_bit, bit, Bits, bits_fit}
use Rattle.wire.proofs.BitLaws.{bits_take, bits_count, bits_are, bits_pass}
use Rattle.circuit.specs.declared.reader.CircuitHead.{CircuitHead}
use Rattle.circuit.specs.Circuits.{Circuit, head_of, head_lines}
use Rattle.node.proofs.ValueLaws.{value_bit}
use Rattle.program.specs.Programs.{Program, output_tree, output_value}
use Rattle.program.specs.Format.{program_file}
use Rattle.program.specs.Reading.{read_program}
use Rattle.program.proofs.FileLaws.{reads_back}
use Rattle.evaluate.specs.Evaluating.{evaluate_of}
use Rattle.evaluate.proofs.AskedLaws.{outcome_is}
use Rattle.evaluate.proofs.EvaluateLaws.{value_on, bytes_fit, evaluate_outcome}
use Rattle.construction.specs.Theorems.{Start, After}
use Rattle.construction.proofs.AfterLaws.{every_start}
use Rattle.compilation.specs.Compiling.{program_circuit, compile_of}
use Rattle.compilation.specs.Demand.{file_written, Kept}
use Rattle.compilation.proofs.DemandLaws.{demand_3}
use Rattle.grammar.specs.Grammar.{Sum, sum_value}
use Rattle.grammar.specs.FormulaNodes.{sum_count, formula_program}
use Rattle.grammar.specs.Language.{Reads}
use Rattle.grammar.proofs.CountLaws.{sum_nodes_lem}
use Rattle.grammar.proofs.OrderLaws.{program_legal}
use Rattle.grammar.proofs.ValueLaws.{program_value}
use Rattle.automaton.specs.Automaton.{read_text}
use Rattle.automaton.proofs.AnswerLaws.{one_answer, accepts, accepted}
use Rattle.parsing.specs.Parsing.{parse_text, parse_of}
use Rattle.parsing.specs.Theorems.{RightParse, its_program, no_room, not_read, OneParse, RestZero, Computed, Typed, ParsedComputes, TypedSays}

module _ (text : List ℕ) (n room : ℕ) where
  needed : Sum → ℕ
  needed s = length (program_file (formula_program n s))

  -- the answer given is right
  given_right : RightParse text n room (parse_text text n room)
  unfolding parse_text needed
  given_right = by (read_text n text) refl
    where
      fits : (s : Sum) → Reads n text s → (t : Bool) → leb (needed s) room ≡ t
          → RightParse text n room (check t (cause.Room (length (formula_program n s).nodes)) (result (formula_program n s)))
      fits s r true e = its_program r (leb-true (needed s) room e)
      fits s r false e =
          let short : room < length (program_file (formula_program n s)) = leb-false (needed s) room e in
          rw (sum_nodes_lem s 0) (no_room r (omega (arith, short)))

      by : (r : Answer Sum) → read_text n text ≡ r
          → RightParse text n room (and_then r (λ s. check (leb (needed s) room) (cause.Room (length (formula_program n s).nodes)) (result (formula_program n s))))
      by (result s) e = fits s (accepted n text s e) (leb (needed s) room) refl
      by (refused k p) e = not_read ((one_answer n text (refused k p)).0 e)

  -- and the right answer is given
  right_given : {a : Answer Program} → RightParse text n room a → parse_text text n room ≡ a
  unfolding parse_text
  right_given (its_program {s} r fits) = rw (accepts n text s r, le-leb (length (program_file (formula_program n s))) room fits) refl
  right_given (no_room {s} r short) = rw (accepts n text s r, lt-leb (length (program_file (formula_program n s))) room short, sum_nodes_lem s 0) refl
  right_given (not_read {k} {p} r) = rw ((one_answer n text (refused k p)).1 r) refl

pub one_parse : OneParse
one_parse text n room a = (λ e. rw e at (given_right text n room), right_given text n room)

-- a target at 0 takes on the value, which is a bit
xor_zero : (a v : ℕ) → a ≡ 0 → v < 2 → xor_bit a v ≡ v
unfolding xor_bit
xor_zero a v z h = omega arith

-- a file that compiles keeps demand 3, of the program that it reads back as
module _ (file : List ℕ) (grant : ℕ) (sizes area : List ℕ) (h : CircuitHead) (e : (compile_of file grant sizes area).answer ≡ result h) where
  abbrev kept_there : Kept file h (file_written h (compile_of file grant sizes area).area)
  kept_there = (demand_3 file grant sizes area).kept h e

  module _ (p : Program) (back : read_program file ≡ result p) where
    same_there : kept_there.program ≡ p
    same_there = same_result kept_there.program p (sym kept_there.read ∙ back)

    -- and the numbers answered are those of its circuit
    numbers_there : h ≡ head_of (program_circuit p)
    numbers_there = kept_there.numbers ∙ ap (λ (q : Program). head_of (program_circuit q)) same_there

module _ (n : ℕ) (text : List ℕ) (s : Sum) (r : Reads n text s) where
  abbrev p : Program
  p = formula_program n s

  abbrev file : List ℕ
  file = program_file p

  back : read_program file ≡ result p
  back = reads_back p (program_legal n text s r)

  -- its truth value is a bit
  value_small : (x : List ℕ) → Bits x → sum_value s x < 2
  unfolding output_value
  value_small x bits = omega (arith, program_value n s x, value_bit (output_tree p 0) x bits)

  evaluates : (values x : List ℕ) → sum_count s ≤ length values → bits_fit n x ≡ true → (evaluate_of file values x 0).answer ≡ result (sum_value s x)
  unfolding output_value
  evaluates values x long fits =
      (outcome_is (value_on x) (bytes_fit x) file values 0 p (evaluate_outcome file values x 0)
      (record { read = back; room = omega (arith, sum_nodes_lem s 0); tested = fits; output = omega arith })
      ).0
      ∙ ap result (program_value n s x)

  -- the run of a compiled file whose circuit has n inputs and one output
  module _ (grant : ℕ) (sizes area : List ℕ) (h : CircuitHead) (e : (compile_of file grant sizes area).answer ≡ result h) where
    abbrev kept : Kept file h (file_written h (compile_of file grant sizes area).area)
    kept = kept_there file grant sizes area h e

    same_program : kept.program ≡ p
    same_program = same_there file grant sizes area h e p back

    computes : (start : List ℕ) → bits_fit (head_lines h) start ≡ true → RestZero n start → Computed n s (file_written h (compile_of file grant sizes area).area) start
    unfolding program_circuit
    computes start fits none =
        let c : Circuit = program_circuit kept.program in
        let st : Start (head_lines (head_of c)) start = every_start (head_lines (head_of c)) start (subst (λ (t : CircuitHead). bits_fit (head_lines t) start ≡ true) kept.numbers fits) in
        let g = kept.every c kept.back start st in
        let after : After n 1 c.work (output_value p (take n start)) 1 start g.lines =
        subst (λ (q : Program). After q.inputs (length q.outputs) c.work (output_value q (take q.inputs start)) (length q.outputs) start g.lines) same_program
        (subst (λ (l : List ℕ). After c.inputs c.outputs c.work (output_value kept.program (take c.inputs start)) c.outputs start l) g.ends (g.holds c.outputs (omega arith))) in
        let bits : Bits (take n start) = bits_take n start st.bits in
        record {
          lines = g.lines;
          ran = g.runs;
          long = after.long;
          target = value_there g.lines start c.work after bits none;
          others = λ i d. other_line g.lines start c.work after i d;
        }
      where
        value_there : (lines start : List ℕ) (w : ℕ) → After n 1 w (output_value p (take n start)) 1 start lines → Bits (take n start) → RestZero n start → bit lines n ≡ sum_value s (take n start)
        value_there lines start w after bits none =
            let first : n + 0 ≡ n = add-zero n in
            let over : bit lines (n + 0) ≡ xor_bit (bit start (n + 0)) (output_value p (take n start) 0) = after.over (λ i l u. none i (omega arith)) 0 (omega arith) in
            let v : output_value p (take n start) 0 ≡ sum_value s (take n start) = program_value n s (take n start) in
            let small : sum_value s (take n start) < 2 = value_small (take n start) bits in
            ap (bit lines) (sym first) ∙ over ∙ ap (xor_bit (bit start (n + 0))) v ∙ xor_zero (bit start (n + 0)) (sum_value s (take n start)) (none (n + 0) (omega arith)) small

        other_line : (lines start : List ℕ) (w : ℕ) → After n 1 w (output_value p (take n start)) 1 start lines → (i : ℕ) → i ≢ n → bit lines i ≡ bit start i
        other_line lines start w after i d = by (dec_lt i n)
          where
            by : Dec (i < n) → bit lines i ≡ bit start i
            by (yes l) = after.inputs i l
            by (no l) = after.work i (omega arith)

  pub typed : Typed n text file
  typed = record { formula = s; reads = r; same = refl; back = back; evaluates = evaluates; computes = computes }

-- what was answered and left is a formula's file
pub parsed_computes : ParsedComputes
unfolding parse_text parse_of
parsed_computes text n area b e =
    let c = came (λ q. length (program_file q)) (parse_text text n (length area)) b (sym e) in
    let l = led (read_text n text) (λ s. check (leb (length (program_file (formula_program n s))) (length area)) (cause.Room (length (formula_program n s).nodes)) (result (formula_program n s))) c.from c.was in
    let s : Sum = l.from in
    let same : formula_program n s ≡ c.from = same_result (formula_program n s) c.from (checked_next c.from (leb (length (program_file (formula_program n s))) (length area)) (cause.Room (length (formula_program n s).nodes)) (result (formula_program n s)) l.next) in
    let written : List ℕ = program_file c.from in
    let whole : take b (written ++ drop (length written) area) ≡ program_file (formula_program n s) = take_at written (drop (length written) area) b (sym c.reads) ∙ ap program_file (sym same) in
    rw (c.was, whole) (typed n text s (accepted n text s l.was))

-- zeros, and nothing behind them, read as 0
zero_at : (k i : ℕ) → bit (replicate k 0) i ≡ 0
zero_at zero i = refl
zero_at (suc k) zero = refl
zero_at (suc k) (suc i) = zero_at k i

-- lines that start with the input bits x
module _ (n : ℕ) (x : List ℕ) (fits : bits_fit n x ≡ true) where
  x_long : length x ≡ n
  x_long = bits_count n x fits

  first_lines : (rest : List ℕ) → take n (x ++ rest) ≡ x
  first_lines rest = take_at x rest n x_long

  input_line : (rest : List ℕ) (i : ℕ) → i < n → bit (x ++ rest) i ≡ bit x i
  input_line rest i h = get_or-append x rest 0 i (omega (arith, x_long))

  later_line : (rest : List ℕ) (j : ℕ) → bit (x ++ rest) (n + j) ≡ bit rest j
  later_line rest j = ap (λ (k : ℕ). bit (x ++ rest) (k + j)) (sym x_long) ∙ get_or-append-add x rest j 0

  -- and go on with zeros
  module _ (w : ℕ) where
    abbrev zeros : List ℕ
    zeros = replicate (1 + w) 0

    start_long : length (x ++ zeros) ≡ n + (1 + w)
    start_long = omega (arith, length-append x zeros, length-replicate {A = ℕ} (1 + w) 0, x_long)

    rest_zero : RestZero n (x ++ zeros)
    rest_zero i h =
        let at : n + (i - n) ≡ i = omega arith in
        ap (bit (x ++ zeros)) (sym at) ∙ later_line zeros (i - n) ∙ zero_at (1 + w) (i - n)

    start_bits : Bits (x ++ zeros)
    start_bits i h = by (dec_lt i n)
      where
        by : Dec (i < n) → bit (x ++ zeros) i < 2
        by (yes l) = omega (arith, input_line zeros i l, bits_are n x fits i (omega (arith, x_long)))
        by (no l) = omega (arith, rest_zero i (omega arith))

    -- lines of which this is said one by one are these
    module _ (v : ℕ) (lines : List ℕ) (long : length lines ≡ length (x ++ zeros)) (target : bit lines n ≡ v) (others : (i : ℕ) → i ≢ n → bit lines i ≡ bit (x ++ zeros) i) where
      ended : lines ≡ x ++ (v ∷ replicate w 0)
      ended =
          ext_get_or 0 lines (x ++ (v ∷ replicate w 0)) (omega (arith, long, start_long, length-append x (v ∷ replicate w 0), length-replicate {A = ℕ} w 0, x_long))
          (λ i h. by i (dec_lt i n) (dec_lt n i))
        where
          by : (i : ℕ) → Dec (i < n) → Dec (n < i) → bit lines i ≡ bit (x ++ (v ∷ replicate w 0)) i
          by i (yes l) m = others i (λ e. omega arith) ∙ input_line zeros i l ∙ sym (input_line (v ∷ replicate w 0) i l)
          by i (no l) (yes m) =
              let at : n + suc (i - suc n) ≡ i = omega arith in
              others i (λ e. omega arith) ∙ rest_zero i (omega arith)
              ∙ sym (ap (bit (x ++ (v ∷ replicate w 0))) (sym at) ∙ later_line (v ∷ replicate w 0) (suc (i - suc n)) ∙ zero_at w (i - suc n))
          by i (no l) (no m) =
              let at : i ≡ n = omega arith in
              ap (bit lines) at ∙ target ∙ sym (ap (bit (x ++ (v ∷ replicate w 0))) (at ∙ sym (add-zero n)) ∙ later_line (v ∷ replicate w 0) 0)

pub typed_says : TypedSays
unfolding program_circuit
typed_says n text file t grant sizes area h e x fits =
    let numbers = numbers_there file grant sizes area h e (formula_program n t.formula) t.back in
    let n_inputs : h.inputs ≡ n = ap (λ (k : CircuitHead). k.inputs) numbers in
    let one_output : h.outputs ≡ 1 = ap (λ (k : CircuitHead). k.outputs) numbers in
    let start : List ℕ = x ++ replicate (1 + h.work) 0 in
    let passes : bits_fit (head_lines h) start ≡ true = bits_pass (head_lines h) start (omega (arith, start_long n x fits h.work, n_inputs, one_output)) (start_bits n x fits h.work) in
    let g = t.computes grant sizes area h e start passes (rest_zero n x fits h.work) in
    let value : sum_value t.formula (take n start) ≡ sum_value t.formula x = ap (sum_value t.formula) (first_lines n x fits (replicate (1 + h.work) 0)) in
    g.ran ∙ ap result (ended n x fits h.work (sum_value t.formula x) g.lines g.long (g.target ∙ value) g.others)
