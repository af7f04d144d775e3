-- Laws of running a gate body and of running files. Assumes nothing.
use Prim.Native.Nat.{ℕ, ◌-◌, ◌/◌, ◌<◌, ◌≤◌}
use mathlib.Core.Path.{◌≡◌, refl, sym, ap, ◌∙◌}
use mathlib.Core.List.{List, [], ◌∷◌, reverse, reverse-append}
use lib.ListN.{length, take}
use Rattle.std.specs.Prelude.{Result, Ok, Err}
use Rattle.refusal.specs.declared.causes.Refusal.{Refusal}
use Rattle.refusal.specs.Answers.{Answer, result, refused, refuse, map_answer, answer_of, number_of, place_of}
use Rattle.wire.specs.Bits.{Bits}
use Rattle.contents.specs.Contents.{body_of}
use Rattle.refusal.proofs.AnswerLaws.{Came, came, came_refused}
use Rattle.wire.proofs.BitLaws.{bits_pass}
use Rattle.gate.specs.declared.gates.Gate.{Gate}
use Rattle.gate.specs.Gates.{WellFormed, Fits}
use Rattle.gate_bytes.specs.GateBytes.{gate_at}
use Rattle.gate.specs.Running.{step, run, run_back}
use Rattle.gate.proofs.AllLaws.{all_reverse}
use Rattle.gate.proofs.StepLaws.{length_step, step_bits, length_run, run_bits, backwards_undoes, forwards_undoes}
use Rattle.gate.proofs.WellFormedLaws.{target_below}
use Rattle.contents.specs.Steps.{Laid}
use Rattle.circuit.specs.declared.reader.CircuitHead.{CircuitHead}
use Rattle.circuit.specs.Circuits.{Circuit, head_of, line_count, gates_in}
use Rattle.circuit.specs.Reading.{read_with_lines}
use Rattle.circuit.proofs.AcceptedLaws.{accepted, formed, WithLines, with_lines, has_lines, lines_formed, lines_laid, lines_gates}
use Rattle.circuit.proofs.GateBodyLaws.{gate_formed, gates_last}
use Rattle.run.specs.RunCircuit.{run_forwards, run_backwards, lines_after, done}
use Rattle.run.specs.Theorems.{BackwardsUndoesFile, ForwardsUndoesFile}

module _ (body : List ℕ) where
  -- a loop whose lines still have to go through the gates `left` to be as they are after the gates `all`
  pub record Moved (all left : List Gate) (lines₀ lines : List ℕ) : Type 0 where
    pub same : length lines ≡ length lines₀
    pub bits : Bits lines
    pub rest : run left lines ≡ run all lines₀

  module _ {lines₀ : List ℕ} (r : Fits (gates_in body) lines₀ × Bits lines₀) where
    pub moved_start : (all left : List Gate) → left ≡ all → Moved all left lines₀ lines₀
    moved_start all left e = record { same = refl; bits = r.1; rest = ap (λ (gs : List Gate). run gs lines₀) e }

    module _ {all left : List Gate} {lines : List ℕ} (p : Moved all left lines₀ lines) where
      -- a gate may be applied
      pub moved_formed : (i : ℕ) → i < length body / 8 → WellFormed (length lines) (gate_at body i)
      moved_formed i h = rw p.same (gate_formed body (length lines₀) r.0 i h)

      -- and then fewer are left
      pub moved_next : (i : ℕ) (left' : List Gate) {lines' : List ℕ} → i < length body / 8 → left ≡ gate_at body i ∷ left'
          → lines' ≡ step (gate_at body i) lines → Moved all left' lines₀ lines'
      unfolding run
      moved_next i left' {lines'} h e s =
          let g : Gate = gate_at body i in
          rw s (record {
            same = length_step g lines ∙ p.same;
            bits = step_bits g lines (target_below (length lines) g (moved_formed i h)) p.bits;
            rest = sym (ap (λ (gs : List Gate). run gs lines) e) ∙ p.rest;
          })

      -- until none is
      pub moved_all : left ≡ [] → lines ≡ run all lines₀
      unfolding run
      moved_all e = sym (ap (λ (gs : List Gate). run gs lines) e) ∙ p.rest

  -- the gates left of a backward run
  pub back_next : (i : ℕ) → 0 < i → i ≤ length body / 8 → reverse (take i (gates_in body)) ≡ gate_at body (i - 1) ∷ reverse (take (i - 1) (gates_in body))
  back_next i h l = ap reverse (gates_last body i h l) ∙ reverse-append (take (i - 1) (gates_in body)) (gate_at body (i - 1) ∷ [])

-- running the circuit that a reader gave, whatever the reader and the order in which `order` runs the gates
module _ (x : Answer Circuit) (lines : List ℕ) (order : List Gate → List ℕ → List ℕ) where
  abbrev outcome : Answer (List ℕ)
  outcome = map_answer (λ (c : Circuit). order c.gates lines) x

  -- the answer a and the lines at exit are those of the service's definition
  pub record RunOutcome (a : Answer ℕ) (after : List ℕ) : Type 0 where
    pub answer : a ≡ done outcome
    pub lines_are : after ≡ lines_after outcome lines

  -- a refusal leaves the lines as they were
  pub run_refused : (n p : ℕ) → x ≡ refused n p → RunOutcome (refused n p) lines
  run_refused n p e = record { answer = rw e refl; lines_are = rw e refl }

  -- a result is the run
  pub run_done : (c : Circuit) (gs : List Gate) → x ≡ result c → c.gates ≡ gs → RunOutcome (result 0) (order gs lines)
  run_done c gs e same = record { answer = rw e refl; lines_are = rw e (ap (λ (hs : List Gate). order hs lines) (sym same)) }

-- what a service does with the answer r of the reader of a file that comes with lines
module _ (f lines : List ℕ) {r : Result CircuitHead Refusal} (e : answer_of r ≡ map_answer head_of (read_with_lines f lines)) where
  -- a refusal is passed on
  pub passed_on : (order : List Gate → List ℕ → List ℕ) {why : Refusal} → r ≡ Err why → RunOutcome (read_with_lines f lines) lines order (refuse why) lines
  passed_on order {why} g =
      run_refused (read_with_lines f lines) lines order (number_of why) (place_of why)
      (came_refused head_of (read_with_lines f lines) (number_of why) (place_of why) (sym (ap answer_of g) ∙ e))

  module _ {h : CircuitHead} (g : r ≡ Ok h) where
    was_read : Came head_of (read_with_lines f lines) h
    was_read = came head_of (read_with_lines f lines) h (sym (ap answer_of g) ∙ e)

    -- the gates of a file that was read can be run on its lines
    pub laid : Laid 2 f
    laid = lines_laid f lines was_read.from was_read.was

    pub runnable : Fits (gates_in (body_of f 1)) lines × Bits lines
    runnable = (lines_formed f lines was_read.from was_read.was, (with_lines f lines was_read.from was_read.was).bits)

    -- and the result is the run
    pub run_whole : (order : List Gate → List ℕ → List ℕ) → RunOutcome (read_with_lines f lines) lines order (result 0) (order (gates_in (body_of f 1)) lines)
    run_whole order = run_done (read_with_lines f lines) lines order was_read.from (gates_in (body_of f 1)) was_read.was (lines_gates f lines was_read.from was_read.was)

-- a file that was run on lines can be run on what it left of them
module _ (f lines : List ℕ) (c : Circuit) (e : read_with_lines f lines ≡ result c) where
  abbrev was : WithLines f lines c
  was = with_lines f lines c e

  fits : Fits c.gates lines
  fits = rw was.count (formed f c (accepted f c was.reads))

  again : (gs : List Gate) → Fits gs lines → read_with_lines f (run gs lines) ≡ result c
  again gs w =
      has_lines f (run gs lines) c was.reads
      (bits_pass (line_count c) (run gs lines) (length_run gs lines ∙ was.count) (run_bits gs lines w was.bits))

-- running backwards undoes running forwards
pub backwards_undoes_file : BackwardsUndoesFile
unfolding run_forwards run_backwards
backwards_undoes_file f s after e =
    let k = came (λ (c : Circuit). run c.gates s) (read_with_lines f s) after (sym e) in
    let gs : List Gate = k.from.gates in
    let w : Fits gs s = fits f s k.from k.was in
    ap (λ (l : List ℕ). map_answer (λ (c : Circuit). run_back c.gates l) (read_with_lines f l)) k.reads
    ∙ ap (map_answer (λ (c : Circuit). run_back c.gates (run gs s))) (again f s k.from k.was gs w)
    ∙ ap result (backwards_undoes gs s w (with_lines f s k.from k.was).bits)

-- and running forwards undoes running backwards
pub forwards_undoes_file : ForwardsUndoesFile
unfolding run_forwards run_backwards
forwards_undoes_file f s after e =
    let k = came (λ (c : Circuit). run_back c.gates s) (read_with_lines f s) after (sym e) in
    let gs : List Gate = k.from.gates in
    let w : Fits gs s = fits f s k.from k.was in
    ap (λ (l : List ℕ). map_answer (λ (c : Circuit). run c.gates l) (read_with_lines f l)) k.reads
    ∙ ap (map_answer (λ (c : Circuit). run c.gates (run_back gs s))) (again f s k.from k.was (reverse gs) (all_reverse (WellFormed (length s)) gs w))
    ∙ ap result (forwards_undoes gs s w (with_lines f s k.from k.was).bits)
