-- Laws of compiling a file and running it: the answer, the lines at exit, and the end of the run. Assumes nothing.
use Prim.Native.Nat.{ℕ, ◌≤◌}
use native.Mathlib.Omega.{arith}
use mathlib.Core.Path.{◌≡◌, refl, sym, ap, ◌∙◌, subst}
use mathlib.Core.List.{List}
use lib.ListN.{length, take}
use Rattle.wire.specs.Limits.{most_gates}
use Rattle.refusal.specs.Answers.{Answer, result, refused}
use Rattle.refusal.proofs.AnswerLaws.{same_result}
use Rattle.circuit.specs.declared.reader.CircuitHead.{CircuitHead}
use Rattle.circuit.specs.Circuits.{Circuit, head_of, head_lines}
use Rattle.circuit.specs.Format.{file_length}
use Rattle.run.specs.RunCircuit.{run_forwards, lines_after, done}
use Rattle.program.specs.Programs.{Program, output_value}
use Rattle.construction.specs.Theorems.{Start, After}
use Rattle.compilation.specs.Compiling.{program_circuit, compile_of}
use Rattle.compilation.specs.Demand.{file_written, Demand3}
use Rattle.end_to_end.specs.EndToEnd.{compile_and_run, Ended, Ends}
use Rattle.compilation.proofs.AcceptedLaws.{accepted}

module _ (file : List ℕ) (grant : ℕ) (sizes area lines : List ℕ) where
  -- the answer a and the lines at exit are those of the definition, and the run ends as demand 3 says
  pub record Outcome (a : Answer ℕ) (after : List ℕ) : Type 0 where
    pub answer : a ≡ done (compile_and_run file grant sizes area lines)
    pub lines_are : after ≡ lines_after (compile_and_run file grant sizes area lines) lines
    pub ends : Ends file grant sizes area lines a after

  -- the compiler's refusal is passed on
  pub compile_refused : (n p : ℕ) → (compile_of file grant sizes area).answer ≡ refused n p → Outcome (refused n p) lines
  unfolding compile_and_run
  compile_refused n p e =
      record {
        answer = rw e refl;
        lines_are = rw e refl;
        ends = λ h q s. let z : ◌≡◌ {A = ℕ} 0 1 = cc in absurd (omega arith);
      }

  module _ (h : CircuitHead) (e : (compile_of file grant sizes area).answer ≡ result h) where
    pub gates_few : h.gates ≤ most_gates
    gates_few =
        let a = accepted file grant sizes area h e in
        omega (arith, a.passes.gates_most, ap (λ (t : CircuitHead). t.gates) a.head)

    pub file_inside : file_length h.gates ≤ length area
    file_inside =
        let a = accepted file grant sizes area h e in
        omega (arith, a.passes.file_fits, ap (λ (t : CircuitHead). t.gates) a.head)

    abbrev written : List ℕ
    written = file_written h (compile_of file grant sizes area).area

    led_to : compile_and_run file grant sizes area lines ≡ run_forwards written lines
    unfolding compile_and_run
    led_to = rw e refl

    -- a start's run is done and ends as demand 3 says
    run_ends : Demand3 file (compile_of file grant sizes area).answer (compile_of file grant sizes area).area → Start (head_lines h) lines → Ended file h lines (done (run_forwards written lines)) (lines_after (run_forwards written lines) lines)
    run_ends d s =
        let k = d.kept h e in
        let p : Program = k.program in
        let c : Circuit = program_circuit p in
        let start : Start (head_lines (head_of c)) lines = subst (λ (t : CircuitHead). Start (head_lines t) lines) k.numbers s in
        let r = k.every c k.back lines start in
        let after : After c.inputs c.outputs c.work (output_value p (take c.inputs lines)) c.outputs lines r.lines =
        subst (λ (l : List ℕ). After c.inputs c.outputs c.work (output_value p (take c.inputs lines)) c.outputs lines l) r.ends (r.holds c.outputs (omega arith)) in
        record {
          done = rw r.runs refl;
          program = p;
          read = k.read;
          after =
              rw r.runs
              (subst (λ (t : CircuitHead). After t.inputs t.outputs t.work (output_value p (take t.inputs lines)) t.outputs lines r.lines) (sym k.numbers) after);
        }

    -- the run of the file written
    pub compiled_run : Demand3 file (compile_of file grant sizes area).answer (compile_of file grant sizes area).area → {a : Answer ℕ} {after : List ℕ} → a ≡ done (run_forwards written lines) → after ≡ lines_after (run_forwards written lines) lines → Outcome a after
    compiled_run d {a} {after} answer exit =
        record {
          answer = answer ∙ ap done (sym led_to);
          lines_are = exit ∙ ap (λ (x : Answer (List ℕ)). lines_after x lines) (sym led_to);
          ends = λ g q s.
              let same : h ≡ g = same_result h g (sym e ∙ q) in
              subst (λ (t : CircuitHead). Ended file t lines a after) same
              (rw (answer, exit) (run_ends d (subst (λ (t : CircuitHead). Start (head_lines t) lines) (sym same) s)));
        }
