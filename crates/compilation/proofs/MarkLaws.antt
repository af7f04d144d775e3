-- Laws of marks: in every file that compiles, marked ANDs restore the lines that they free. Assumes nothing.
use Prim.Native.Nat.{ℕ, ◌+◌, ◌<◌}
use native.Mathlib.Omega.{arith}
use mathlib.Core.Path.{◌≡◌, sym, ◌∙◌, subst}
use mathlib.Core.Bool.{true}
use mathlib.Core.List.{List}
use Rattle.refusal.specs.Answers.{Answer}
use Rattle.refusal.proofs.AnswerLaws.{same_result}
use Rattle.wire.specs.Bits.{bits_fit}
use Rattle.circuit.specs.declared.reader.CircuitHead.{CircuitHead}
use Rattle.circuit.specs.Circuits.{Circuit, line_count, head_of, head_lines}
use Rattle.program.specs.Programs.{Program, output_tree}
use Rattle.program.specs.Reading.{program_of}
use Rattle.program.proofs.AcceptedLaws as program
use Rattle.construction.specs.Theorems.{Start, first_built}
use Rattle.construction.proofs.AfterLaws.{every_start}
use Rattle.marks.specs.Freeing.{CleansUp, EachMarked, LeavesAllBut}
use Rattle.marks.proofs.EachMarkedLaws.{each_marked}
use Rattle.marks.proofs.FreeingLaws.{marked_clean_up, cleans_up_says}
use Rattle.compilation.specs.Compiling.{output_trees, program_circuit, compile_of}
use Rattle.compilation.specs.Demand.{file_written, first_outputs}
use Rattle.compilation.specs.Marks.{CleansWritten, MarksClean, MarksCleanHolds, AtMarks, MarksCleanSays}
use Rattle.compilation.proofs.OutputLaws.{trees_length, tree_is, trees_inputs}
use Rattle.compilation.proofs.AcceptedLaws.{accepted, read_back}

-- every marked AND of output j of a program's circuit cleans up
abbrev OutputCleans : Program → ℕ → Circuit → Type 0
OutputCleans p j c = EachMarked (CleansUp c.gates (line_count c)) (first_outputs p j) (output_tree p j) (c.inputs + j) (first_built c.inputs (output_trees p) j).pool

-- that is so of an accepted program
each_cleans : (f : List ℕ) → program.Accepted f → (j : ℕ) → j < (program_circuit (program_of f)).outputs → OutputCleans (program_of f) j (program_circuit (program_of f))
unfolding program_circuit
each_cleans f a j h =
    let p : Program = program_of f in
    rw (← tree_is p j h)
    (rw (trees_length p) at (marked_clean_up p.inputs (output_trees p) (trees_inputs f a) j (omega (arith, trees_length p))))

pub marks_clean : MarksCleanHolds
marks_clean file grant sizes area = record {
  cleans = λ h e.
      let a = accepted file grant sizes area h e in
      let p : Program = program_of file in
      let back = read_back file grant sizes area h a in
      record {
        program = p;
        read = a.reads.is;
        numbers = a.head;
        back = back;
        every = λ c r j few.
            subst (λ (d : Circuit). j < d.outputs → OutputCleans p j d) (same_result (program_circuit p) c (sym back ∙ r)) (each_cleans file a.reads j) (omega (arith, few));
      };
}

-- and of an answer and an area that are what compiling gives and leaves
pub marks_met : (file : List ℕ) (grant : ℕ) (sizes area : List ℕ) {answer : Answer CircuitHead} {after : List ℕ}
    → answer ≡ (compile_of file grant sizes area).answer → after ≡ (compile_of file grant sizes area).area → MarksClean file answer after
marks_met file grant sizes area e q = rw (e, q) (marks_clean file grant sizes area)

-- from one start, where the numbers answered are those of the circuit
at_marks : (file written : List ℕ) (h : CircuitHead) (k : CleansWritten file h written) (start : List ℕ) → bits_fit (head_lines (head_of (program_circuit k.program))) start ≡ true
    → AtMarks file (head_of (program_circuit k.program)) written start
at_marks file written h k start fits =
    let p : Program = k.program in
    let c : Circuit = program_circuit p in
    let s : Start (line_count c) start = every_start (line_count c) start fits in
    record {
      program = p;
      read = k.read;
      circuit = c;
      back = k.back;
      each = λ j few.
          each_marked (CleansUp c.gates (line_count c)) (LeavesAllBut c.gates start) (cleans_up_says c.gates (line_count c) start s)
          (first_outputs p j) (output_tree p j) (c.inputs + j) (first_built c.inputs (output_trees p) j).pool (k.every c k.back j (omega (arith, few)));
    }

pub marks_say : MarksCleanSays
marks_say file answer area d h e start fits =
    let k = d.cleans h e in
    let same : h ≡ head_of (program_circuit k.program) = k.numbers in
    subst (λ (t : CircuitHead). AtMarks file t (file_written h area) start) (sym same)
    (at_marks file (file_written h area) h k start (subst (λ (t : CircuitHead). bits_fit (head_lines t) start ≡ true) same fits))
