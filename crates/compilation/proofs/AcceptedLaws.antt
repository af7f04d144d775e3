-- What compiling a file accepts, and what it then writes. Assumes nothing.
use Prim.Native.Nat.{ℕ, ◌≤◌}
use native.Mathlib.Omega.{arith}
use mathlib.Core.Path.{◌≡◌, sym, ap, ◌∙◌}
use mathlib.Core.Bool.{Bool}
use mathlib.Core.List.{List}
use lib.ListN.{length, drop}
use lib.Dec.{leb}
use lib.Seq.{take_at}
use borrow.Author.Tests.{leb-true}
use Rattle.refusal.specs.Answers.{result, check, map_answer}
use Rattle.refusal.specs.declared.causes.Refusal.TheVariants as cause
use Rattle.refusal.proofs.AnswerLaws.{checked, checked_next, same_result, came, led}
use Rattle.circuit.specs.declared.reader.CircuitHead.{CircuitHead}
use Rattle.circuit.specs.Circuits.{Circuit, head_of, Legal}
use Rattle.circuit.specs.Format.{file_length, circuit_file}
use Rattle.wire.specs.Areas.{area_after}
use Rattle.circuit.specs.Reading.{read_circuit}
use Rattle.circuit.proofs.FileLaws.{reads_back}
use Rattle.circuit.proofs.FormatLaws.{file_length_lem}
use Rattle.program.specs.Programs.{Program}
use Rattle.program.specs.Reading.{program_of, read_program}
use Rattle.program.proofs.AcceptedLaws as program
use Rattle.construction.proofs.RestoreLaws.{circuit_formed}
use Rattle.compilation.specs.Compiling.{output_trees, program_circuit, compile_program, read_with_sizes, compile_file, compile_of}
use Rattle.compilation.specs.Demand.{file_written}
use Rattle.compilation.proofs.OutputLaws.{trees_length, trees_inputs}
use Rattle.compilation.proofs.ProgramLaws.{Passed, passed, compiles}

-- a program file that was read with a size list of so many entries
record Listed (f : List ℕ) (entries : ℕ) (p : Program) : Type 0 where
  pub reads : program.Accepted f
  pub is : p ≡ program_of f
  pub long : length p.nodes ≤ entries

listed : (f : List ℕ) (entries : ℕ) (p : Program) → read_with_sizes f entries ≡ result p → Listed f entries p
unfolding read_with_sizes
listed f entries p e =
    let l = led (read_program f) (λ (q : Program). check (leb (length q.nodes) entries) cause.ListLength (result q)) p e in
    let q : Program = l.from in
    let test : Bool = leb (length q.nodes) entries in
    let same : q ≡ p = same_result q p (checked_next p test cause.ListLength (result q) l.next) in
    let a = program.accepted f q l.was in
    record {
      reads = a;
      is = sym same ∙ same_result q (program_of f) (sym l.was ∙ a.is);
      long = rw (sym same) (leb-true (length q.nodes) entries (checked p test cause.ListLength (result q) l.next));
    }

-- an accepted file: it was read, every check of compiling has passed, and the numbers are those of the program's circuit
pub record Accepted (f : List ℕ) (grant : ℕ) (sizes area : List ℕ) (h : CircuitHead) : Type 0 where
  pub reads : program.Accepted f
  pub long : length (program_of f).nodes ≤ length sizes
  pub passes : Passed (program_of f) grant (length area)
  pub is : compile_file f grant (length sizes) (length area) ≡ result (program_circuit (program_of f))
  pub head : h ≡ head_of (program_circuit (program_of f))

module _ (f : List ℕ) (grant : ℕ) (sizes area : List ℕ) (h : CircuitHead) where
  -- a file that compiles is accepted
  pub accepted : (compile_of f grant sizes area).answer ≡ result h → Accepted f grant sizes area h
  unfolding compile_of compile_file
  accepted e =
      let k = came head_of (compile_file f grant (length sizes) (length area)) h (sym e) in
      let l = led (read_with_sizes f (length sizes)) (λ (p : Program). compile_program p grant (length area)) k.from k.was in
      let p : Program = l.from in
      let r = listed f (length sizes) p l.was in
      let q = passed p grant (length area) k.from l.next in
      let same : k.from ≡ program_circuit p = same_result k.from (program_circuit p) (sym l.next ∙ compiles p grant (length area) q) in
      let to : k.from ≡ program_circuit (program_of f) = same ∙ ap program_circuit r.is in
      record {
        reads = r.reads;
        long = rw (← r.is) r.long;
        passes = rw (← r.is) q;
        is = k.was ∙ ap result to;
        head = k.reads ∙ ap head_of to;
      }

  module _ (a : Accepted f grant sizes area h) where
    -- its circuit is one that a file can hold
    pub legal : Legal (program_circuit (program_of f))
    unfolding program_circuit
    legal =
        let p : Program = program_of f in
        record {
          numbers =
              record {
                inputs_most = omega (arith, program.inputs_is f a.reads, a.reads.inputs_most);
                outputs_some = omega (arith, program.outputs_length f a.reads, a.reads.outputs_some);
                outputs_most = omega (arith, program.outputs_length f a.reads, a.reads.outputs_most);
                work_most = omega (arith, a.passes.work_granted, a.passes.grant_most);
                gates_most = a.passes.gates_most;
              };
          formed = rw (trees_length p) at (circuit_formed p.inputs (output_trees p) (trees_inputs f a.reads));
        }

    -- the file written is its circuit's
    pub written : file_written h (compile_of f grant sizes area).area ≡ circuit_file (program_circuit (program_of f))
    unfolding compile_of
    written =
        let c : Circuit = program_circuit (program_of f) in
        let n : length (circuit_file c) ≡ file_length h.gates = file_length_lem c ∙ ap (λ (t : CircuitHead). file_length t.gates) (sym a.head) in
        ap (file_written h) (ap (λ x. area_after (map_answer circuit_file x) area) a.is)
        ∙ take_at (circuit_file c) (drop (length (circuit_file c)) area) (file_length h.gates) n

    -- and it reads back
    pub read_back : read_circuit (file_written h (compile_of f grant sizes area).area) ≡ result (program_circuit (program_of f))
    read_back = ap read_circuit written ∙ reads_back (program_circuit (program_of f)) legal
