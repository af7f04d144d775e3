-- Demand 3 leaves no start, no j, no gate and no line open. Assumes nothing.
use Prim.Native.Nat.{ℕ, ◌≤◌}
use mathlib.Core.Path.{◌≡◌, sym, ap, ◌∙◌, subst}
use mathlib.Core.Bool.{true}
use mathlib.Core.List.{List}
use lib.ListN.{length, take}
use Rattle.refusal.specs.Answers.{result}
use Rattle.wire.specs.Bits.{bits_fit}
use Rattle.gate.specs.declared.gates.Gate.{Gate}
use Rattle.gate.specs.Running.{run}
use Rattle.circuit.specs.declared.reader.CircuitHead.{CircuitHead}
use Rattle.circuit.specs.Circuits.{Circuit, head_of, head_lines}
use Rattle.program.specs.Programs.{Program, output_value}
use Rattle.construction.specs.Theorems.{Start, AfterInParts}
use Rattle.construction.proofs.AfterLaws.{every_start, after_says}
use Rattle.compilation.specs.Compiling.{program_circuit}
use Rattle.compilation.specs.Demand.{file_written, first_outputs, Kept, AtShare, Demand3Says}

-- at one j, where the numbers answered are those of the circuit
at_share : (file written : List ℕ) (h : CircuitHead) (k : Kept file h written) (start : List ℕ) → bits_fit (head_lines (head_of (program_circuit k.program))) start ≡ true
    → (j : ℕ) → j ≤ (program_circuit k.program).outputs → AtShare file (head_of (program_circuit k.program)) written start j
at_share file written h k start fits j few =
    let p : Program = k.program in
    let c : Circuit = program_circuit p in
    let s : Start (head_lines (head_of c)) start = every_start (head_lines (head_of c)) start fits in
    let r = k.every c k.back start s in
    let opened : run (take (length (first_outputs p j)) c.gates) start ≡ run (first_outputs p j) start = ap (λ (gs : List Gate). run gs start) (r.opens j few) in
    let parts : AfterInParts c.inputs c.outputs c.work (output_value p (take c.inputs start)) j start (run (first_outputs p j) start) =
    after_says c.inputs c.outputs c.work (output_value p (take c.inputs start)) j start (run (first_outputs p j) start) s (r.holds j few) in
    record {
      program = p;
      read = k.read;
      circuit = c;
      back = k.back;
      opens = r.opens j few;
      next = r.follows j;
      whole = λ last. ap (first_outputs p) last ∙ r.all;
      values = r.evaluates;
      parts = rw opened parts;
      close = λ last. r.runs ∙ ap result (sym r.ends ∙ ap (λ (i : ℕ). run (first_outputs p i) start) (sym last) ∙ sym opened);
    }

pub demand_says : Demand3Says
demand_says file answer area d h e start fits j few =
    let k = d.kept h e in
    let same : h ≡ head_of (program_circuit k.program) = k.numbers in
    subst (λ (t : CircuitHead). AtShare file t (file_written h area) start j) (sym same)
    (at_share file (file_written h area) h k start (subst (λ (t : CircuitHead). bits_fit (head_lines t) start ≡ true) same fits) j (subst (λ (t : CircuitHead). j ≤ t.outputs) same few))
