-- Demand 3 holds of every file that compiles. Assumes nothing.
use Prim.Native.Nat.{ℕ, ◌+◌, ◌<◌, ◌≤◌}
use native.Mathlib.Omega.{arith}
use mathlib.Core.Path.{◌≡◌, refl, sym, ap, ◌∙◌, subst}
use mathlib.Core.List.{List}
use lib.ListN.{length, take, drop}
use lib.Seq.{take_at, length-take-le}
use Rattle.refusal.specs.Answers.{Answer, result, map_answer}
use Rattle.wire.specs.Bits.{xor_bit, bit}
use Rattle.refusal.proofs.AnswerLaws.{same_result}
use Rattle.wire.proofs.BitLaws.{bits_pass, bits_take}
use Rattle.gate.specs.declared.gates.Gate.{Gate}
use Rattle.gate.specs.Running.{run}
use Rattle.circuit.specs.declared.reader.CircuitHead.{CircuitHead}
use Rattle.circuit.specs.Circuits.{Circuit, line_count}
use Rattle.circuit.specs.Reading.{read_circuit}
use Rattle.circuit.proofs.AcceptedLaws.{has_lines}
use Rattle.run.specs.RunCircuit.{run_forwards}
use Rattle.node.specs.Exprs.{Expr, value}
use Rattle.program.specs.Programs.{Program, output_value}
use Rattle.program.specs.Reading.{program_of}
use Rattle.program.proofs.AcceptedLaws as program
use Rattle.construction.specs.Construction.{shares}
use Rattle.construction.specs.Theorems.{Start, first_built, After, SharesRestore}
use Rattle.construction.proofs.RestoreLaws.{shares_restore}
use Rattle.evaluate.specs.Evaluating.{evaluate_of}
use Rattle.evaluate.proofs.AskedLaws.{outcome_is}
use Rattle.evaluate.proofs.EvaluateLaws.{value_on, bytes_fit, evaluate_outcome}
use Rattle.compilation.specs.Compiling.{output_trees, program_circuit, compile_of}
use Rattle.compilation.specs.Demand.{file_written, first_outputs, Run, Demand3, Demand3Holds}
use Rattle.compilation.proofs.OutputLaws.{trees_length, tree_is, trees_inputs}
use Rattle.compilation.proofs.AcceptedLaws.{accepted, read_back}

-- the run of a file that reads as the circuit of an accepted program
module _ (f : List ℕ) (a : program.Accepted f) (start : List ℕ) (s : Start (line_count (program_circuit (program_of f))) start) where
  abbrev p : Program
  p = program_of f

  abbrev c : Circuit
  c = program_circuit p

  abbrev inputs : List ℕ
  inputs = take c.inputs start

  restores : SharesRestore p.inputs (output_trees p)
  restores = shares_restore p.inputs (output_trees p) (trees_inputs f a)

  -- the first j shares open the gates
  opens : (j : ℕ) → j ≤ c.outputs → take (length (first_outputs p j)) c.gates ≡ first_outputs p j
  unfolding program_circuit
  opens j h =
      let gs : List Gate = first_outputs p j in
      let n : ℕ = p.inputs in
      let es : List Expr = output_trees p in
      ap (take (length gs)) (restores.opens j (omega (arith, trees_length p)))
      ∙ take_at gs (shares (drop j es) (n + j) (first_built n es j).pool).gates (length gs) refl

  -- and all of them are the gates
  all : first_outputs p c.outputs ≡ c.gates
  unfolding program_circuit
  all = ap (first_outputs p) (sym (trees_length p)) ∙ restores.whole

  -- what they leave, in the program's terms
  holds : (j : ℕ) → j ≤ c.outputs → After c.inputs c.outputs c.work (output_value p inputs) j start (run (first_outputs p j) start)
  unfolding program_circuit output_value
  holds j h =
      let m : length (output_trees p) ≡ length p.outputs = trees_length p in
      let r = restores.holds start (record { long = rw m s.long; bits = s.bits }) j (omega arith) in
      record {
        long = r.long;
        inputs = r.inputs;
        work = λ i q. r.work i (omega arith);
        waiting = λ k q t. r.waiting k q (omega arith);
        over = λ zs k q.
            r.over (λ i t u. zs i (omega arith) (omega arith)) k q
            ∙ ap (λ (e : Expr). xor_bit (bit start (p.inputs + k)) (value e inputs)) (tree_is p k (omega arith));
      }

  -- running forwards gives the lines after the gates
  runs : (g : List ℕ) → read_circuit g ≡ result c → run_forwards g start ≡ result (run c.gates start)
  unfolding run_forwards
  runs g e = ap (map_answer (λ (d : Circuit). run d.gates start)) (has_lines g start c e (bits_pass (line_count c) start s.long s.bits))

  -- evaluating answers the value on the input lines
  evaluates : (k : ℕ) → k < c.outputs → (values : List ℕ) → length p.nodes ≤ length values → (evaluate_of f values inputs k).answer ≡ result (output_value p inputs k)
  unfolding program_circuit output_value
  evaluates k h values long =
      let count : length inputs ≡ p.inputs = length-take-le p.inputs start (omega arith) in
      (outcome_is (value_on inputs) (bytes_fit inputs) f values k p (evaluate_outcome f values inputs k)
      (record { read = a.is; room = long; tested = bits_pass p.inputs inputs count (bits_take p.inputs start s.bits); output = h })
      ).0

  run_is : (g : List ℕ) → read_circuit g ≡ result c → Run f p g c start
  unfolding program_circuit
  run_is g e = record {
    lines = run c.gates start;
    runs = runs g e;
    opens = λ j h. opens j (omega arith);
    holds = λ j h. holds j (omega arith);
    follows = λ j h. restores.follows start j (omega (arith, trees_length p));
    all = all;
    ends = ap (λ (gs : List Gate). run gs start) all;
    evaluates = λ k h. evaluates k (omega arith);
  }

-- demand 3
pub demand_3 : Demand3Holds
demand_3 file grant sizes area = record {
  kept = λ h e.
      let a = accepted file grant sizes area h e in
      let p : Program = program_of file in
      let g : List ℕ = file_written h (compile_of file grant sizes area).area in
      let back : read_circuit g ≡ result (program_circuit p) = read_back file grant sizes area h a in
      record {
        program = p;
        read = a.reads.is;
        numbers = a.head;
        back = back;
        every = λ c r start.
            subst (λ (d : Circuit). Start (line_count d) start → Run file p g d start)
            (same_result (program_circuit p) c (sym back ∙ r))
            (λ s. run_is file a.reads start s g back);
      };
}

-- and of an answer and an area that are what compiling gives and leaves
pub demand_met : (file : List ℕ) (grant : ℕ) (sizes area : List ℕ) {answer : Answer CircuitHead} {after : List ℕ}
    → answer ≡ (compile_of file grant sizes area).answer → after ≡ (compile_of file grant sizes area).area → Demand3 file answer after
demand_met file grant sizes area e q = rw (e, q) (demand_3 file grant sizes area)
