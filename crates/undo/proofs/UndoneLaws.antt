-- Laws of the circuits that undoing writes: they read back, and run after the circuit that they undo they restore every line that was not chosen. Assumes nothing.
use Prim.Native.Nat.{ℕ, ◌≤◌}
use native.Mathlib.Omega.{arith}
use mathlib.Core.Path.{◌≡◌, sym, ap, ◌∙◌}
use mathlib.Core.Bool.{false}
use mathlib.Core.List.{List, []}
use lib.ListN.{length}
use lib.Dec.{leb}
use borrow.Author.Tests.{ne_eqb}
use Rattle.wire.specs.Limits.{most_gates}
use Rattle.refusal.specs.Answers.{Answer, result, check}
use Rattle.wire.specs.Bits.{bit}
use Rattle.refusal.specs.declared.causes.Refusal.{Refusal}
use Rattle.refusal.specs.declared.causes.Refusal.TheVariants as cause
use Rattle.refusal.proofs.AnswerLaws.{checked_next, same_result, led}
use Rattle.gate.specs.Gates.{WellFormed}
use Rattle.gate.specs.Running.{run, uncompute, without}
use Rattle.gate.proofs.AllLaws.{all_reverse}
use Rattle.gate.proofs.StepLaws.{run_append, uncomputes}
use Rattle.gate.proofs.UncomputeLaws.{all_without}
use Rattle.circuit.specs.Circuits.{Circuit, Legal, line_count}
use Rattle.circuit.specs.Format.{circuit_file}
use Rattle.circuit.specs.Reading.{read_with_lines}
use Rattle.circuit.proofs.AcceptedLaws.{accepted, formed, with_lines}
use Rattle.circuit.proofs.FileLaws.{reads_back}
use Rattle.undo.specs.Theorems.{UndoReadsBack, UndoRestores}
use Rattle.undo.specs.UndoCircuit.{chosen, undo_circuit, undo_file}
use Rattle.undo.proofs.UndoLaws.{undo_range}

-- a file that was undone: its circuit was read with the choices, and its undoing is what was written
pub record Undid (f choices : List ℕ) (d : Circuit) : Type 0 where
  pub from : Circuit
  pub reads : read_with_lines f choices ≡ result from
  pub is : undo_circuit choices from ≡ d

pub undid : (f choices : List ℕ) (room : ℕ) (d : Circuit) → undo_file f choices room ≡ result d → Undid f choices d
unfolding undo_file
undid f choices room d e =
    let fitting : Circuit → Answer Circuit = λ (k : Circuit). check (leb (length (circuit_file (undo_circuit choices k))) room) (cause.Room (length (undo_circuit choices k).gates)) (result (undo_circuit choices k)) in
    let l = led (read_with_lines f choices) fitting d e in
    let k : Circuit = undo_circuit choices l.from in
    let why : Refusal = cause.Room (length k.gates) in
    let same : result k ≡ result d = checked_next d (leb (length (circuit_file k)) room) why (result k) l.next in
    record { from = l.from; reads = l.was; is = same_result k d same }

module _ (f choices : List ℕ) (d : Circuit) (u : Undid f choices d) where
  -- the circuit written is legal
  undone_legal : Legal (undo_circuit choices u.from)
  unfolding undo_circuit uncompute
  undone_legal =
      let c : Circuit = u.from in
      let a = accepted f c (with_lines f choices c u.reads).reads in
      record {
        numbers = undo_range f choices [] c u.reads;
        formed = all_reverse (WellFormed (line_count c)) (without (chosen choices) c.gates) (all_without (WellFormed (line_count c)) (chosen choices) c.gates (formed f c a));
      }

  -- and has at most 8,000 gates
  pub undone_few : length d.gates ≤ most_gates
  undone_few = rw u.is at undone_legal.numbers.gates_most

-- the file that undoing writes reads back
pub undo_reads_back : UndoReadsBack
undo_reads_back f choices room d e =
    let u = undid f choices room d e in
    reads_back d (rw u.is at (undone_legal f choices d u))

-- running a circuit and then its undoing restores every line that was not chosen
pub undo_restores : UndoRestores
unfolding undo_circuit
undo_restores f choices room c d s e r spares long bits i free =
    let u = undid f choices room d e in
    let w = with_lines f choices u.from u.reads in
    let same : u.from ≡ c = same_result u.from c (sym w.reads ∙ r) in
    let gates : uncompute (chosen choices) c.gates ≡ d.gates = ap (λ (k : Circuit). (undo_circuit choices k).gates) (sym same) ∙ ap (λ (k : Circuit). k.gates) u.is in
    let fits = rw (← long) at (formed f c (accepted f c r)) in
    let out : chosen choices i ≡ false = ne_eqb (bit choices i) 1 (omega (arith, free)) in
    ap (λ gs. bit (run gs (run c.gates s)) i) (sym gates)
    ∙ ap (λ t. bit t i) (sym (run_append c.gates (uncompute (chosen choices) c.gates) s))
    ∙ uncomputes (chosen choices) c.gates s fits spares bits i out
