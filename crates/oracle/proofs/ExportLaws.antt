-- Laws of what is exported. Assumes nothing.
use Prim.Native.Nat.{ℕ}
use native.Mathlib.Omega.{arith}
use mathlib.Core.Path.{◌≡◌, refl, sym, ap, ◌∙◌}
use mathlib.Core.List.{List}
use lib.ListN.{length}
use Rattle.std.specs.Prelude.{Result, Ok, Err}
use Rattle.refusal.specs.declared.causes.Refusal.{Refusal}
use Rattle.refusal.specs.Answers.{Answer, result, refused, map_answer, answer_of}
use Rattle.refusal.proofs.AnswerLaws.{mapped_twice, number_some, came}
use Rattle.circuit.specs.declared.reader.CircuitHead.{CircuitHead}
use Rattle.circuit.specs.Circuits.{Circuit, head_of}
use Rattle.circuit.specs.Format.{circuit_file}
use Rattle.circuit.proofs.FormatLaws.{file_length_lem}
use Rattle.undo.specs.UndoCircuit.{undo_file}
use Rattle.undo.proofs.UndoneLaws.{undid}
use Rattle.undo.proofs.UndoneLaws as undo
use Rattle.compilation.specs.Compiling.{compile_of}
use Rattle.quotation.specs.Quoting.{quote_of}
use Rattle.compilation.specs.Demand.{Demand3}
use Rattle.compilation.proofs.AcceptedLaws.{accepted}
use Rattle.abi.specs.Steps.{file_bytes, FewGates}
use Rattle.abi.specs.declared.OracleAnswer.{OracleAnswer}
use Rattle.abi.specs.Exported.{exported}
use Rattle.oracle.specs.Exported.{ExportedDemand3}

-- what is shown of a service's answer is what is shown of that which the service read
pub answer_shown : {A B C D : Type 0} (show : Answer C → D) (g : A → B) (number : B → C) (x : Answer A) {a : Answer B} → a ≡ map_answer g x
    → show (map_answer number a) ≡ show (map_answer (λ v. number (g v)) x)
answer_shown show g number x e = ap (λ y. show (map_answer number y)) e ∙ ap show (mapped_twice g number x)

-- the bytes of a file that was written are those of the circuit's file
pub bytes_written : (x : Answer Circuit) → exported (map_answer (λ c. file_bytes (head_of c)) x) ≡ exported (map_answer (λ c. length (circuit_file c)) x)
bytes_written (result c) = ap (λ (n : ℕ). exported (result n)) (sym (file_length_lem c))
bytes_written (refused n p) = refl

-- what is shown of a quote's answer is what is shown of quoting
pub quoted_shown : (f counts answers : List ℕ) {a : Answer ℕ} → a ≡ (quote_of f counts answers).answer → {r : OracleAnswer} → r ≡ exported a → r ≡ exported (quote_of f counts answers).answer
quoted_shown f counts answers e q = q ∙ ap exported e

-- a circuit that undoing writes has few gates
pub undone_few : (f choices : List ℕ) (room : ℕ) {a : Answer CircuitHead} → a ≡ map_answer head_of (undo_file f choices room) → FewGates a
undone_few f choices room e h q =
    let k = came head_of (undo_file f choices room) h (sym q ∙ e) in
    omega (arith, ap (λ (x : CircuitHead). x.gates) k.reads, undo.undone_few f choices k.from (undid f choices room k.from k.was))

-- and so has one that compiling writes
pub compiled_few : (f : List ℕ) (grant : ℕ) (sizes area : List ℕ) {a : Answer CircuitHead} → a ≡ (compile_of f grant sizes area).answer → FewGates a
compiled_few f grant sizes area e h q =
    let k = accepted f grant sizes area h (sym e ∙ q) in
    omega (arith, ap (λ (x : CircuitHead). x.gates) k.head, k.passes.gates_most)

-- what is shown of its answer is what is shown of compiling
pub compiled_shown : (f : List ℕ) (grant : ℕ) (sizes area : List ℕ) {a : Answer CircuitHead} → a ≡ (compile_of f grant sizes area).answer
    → {r : OracleAnswer} → r ≡ exported (map_answer file_bytes a) → r ≡ exported (map_answer file_bytes (compile_of f grant sizes area).answer)
compiled_shown f grant sizes area e q = q ∙ ap (λ (x : Answer CircuitHead). exported (map_answer file_bytes x)) e

-- demand 3 of the service is demand 3 of what is exported
pub demand_exported : {file area : List ℕ} (answer : Result CircuitHead Refusal) → Demand3 file (answer_of answer) area
    → {r : OracleAnswer} → r ≡ exported (map_answer file_bytes (answer_of answer)) → ExportedDemand3 file r area
demand_exported (Ok h) d q n = record { head = h; kept = rw q (d.kept h refl) }
demand_exported (Err why) d q n = absurd (omega (arith, number_some why, ap (λ (a : OracleAnswer). a.number) q))
