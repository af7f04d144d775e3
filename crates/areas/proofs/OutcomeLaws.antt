-- Laws of a service that writes a circuit file: its answer and the lent area at exit, case by case. Assumes nothing.
use Prim.Native.Nat.{ℕ, ◌≤◌}
use mathlib.Core.Path.{◌≡◌, refl, sym, ◌∙◌}
use mathlib.Core.Logic.{◌≢◌}
use mathlib.Core.List.{List}
use lib.ListN.{length, replicate}
use lib.Seq.{sets}
use Rattle.refusal.specs.Answers.{Answer, result, refused, refuse, map_answer}
use Rattle.refusal.specs.declared.causes.Refusal.TheVariants as cause
use Rattle.wire.specs.Areas.{area_after}
use Rattle.wire.proofs.AreaLaws.{area_kept}
use Rattle.circuit.specs.declared.reader.CircuitHead.{CircuitHead}
use Rattle.circuit.specs.Circuits.{Circuit, head_of}
use Rattle.circuit.specs.Format.{file_length, opening_bytes, circuit_file}
use Rattle.areas.specs.AreaGates.{put_gates}
use Rattle.areas.proofs.WriterLaws.{file_written_lem}

-- the answer a and the area at exit are those of a service that gives x
pub record Outcome (x : Answer Circuit) (area : List ℕ) (a : Answer CircuitHead) (after : List ℕ) : Type 0 where
  pub answer : a ≡ map_answer head_of x
  pub area_is : after ≡ area_after (map_answer circuit_file x) area

module _ {x : Answer Circuit} (area : List ℕ) where
  outcome : (y : Answer Circuit) → x ≡ y → Outcome x area (map_answer head_of y) (area_after (map_answer circuit_file y) area)
  outcome y e = record { answer = rw e refl; area_is = rw e refl }

  -- a refusal other than 11 leaves the area as it was
  pub outcome_refused : (n p : ℕ) → n ≢ 11 → x ≡ refused n p → Outcome x area (refused n p) area
  outcome_refused n p h e =
      let o = outcome (refused n p) e in
      record { answer = o.answer; area_is = sym (area_kept n p area h) ∙ o.area_is }

  -- no room: the whole area is zero
  pub outcome_room : (k : ℕ) → x ≡ refuse (cause.Room k) → Outcome x area (refuse (cause.Room k)) (replicate (length area) 0)
  outcome_room k e = outcome (refuse (cause.Room k)) e

  -- room: the opening and then the gates are stored
  pub outcome_written : (c : Circuit) {area₁ area₂ : List ℕ} → x ≡ result c → file_length (length c.gates) ≤ length area
      → area₁ ≡ sets area 0 (opening_bytes (head_of c)) → area₂ ≡ put_gates area₁ 0 c.gates → Outcome x area (result (head_of c)) area₂
  outcome_written c e room e₁ e₂ =
      let o = outcome (result c) e in
      record { answer = o.answer; area_is = file_written_lem area c room e₁ e₂ ∙ o.area_is }
