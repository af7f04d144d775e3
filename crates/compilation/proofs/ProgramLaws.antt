-- Laws of compiling a program: its answer, check by check. Assumes nothing.
use Prim.Native.Nat.{ℕ, ◌<◌, ◌≤◌}
use native.Mathlib.Omega.{arith}
use mathlib.Core.Path.{◌≡◌, refl}
use mathlib.Core.Logic.{◌≢◌}
use mathlib.Core.Bool.{Bool, true, false, ◌&&◌}
use lib.ListN.{length}
use lib.Dec.{leb}
use borrow.Author.Tests.{eqb-true, leb-true, le-leb, lt-leb, eq-eqb, ne_eqb}
use Rattle.wire.specs.Limits.{most_gates, most_size, most_work}
use Rattle.refusal.specs.Answers.{Answer, result, refuse, check}
use Rattle.refusal.specs.Checks.{all_below, lowest}
use Rattle.refusal.specs.declared.causes.Refusal.{Refusal}
use Rattle.refusal.specs.declared.causes.Refusal.TheVariants as cause
use Rattle.refusal.proofs.AnswerLaws.{checked, checked_next}
use Rattle.refusal.proofs.CheckLaws.{by_test, both_first, both_second, all_below_lem, below_all}
use Rattle.circuit.specs.Circuits.{Circuit}
use Rattle.circuit.specs.Format.{file_length, circuit_file}
use Rattle.circuit.proofs.FormatLaws.{file_length_lem}
use Rattle.node.specs.Exprs.{size}
use Rattle.program.specs.Programs.{Program, output_tree}
use Rattle.construction.specs.Counting.{gates_shown}
use Rattle.compilation.specs.Compiling.{program_circuit, compile_program}

-- the test of cause 8 at output k
abbrev pub size_fits : Program → ℕ → Bool
size_fits p k = leb (size (output_tree p k)) most_size

-- every output is small enough
abbrev pub AllSmall : Program → Type 0
AllSmall p = (k : ℕ) → k < length p.outputs → size (output_tree p k) ≤ most_size

-- the test of cause 11
abbrev room_fits : Program → ℕ → Bool
room_fits p room = leb (length (program_circuit p).gates) most_gates && leb (length (circuit_file (program_circuit p))) room

module _ (p : Program) where
  -- where the test of cause 8 fails at no output, every output is small enough
  pub all_small : lowest (size_fits p) (length p.outputs) ≡ length p.outputs → AllSmall p
  all_small e k h =
      let m : ℕ = length p.outputs in
      leb-true (size (output_tree p k)) most_size (all_below_lem (size_fits p) m (eq-eqb (lowest (size_fits p) m) m e) k h)

  -- and the other way round
  small_all : AllSmall p → all_below (size_fits p) (length p.outputs) ≡ true
  small_all small = below_all (size_fits p) (length p.outputs) (λ k h. le-leb (size (output_tree p k)) most_size (small k h))

module _ (p : Program) (grant room : ℕ) where
  pub too_large : lowest (size_fits p) (length p.outputs) ≢ length p.outputs
      → compile_program p grant room ≡ refuse (cause.Size (lowest (size_fits p) (length p.outputs)))
  unfolding compile_program
  too_large h = rw (ne_eqb (lowest (size_fits p) (length p.outputs)) (length p.outputs) h) refl

  module _ (small : AllSmall p) where
    pub grant_large : most_work < grant → compile_program p grant room ≡ refuse cause.Grant
    unfolding compile_program
    grant_large h = rw (small_all p small, lt-leb grant most_work h) refl

    module _ (allowed : grant ≤ most_work) where
      pub lines_short : grant < (program_circuit p).work → compile_program p grant room ≡ refuse (cause.WorkLines (program_circuit p).work)
      unfolding compile_program
      lines_short h = rw (small_all p small, le-leb grant most_work allowed, lt-leb (program_circuit p).work grant h) refl

      module _ (enough : (program_circuit p).work ≤ grant) where
        room_bad : room_fits p room ≡ false → compile_program p grant room ≡ refuse (cause.Room (gates_shown (length (program_circuit p).gates)))
        unfolding compile_program
        room_bad e = rw (small_all p small, le-leb grant most_work allowed, le-leb (program_circuit p).work grant enough, e) refl

        -- there are more gates than a file may hold
        pub gates_many : most_gates < length (program_circuit p).gates → compile_program p grant room ≡ refuse (cause.Room (gates_shown (length (program_circuit p).gates)))
        gates_many h = room_bad (rw (lt-leb (length (program_circuit p).gates) most_gates h) refl)

        -- or the area is too short for the file
        pub area_short : room < file_length (length (program_circuit p).gates) → compile_program p grant room ≡ refuse (cause.Room (gates_shown (length (program_circuit p).gates)))
        area_short h =
            let c : Circuit = program_circuit p in
            by_test (leb (length c.gates) most_gates)
            (λ few. room_bad (rw (few, lt-leb (length (circuit_file c)) room (omega (arith, file_length_lem c))) refl))
            (λ many. room_bad (rw many refl))

        pub fits : length (program_circuit p).gates ≤ most_gates → file_length (length (program_circuit p).gates) ≤ room → compile_program p grant room ≡ result (program_circuit p)
        unfolding compile_program
        fits few h =
            let c : Circuit = program_circuit p in
            rw (
              small_all p small,
              le-leb grant most_work allowed,
              le-leb c.work grant enough,
              le-leb (length c.gates) most_gates few,
              le-leb (length (circuit_file c)) room (omega (arith, file_length_lem c)),
            )

-- every check has passed
pub record Passed (p : Program) (grant room : ℕ) : Type 0 where
  pub small : AllSmall p
  pub grant_most : grant ≤ most_work
  pub work_granted : (program_circuit p).work ≤ grant
  pub gates_most : length (program_circuit p).gates ≤ most_gates
  pub file_fits : file_length (length (program_circuit p).gates) ≤ room

module _ (p : Program) (grant room : ℕ) where
  -- a program that compiles passed every check
  pub passed : (c : Circuit) → compile_program p grant room ≡ result c → Passed p grant room
  unfolding compile_program
  passed c e =
      let d : Circuit = program_circuit p in
      let sizes : Bool = all_below (size_fits p) (length p.outputs) in
      let large : Refusal = cause.Size (lowest (size_fits p) (length p.outputs)) in
      let full : Refusal = cause.Room (gates_shown (length d.gates)) in
      let file : Answer Circuit = check (room_fits p room) full (result d) in
      let lines : Answer Circuit = check (leb d.work grant) (cause.WorkLines d.work) file in
      let grants : Answer Circuit = check (leb grant most_work) cause.Grant lines in
      let e₉ : grants ≡ result c = checked_next c sizes large grants e in
      let e₁₀ : lines ≡ result c = checked_next c (leb grant most_work) cause.Grant lines e₉ in
      let e₁₁ : file ≡ result c = checked_next c (leb d.work grant) (cause.WorkLines d.work) file e₁₀ in
      let held : room_fits p room ≡ true = checked c (room_fits p room) full (result d) e₁₁ in
      let few : Bool = leb (length d.gates) most_gates in
      let there : Bool = leb (length (circuit_file d)) room in
      record {
        small = all_small p (eqb-true (lowest (size_fits p) (length p.outputs)) (length p.outputs) (checked c sizes large grants e));
        grant_most = leb-true grant most_work (checked c (leb grant most_work) cause.Grant lines e₉);
        work_granted = leb-true d.work grant (checked c (leb d.work grant) (cause.WorkLines d.work) file e₁₀);
        gates_most = leb-true (length d.gates) most_gates (both_first few there held);
        file_fits = omega (arith, file_length_lem d, leb-true (length (circuit_file d)) room (both_second few there held));
      }

  -- and one that passed every check compiles to its circuit
  pub compiles : Passed p grant room → compile_program p grant room ≡ result (program_circuit p)
  compiles q = fits p grant room q.small q.grant_most q.work_granted q.gates_most q.file_fits
