-- Laws of undoing a gate body into an area. Assumes nothing.
use Prim.Native.Nat.{ℕ, ◌+◌, ◌-◌, ◌/◌, ◌<◌, ◌≤◌}
use native.Mathlib.Omega.{arith}
use mathlib.Core.Path.{◌≡◌, refl, sym, ap, ap₂, ◌∙◌}
use mathlib.Core.Bool.{true, false}
use mathlib.Core.List.{List, [], ◌∷◌, ◌++◌}
use lib.ListN.{length, take, drop, replicate, length-append}
use lib.Dec.{leb}
use lib.Seq.{sets}
use borrow.Author.Tests.{le-leb, lt-leb}
use Rattle.wire.specs.Limits.{most_gates}
use Rattle.refusal.specs.Answers.{Answer, result, refused, refuse, answer_of, map_answer, number_of, place_of}
use Rattle.refusal.proofs.AnswerLaws.{Came, came, came_refused}
use Rattle.refusal.specs.declared.causes.Refusal.{Refusal}
use Rattle.std.specs.Prelude.{Result, Ok, Err}
use Rattle.contents.specs.Contents.{body_of}
use Rattle.contents.specs.Steps.{Laid}
use Rattle.refusal.specs.declared.causes.Refusal.TheVariants as cause
use Rattle.gate.specs.declared.gates.Gate.{Gate}
use Rattle.gate.specs.Gates.{target}
use Rattle.gate_bytes.specs.GateBytes.{gate_at}
use Rattle.gate.specs.Running.{without, uncompute}
use Rattle.gate.proofs.UncomputeLaws.{without_append, without_few, uncompute_snoc, uncompute_length, one_out, one_kept}
use Rattle.gate.proofs.WellFormedLaws.{target_below}
use Rattle.circuit.specs.declared.reader.CircuitHead.{CircuitHead}
use Rattle.circuit.specs.Circuits.{Circuit, head_of, gates_in, InRange}
use Rattle.circuit.specs.Format.{file_length, opening_bytes, circuit_file}
use Rattle.areas.specs.AreaGates.{put_gates, Stored}
use Rattle.areas.proofs.AreaLaws.{stored_none}
use Rattle.circuit.specs.Reading.{read_with_lines}
use Rattle.circuit.proofs.AcceptedLaws.{accepted, legal, with_lines, lines_gates, lines_laid, lines_formed, reader_room}
use Rattle.circuit.proofs.GateBodyLaws.{gates_from_lem, gates_none, gates_whole, gates_last, gates_first_none, gate_formed}
use Rattle.areas.proofs.OutcomeLaws.{Outcome, outcome_refused, outcome_room, outcome_written}
use Rattle.areas.proofs.WriterLaws.{put_length, put_none, put_append}
use Rattle.circuit.proofs.FormatLaws.{file_length_lem}
use Rattle.undo.specs.UndoCircuit.{chosen, undo_circuit, undo_file}

module _ (body choices : List ℕ) where
  abbrev kept : List Gate → List Gate
  kept = without (chosen choices)

  -- a loop has counted the gates that are kept of the first i
  pub record Counted (i k : ℕ) : Type 0 where
    pub within : i ≤ length body / 8
    pub few : k ≤ i
    pub rest : k + length (kept (drop i (gates_in body))) ≡ length (kept (gates_in body))

  pub counted_start : Counted 0 0
  counted_start = record { within = omega arith; few = omega arith; rest = omega arith }

  counts_from : (i : ℕ) → i < length body / 8
      → length (kept (drop i (gates_in body))) ≡ length (kept (gate_at body i ∷ [])) + length (kept (drop (i + 1) (gates_in body)))
  counts_from i h =
      ap (λ (gs : List Gate). length (kept gs)) (gates_from_lem body i h)
      ∙ ap (λ (gs : List Gate). length gs) (without_append (chosen choices) (gate_at body i ∷ []) (drop (i + 1) (gates_in body)))
      ∙ length-append (kept (gate_at body i ∷ [])) (kept (drop (i + 1) (gates_in body)))

  module _ {i k : ℕ} (p : Counted i k) where
    pub counted_out : i < length body / 8 → chosen choices (target (gate_at body i)) ≡ true → Counted (i + 1) k
    counted_out h e =
        record {
          within = omega arith;
          few = omega (arith, p.few);
          rest = omega (arith, p.rest, counts_from i h, ap (λ (gs : List Gate). length gs) (one_out (chosen choices) (gate_at body i) e));
        }

    pub counted_kept : i < length body / 8 → chosen choices (target (gate_at body i)) ≡ false → Counted (i + 1) (k + 1)
    counted_kept h e =
        record {
          within = omega arith;
          few = omega (arith, p.few);
          rest = omega (arith, p.rest, counts_from i h, ap (λ (gs : List Gate). length gs) (one_kept (chosen choices) (gate_at body i) e));
        }

    pub counted_all : length body / 8 ≤ i → k ≡ length (kept (gates_in body))
    unfolding without
    counted_all h =
        omega (arith, p.rest, ap (λ (gs : List Gate). length (kept gs)) (gates_none body i (omega (arith, p.within))))

  -- a gate that is left out is not stored, and one that is kept is
  module _ (i : ℕ) where
    pub none_left : chosen choices (target (gate_at body i)) ≡ true → {k : ℕ} (area : List ℕ) → Stored (kept (gate_at body i ∷ [])) k k area area
    none_left e {k} area = rw (one_out (chosen choices) (gate_at body i) e) (stored_none k area)

    module _ (e : chosen choices (target (gate_at body i)) ≡ false) where
      pub one_room : (k : ℕ) {n : ℕ} → file_length (k + length (kept (gate_at body i ∷ []))) ≤ n → file_length (k + 1) ≤ n
      one_room k r = omega (arith, ap (λ (gs : List Gate). length gs) (one_kept (chosen choices) (gate_at body i) e), r)

      pub one_stored : {g : Gate} {k r : ℕ} {area after : List ℕ} → g ≡ gate_at body i → Stored (g ∷ []) k r area after → Stored (kept (gate_at body i ∷ [])) k r area after
      one_stored q s = rw (one_kept (chosen choices) (gate_at body i) e, sym q) s

  abbrev undone : List Gate → List Gate
  undone = uncompute (chosen choices)

  -- a loop from the last gate to the first has still to undo the first i gates, and has stored k
  pub record UndoneStored (area₀ area : List ℕ) (k i : ℕ) : Type 0 where
    pub within : i ≤ length body / 8
    pub same : length area ≡ length area₀
    pub few : k + length (undone (take i (gates_in body))) ≡ length (undone (gates_in body))
    pub rest : put_gates area k (undone (take i (gates_in body))) ≡ put_gates area₀ 0 (undone (gates_in body))

  undone_last : (i : ℕ) → 0 < i → i ≤ length body / 8
      → undone (take i (gates_in body)) ≡ kept (gate_at body (i - 1) ∷ []) ++ undone (take (i - 1) (gates_in body))
  undone_last i h l =
      ap undone (gates_last body i h l) ∙ uncompute_snoc (chosen choices) (take (i - 1) (gates_in body)) (gate_at body (i - 1))

  module _ (area₀ : List ℕ) where
    pub stored_start : UndoneStored area₀ area₀ 0 (length body / 8)
    stored_start =
        let whole : undone (take (length body / 8) (gates_in body)) ≡ undone (gates_in body) = ap undone (gates_whole body (length body / 8) refl) in
        record {
          within = omega arith;
          same = refl;
          few = omega (arith, ap (λ (gs : List Gate). length gs) whole);
          rest = ap (put_gates area₀ 0) whole;
        }

    module _ {area : List ℕ} {k i : ℕ} (p : UndoneStored area₀ area k i) where
      counts_last : 0 < i → length (undone (take i (gates_in body))) ≡ length (kept (gate_at body (i - 1) ∷ [])) + length (undone (take (i - 1) (gates_in body)))
      counts_last h =
          ap (λ (gs : List Gate). length gs) (undone_last i h p.within)
          ∙ length-append (kept (gate_at body (i - 1) ∷ [])) (undone (take (i - 1) (gates_in body)))

      -- there is room for the next gate
      pub stored_room : 0 < i → file_length (length (undone (gates_in body))) ≤ length area₀
          → file_length (k + length (kept (gate_at body (i - 1) ∷ []))) ≤ length area
      stored_room h room = omega (arith, room, p.same, p.few, counts_last h)

      pub stored_next : {area' : List ℕ} {k' : ℕ} → 0 < i → Stored (kept (gate_at body (i - 1) ∷ [])) k k' area area' → UndoneStored area₀ area' k' (i - 1)
      stored_next {area'} {k'} h s =
          let one : List Gate = kept (gate_at body (i - 1) ∷ []) in
          let more : List Gate = undone (take (i - 1) (gates_in body)) in
          rw (s.area_to, s.count_to) (record {
            within = omega (arith, p.within);
            same = put_length area k one ∙ p.same;
            few = omega (arith, p.few, counts_last h);
            rest = put_append area k one more ∙ ap (put_gates area k) (sym (undone_last i h p.within)) ∙ p.rest;
          })

      pub stored_all : i ≤ 0 → area ≡ put_gates area₀ 0 (undone (gates_in body))
      unfolding uncompute without
      stored_all h =
          let none : undone (take i (gates_in body)) ≡ [] = ap undone (gates_first_none body i h) in
          sym (put_none area k) ∙ ap (put_gates area k) (sym none) ∙ p.rest

-- undoing a file into an area
module _ (f choices area : List ℕ) where
  -- the answer a and the area at exit are those of the service's definition
  abbrev Undoes : Answer CircuitHead → List ℕ → Type 0
  Undoes a after = Outcome (undo_file f choices (length area)) area a after

  -- the reader's refusal leaves the area as it was
  pub undo_refused : (n p : ℕ) → read_with_lines f choices ≡ refused n p → Undoes (refused n p) area
  unfolding undo_file
  undo_refused n p e = outcome_refused area n p (reader_room f choices n p e) (rw e refl)

  module _ (c : Circuit) (e : read_with_lines f choices ≡ result c) where
    abbrev gates : List Gate
    gates = gates_in (body_of f 1)

    -- the circuit that is written has so many gates
    pub undo_gates : (undo_circuit choices c).gates ≡ uncompute (chosen choices) gates
    unfolding undo_circuit
    undo_gates = ap (uncompute (chosen choices)) (lines_gates f choices c e)

    undo_count : (k : ℕ) → k ≡ length (without (chosen choices) gates) → length (undo_circuit choices c).gates ≡ k
    undo_count k q = ap (λ (gs : List Gate). length gs) undo_gates ∙ uncompute_length (chosen choices) gates ∙ sym q

    -- at most 8,000
    pub kept_few : length (without (chosen choices) gates) ≤ most_gates
    kept_few =
        omega (
          arith,
          without_few (chosen choices) gates,
          ap (λ (gs : List Gate). length gs) (lines_gates f choices c e),
          (legal f c (accepted f c (with_lines f choices c e).reads)).numbers.gates_most,
        )

    fits : (k : ℕ) → k ≡ length (without (chosen choices) gates) → length (circuit_file (undo_circuit choices c)) ≡ file_length k
    fits k q = file_length_lem (undo_circuit choices c) ∙ ap file_length (undo_count k q)

    -- no room: the whole area is zero, and the place is the number of gates
    pub undo_room : (k : ℕ) → k ≡ length (without (chosen choices) gates) → length area < file_length k
        → Undoes (refuse (cause.Room k)) (replicate (length area) 0)
    unfolding undo_file
    undo_room k q short =
        let test : leb (length (circuit_file (undo_circuit choices c))) (length area) ≡ false = lt-leb (length (circuit_file (undo_circuit choices c))) (length area) (omega (arith, fits k q)) in
        outcome_room area k (rw (e, test, undo_count k q) refl)

    -- the numbers of the circuit written
    pub undo_head : (h : CircuitHead) (k : ℕ) → h ≡ head_of c → k ≡ length (without (chosen choices) gates)
        → ◌≡◌ {A = CircuitHead} (record { inputs = h.inputs; outputs = h.outputs; work = h.work; gates = k }) (head_of (undo_circuit choices c))
    unfolding undo_circuit
    undo_head h k p q =
        ap₂ (λ (x : CircuitHead) (n : ℕ). record { inputs = x.inputs; outputs = x.outputs; work = x.work; gates = n }) p (sym (undo_count k q))

    pub undo_range : InRange (head_of (undo_circuit choices c))
    unfolding undo_circuit
    undo_range =
        let n = (legal f c (accepted f c (with_lines f choices c e).reads)).numbers in
        record {
          inputs_most = n.inputs_most;
          outputs_some = n.outputs_some;
          outputs_most = n.outputs_most;
          work_most = n.work_most;
          gates_most = omega (arith, undo_count (length (without (chosen choices) gates)) refl, kept_few);
        }

    -- room: the head and then the gates are written
    pub undo_written : (k : ℕ) {area₁ area₂ : List ℕ} → k ≡ length (without (chosen choices) gates) → file_length k ≤ length area
        → area₁ ≡ sets area 0 (opening_bytes (head_of (undo_circuit choices c)))
        → area₂ ≡ put_gates area₁ 0 (uncompute (chosen choices) gates)
        → Undoes (result (head_of (undo_circuit choices c))) area₂
    unfolding undo_file
    undo_written k {area₁} {area₂} q room e₁ e₂ =
        let d : Circuit = undo_circuit choices c in
        let test : leb (length (circuit_file d)) (length area) ≡ true = le-leb (length (circuit_file d)) (length area) (omega (arith, fits k q)) in
        outcome_written area d (rw (e, test) refl) (omega (arith, room, undo_count k q)) e₁ (e₂ ∙ ap (put_gates area₁ 0) (sym undo_gates))

-- undoing a file into an area, by what the reader answers with the choices
module _ (f choices area : List ℕ) {r : Result CircuitHead Refusal} (read : answer_of r ≡ map_answer head_of (read_with_lines f choices)) where
  -- a refusal is passed on
  pub undo_passed : {why : Refusal} → r ≡ Err why → Undoes f choices area (refuse why) area
  undo_passed {why} g =
      undo_refused f choices area (number_of why) (place_of why) (came_refused head_of (read_with_lines f choices) (number_of why) (place_of why) (sym (ap answer_of g) ∙ read))

  -- a head: the circuit was read
  module _ {h : CircuitHead} (g : r ≡ Ok h) where
    good : Came head_of (read_with_lines f choices) h
    good = came head_of (read_with_lines f choices) h (sym (ap answer_of g) ∙ read)

    pub read_laid : Laid 2 f
    read_laid = lines_laid f choices good.from good.was

    -- and its gates that remain were counted
    module _ {gates : List ℕ} (b : gates ≡ body_of f 1) where
      pub read_range : (i : ℕ) → i < length gates / 8 → target (gate_at gates i) < length choices
      read_range i h = target_below (length choices) (gate_at gates i) (gate_formed gates (length choices) (rw b (lines_formed f choices good.from good.was)) i h)

      module _ {k : ℕ} (q : k ≡ length (without (chosen choices) (gates_in gates))) where
        counted : k ≡ length (without (chosen choices) (gates_in (body_of f 1)))
        counted = q ∙ ap (λ (s : List ℕ). length (without (chosen choices) (gates_in s))) b

        abbrev head : CircuitHead
        head = record { inputs = h.inputs; outputs = h.outputs; work = h.work; gates = k }

        head_undone : head ≡ head_of (undo_circuit choices good.from)
        head_undone = undo_head f choices area good.from good.was h k good.reads counted

        pub counted_few : k ≤ most_gates
        counted_few = omega (arith, counted, kept_few f choices area good.from good.was)

        pub counted_room : {n : ℕ} → n ≡ file_length k → length area < n → Undoes f choices area (refuse (cause.Room k)) (replicate (length area) 0)
        counted_room e short = undo_room f choices area good.from good.was k counted (omega arith)

        pub counted_head : InRange head
        counted_head = rw head_undone (undo_range f choices area good.from good.was)

        pub counted_length : length (uncompute (chosen choices) (gates_in gates)) ≡ k
        counted_length = uncompute_length (chosen choices) (gates_in gates) ∙ sym q

        pub counted_written : {n : ℕ} {area₁ area₂ : List ℕ} → n ≡ file_length k → n ≤ length area
            → area₁ ≡ sets area 0 (opening_bytes head) → area₂ ≡ put_gates area₁ 0 (uncompute (chosen choices) (gates_in gates))
            → Undoes f choices area (result head) area₂
        counted_written {n} {area₁} {area₂} e room e₁ e₂ =
            let o = undo_written f choices area good.from good.was k counted (omega arith)
            (e₁ ∙ ap (λ (x : CircuitHead). sets area 0 (opening_bytes x)) head_undone)
            (e₂ ∙ ap (λ (s : List ℕ). put_gates area₁ 0 (uncompute (chosen choices) (gates_in s))) b) in
            record { answer = ap result head_undone ∙ o.answer; area_is = o.area_is }
