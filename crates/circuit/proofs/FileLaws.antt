-- Laws of circuit files: a written circuit reads back, and an accepted file is the writing of what it gives. Assumes nothing.
use Prim.Native.Nat.{ℕ, zero, suc, ◌+◌, ◌*◌, ◌/◌, ◌%◌, ◌<◌, ◌≤◌}
use native.Mathlib.Omega.{arith}
use mathlib.Core.Path.{◌≡◌, refl, sym, ap, ap₂, ◌∙◌, subst}
use mathlib.Core.Bool.{true}
use mathlib.Core.List.{List, [], ◌∷◌, ◌++◌, append_assoc, append-nil, flat_map}
use lib.ListN.{length, get_or, drop, drop_of_length-le}
use lib.Seq.{take_at, take_all}
use borrow.Author.Tests.{eq-eqb, le-leb}
use Rattle.wire.specs.Limits.{most_gates, most_inputs, most_outputs, most_work}
use Rattle.refusal.specs.Answers.{result}
use Rattle.wire.specs.Bytes.{at16, bytes16, Bytes}
use Rattle.contents.specs.Contents.{table_fits, entries_fit, entry_start, entry_length, body_of, contents_bytes}
use Rattle.contents.specs.Arity.{inputs_of, outputs_of, arity_fits}
use Rattle.contents.specs.Steps.{total}
use Rattle.wire.specs.Lists.{tabulate_from, tabulate}
use Rattle.wire.proofs.ByteLaws.{number16, bytes_take, bytes_drop, drop16}
use Rattle.refusal.proofs.CheckLaws.{below_all}
use Rattle.contents.proofs.WrittenLaws.{Whole, table_back, entries_back, length_back, body_back, only_contents}
use Rattle.gate_bytes.specs.GateBytes.{gates_bytes, gate_at, gate_fits}
use Rattle.gate_bytes.proofs.ByteLaws.{gates_length}
use Rattle.gate_bytes.proofs.ReadBackLaws.{gates_fit, gates_only}
use Rattle.circuit.specs.declared.reader.CircuitHead.{CircuitHead}
use Rattle.circuit.specs.Circuits.{Circuit, Legal, line_count, head_of, head_lines}
use Rattle.circuit.specs.Format.{tags, head_length, head_bytes, opening_bytes, circuit_file}
use Rattle.circuit.specs.Reading.{work_of, gates_of, lengths_fit, ranges_fit, head_in, read_head, circuit_of, read_circuit}
use Rattle.circuit.specs.Theorems.{ReadsBack, OnlyWriting, SameBytes}
use Rattle.circuit.proofs.AcceptedLaws.{Accepted, accepted, legal}
use Rattle.circuit.proofs.GateBodyLaws.{gates_count, written_gates}
use Rattle.circuit.proofs.ReadingLaws.{Sized, head_long, gates_long}

-- the lengths of the bodies
abbrev lengths_in : Circuit → List ℕ
lengths_in c = head_length ∷ 8 * length c.gates ∷ []

-- the bodies, one behind the other
abbrev bodies_of : Circuit → List ℕ
bodies_of c = head_bytes (head_of c) ++ gates_bytes c.gates

-- behind the table stand the bodies
file_split : (c : Circuit) → circuit_file c ≡ contents_bytes tags (lengths_in c) ++ bodies_of c
unfolding circuit_file opening_bytes
file_split c = append_assoc (contents_bytes tags (lengths_in c)) (head_bytes (head_of c)) (gates_bytes c.gates)

-- each tag fits its field
tags_small : (i : ℕ) → get_or tags i 0 < 65536
tags_small zero = omega arith
tags_small (suc zero) = omega arith
tags_small (suc (suc i)) = omega arith

module _ (c : Circuit) (l : Legal c) where
  -- every number of the table fits its field, and behind it stand the bodies
  whole : Whole tags (lengths_in c) (bodies_of c)
  unfolding total
  whole =
      let n : length (bodies_of c) ≡ head_length + 8 * length c.gates = omega (arith, gates_length c.gates) in
      record { paired = refl; few = omega arith; tagged = tags_small; small = omega arith; bodies = omega arith }

  -- causes 1 and 2 pass
  file_table : table_fits 2 (circuit_file c) ≡ true
  file_table = rw (file_split c) (table_back whole)

  file_entries : entries_fit tags (circuit_file c) ≡ true
  file_entries = rw (file_split c) (entries_back whole)

  -- the bodies are as long as was written
  pub head_entry : entry_length (circuit_file c) 0 ≡ head_length
  head_entry = rw (file_split c) (length_back whole 0 (omega arith))

  pub gates_entry : entry_length (circuit_file c) 1 ≡ 8 * length c.gates
  gates_entry = rw (file_split c) (length_back whole 1 (omega arith))

  -- and hold what was written
  pub head_body : body_of (circuit_file c) 0 ≡ head_bytes (head_of c)
  unfolding total
  head_body =
      ap (λ (f : List ℕ). body_of f 0) (file_split c)
      ∙ body_back whole 0 (omega arith)
      ∙ take_at (head_bytes (head_of c)) (gates_bytes c.gates) head_length refl

  pub gates_body : body_of (circuit_file c) 1 ≡ gates_bytes c.gates
  unfolding total
  gates_body =
      ap (λ (f : List ℕ). body_of f 1) (file_split c)
      ∙ body_back whole 1 (omega arith)
      ∙ take_all (8 * length c.gates) (gates_bytes c.gates) (omega (arith, gates_length c.gates))

  -- its numbers read back
  inputs_back : inputs_of (circuit_file c) ≡ c.inputs
  inputs_back = ap (λ (b : List ℕ). at16 b 0) head_body ∙ number16 c.inputs (omega arith)

  outputs_back : outputs_of (circuit_file c) ≡ c.outputs
  outputs_back = ap (λ (b : List ℕ). at16 b 2) head_body ∙ number16 c.outputs (omega arith)

  work_back : work_of (circuit_file c) ≡ c.work
  work_back = ap (λ (b : List ℕ). at16 b 4) head_body ∙ number16 c.work (omega arith)

  count_back : gates_of (circuit_file c) ≡ length c.gates
  count_back = omega (arith, gates_entry)

  -- causes 3 and 4 pass
  lengths_back : lengths_fit (circuit_file c) ≡ true
  unfolding lengths_fit
  lengths_back =
      let f : List ℕ = circuit_file c in
      rw (
        eq-eqb (entry_length f 0) head_length head_entry,
        eq-eqb (entry_length f 1 % 8) 0 (omega (arith, gates_entry)),
        le-leb (gates_of f) most_gates (omega (arith, count_back)),
      )

  ranges_back : ranges_fit (circuit_file c) ≡ true
  unfolding ranges_fit arity_fits
  ranges_back =
      let f : List ℕ = circuit_file c in
      rw (
        le-leb (inputs_of f) most_inputs (omega (arith, inputs_back)),
        le-leb 1 (outputs_of f) (omega (arith, outputs_back)),
        le-leb (outputs_of f) most_outputs (omega (arith, outputs_back)),
        le-leb (work_of f) most_work (omega (arith, work_back)),
      )

  -- reading the head of a written circuit gives its numbers
  pub head_back : read_head (circuit_file c) ≡ result (head_of c)
  unfolding read_head head_in
  head_back = rw (file_table, file_entries, lengths_back, ranges_back, inputs_back, outputs_back, work_back, count_back)

-- reading what was written gives it back
pub reads_back : ReadsBack
unfolding read_circuit circuit_of
reads_back c l =
    let few : line_count c ≤ 65536 = omega arith in
    rw (
      head_back c l,
      gates_body c l,
      below_all (gate_fits (line_count c) (gates_bytes c.gates)) (length c.gates) (gates_fit (line_count c) few c.gates l.formed),
      written_gates (line_count c) few c.gates l.formed,
    )

module _ (f : List ℕ) (bytes : Bytes f) (c : Circuit) (a : Accepted f c) where
  abbrev in_order : Sized f
  in_order = a.headed.sized

  -- its circuit is that of its head and its gate body
  abbrev held : Circuit
  held = circuit_of (head_in f) (body_of f 1)

  only_held : c ≡ held
  only_held = a.is ∙ ap (λ (h : CircuitHead). circuit_of h (body_of f 1)) a.headed.is

  counted : length (body_of f 1) / 8 ≡ gates_of f
  counted = omega (arith, gates_long f in_order.laid, in_order.eights)

  held_count : length held.gates ≡ gates_of f
  unfolding circuit_of head_in
  held_count = omega (arith, gates_count (body_of f 1), counted)

  -- a body is bytes
  body_bytes : (i : ℕ) → Bytes (body_of f i)
  body_bytes i = bytes_take (entry_length f i) (drop (entry_start f i) f) (bytes_drop (entry_start f i) f bytes)

  -- the first body is the writing of the head
  only_head : body_of f 0 ≡ head_bytes (head_in f)
  unfolding head_in
  only_head =
      let b : List ℕ = body_of f 0 in
      let six : length b ≡ head_length = head_long f in_order.laid ∙ in_order.head in
      drop16 b (body_bytes 0) 0 (omega arith)
      ∙ ap (λ (s : List ℕ). bytes16 (inputs_of f) ++ s) (drop16 b (body_bytes 0) 2 (omega arith))
      ∙ ap (λ (s : List ℕ). bytes16 (inputs_of f) ++ (bytes16 (outputs_of f) ++ s)) (drop16 b (body_bytes 0) 4 (omega arith))
      ∙ ap (λ (s : List ℕ). bytes16 (inputs_of f) ++ (bytes16 (outputs_of f) ++ (bytes16 (work_of f) ++ s))) (drop_of_length-le b {i = head_length} (omega arith))

  -- the second is the writing of the gates
  only_gates : body_of f 1 ≡ gates_bytes held.gates
  unfolding circuit_of head_in
  only_gates =
      gates_only (head_lines (head_in f)) (body_of f 1) (gates_of f) (body_bytes 1)
      (gates_long f in_order.laid ∙ in_order.eights)
      (subst (λ (h : CircuitHead). (i : ℕ) → i < h.gates → gate_fits (head_lines h) (body_of f 1) i ≡ true) a.headed.is a.gates_fit)
      ∙ ap (λ (k : ℕ). gates_bytes (tabulate (gate_at (body_of f 1)) k)) (sym counted)

  -- the entries give the lengths of its circuit's bodies
  only_lengths : tabulate (entry_length f) 2 ≡ lengths_in held
  unfolding tabulate_from
  only_lengths = ap₂ (λ (h g : ℕ). h ∷ g ∷ []) in_order.head (in_order.eights ∙ ap (λ (k : ℕ). 8 * k) (sym held_count))

  -- the file is the writing of its circuit
  only_file : f ≡ circuit_file held
  unfolding circuit_of head_in flat_map tabulate_from
  only_file =
      only_contents tags f bytes a.headed.table a.headed.entries
      ∙ ap₂ (λ (ls s : List ℕ). contents_bytes tags ls ++ s) only_lengths (ap₂ ◌++◌ only_head (append-nil (body_of f 1) ∙ only_gates))
      ∙ sym (file_split held)

-- an accepted file is the writing of what it gives
pub only_writing : OnlyWriting
only_writing f c bytes e =
    let a : Accepted f c = accepted f c e in
    record { same = only_file f bytes c a ∙ ap circuit_file (sym (only_held f bytes c a)); legal = legal f c a }

-- two accepted files that give the same circuit are the same bytes
pub same_bytes : SameBytes
same_bytes f g c bf bg ef eg = (only_writing f c bf ef).same ∙ sym (only_writing g c bg eg).same
