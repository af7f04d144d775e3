-- Laws of program files: a written program reads back, and an accepted file is the writing of what it gives. Assumes nothing.
use Prim.Native.Nat.{ℕ, zero, suc, ◌+◌, ◌*◌, ◌/◌, ◌%◌, ◌<◌}
use native.Mathlib.Omega.{arith}
use mathlib.Core.Path.{◌≡◌, refl, sym, ap, ap₂, ◌∙◌}
use mathlib.Core.Bool.{true}
use mathlib.Core.List.{List, ◌++◌, append-nil, flat_map}
use lib.ListN.{length, get_or, take, drop, length-append, drop_of_length-le}
use lib.Seq.{take_at, take_all, drop_at, drop-append-add, ext_get_or}
use borrow.Author.Tests.{eq-eqb, le-leb, lt-ltb}
use Rattle.wire.specs.Limits.{most_inputs, most_outputs, most_nodes}
use Rattle.refusal.specs.Answers.{result}
use Rattle.refusal.proofs.AnswerLaws.{same_result}
use Rattle.refusal.proofs.CheckLaws.{below_all}
use Rattle.wire.specs.Bytes.{at16, bytes16, Bytes}
use Rattle.wire.specs.Lists.{tabulate_from, tabulate}
use Rattle.wire.proofs.ByteLaws.{number16, at16_from, bytes_take, bytes_drop, drop16}
use Rattle.wire.proofs.ListLaws.{tabulate_length, tabulate_at, flat_length, flat_drop, flat_only}
use Rattle.contents.specs.Contents.{table_fits, entries_fit, entry_start, entry_length, body_of, contents_bytes}
use Rattle.contents.specs.Steps.{total}
use Rattle.contents.specs.Arity.{inputs_of, outputs_of, arity_fits}
use Rattle.contents.proofs.WrittenLaws.{Whole, table_back, entries_back, length_back, body_back, only_contents}
use Rattle.node.specs.Nodes.{node_at, node_fits}
use Rattle.node.specs.NodeBytes.{nodes_bytes}
use Rattle.node.proofs.WrittenLaws.{nodes_fit, nodes_back, nodes_only}
use Rattle.node.proofs.WrittenLaws as node
use Rattle.program.specs.Programs.{Program, LegalProgram}
use Rattle.program.specs.Format.{tags, body_lengths, arity_bytes, outputs_bytes, program_file}
use Rattle.program.specs.Reading.{nodes_of, lengths_fit, output_at, output_fits, program_of, read_bodies, read_program}
use Rattle.program.specs.Theorems.{ProgramReadsBack, OnlyProgramWriting, SameProgramBytes}
use Rattle.program.proofs.AcceptedLaws.{Accepted, accepted, outputs_length, table_ok, outputs_ok, inputs_is}
use Rattle.program.proofs.AcceptedLaws as accepts
use Rattle.program.proofs.ReadingLaws.{head_long, nodes_long, outputs_long, nodes_counted}

-- the index of each output's node takes two bytes
outputs_bytes_lem : (outputs : List ℕ) → length (outputs_bytes outputs) ≡ 2 * length outputs
outputs_bytes_lem outputs = flat_length 2 bytes16 (λ v. refl) outputs

-- written outputs read back
module _ (outputs : List ℕ) (small : (k : ℕ) → k < length outputs → get_or outputs k 0 < 65536) where
  output_each : (k : ℕ) → k < length outputs → output_at (outputs_bytes outputs) k ≡ get_or outputs k 0
  output_each k h =
      at16_from (outputs_bytes outputs) (2 * k)
      ∙ ap (λ (s : List ℕ). at16 s 0) (flat_drop 2 bytes16 (λ v. refl) outputs k 0 h)
      ∙ number16 (get_or outputs k 0) (small k h)

  outputs_back : tabulate (output_at (outputs_bytes outputs)) (length outputs) ≡ outputs
  outputs_back =
      let make : ℕ → ℕ = output_at (outputs_bytes outputs) in
      let n : length (tabulate make (length outputs)) ≡ length outputs = tabulate_length make (length outputs) in
      ext_get_or 0 (tabulate make (length outputs)) outputs n (λ k h. tabulate_at make (length outputs) k 0 (omega arith) ∙ output_each k (omega arith))

-- each tag fits its field
tags_small : (i : ℕ) → get_or tags i 0 < 65536
tags_small zero = omega arith
tags_small (suc zero) = omega arith
tags_small (suc (suc zero)) = omega arith
tags_small (suc (suc (suc i))) = omega arith

-- the bodies, one behind the other
abbrev bodies_of : Program → List ℕ
bodies_of p = arity_bytes p ++ (nodes_bytes p.nodes ++ outputs_bytes p.outputs)

-- behind the table stand the bodies
file_split : (p : Program) → program_file p ≡ contents_bytes tags (body_lengths p) ++ bodies_of p
unfolding program_file
file_split p = refl

module _ (p : Program) (l : LegalProgram p) where
  abbrev f : List ℕ
  f = program_file p

  -- every number of the table fits its field, and behind it stand the bodies
  whole : Whole tags (body_lengths p) (bodies_of p)
  unfolding total
  whole =
      let n : length (bodies_of p) ≡ 4 + (6 * length p.nodes + 2 * length p.outputs) =
      omega (arith, length-append (nodes_bytes p.nodes) (outputs_bytes p.outputs), node.nodes_length p.nodes, outputs_bytes_lem p.outputs) in
      record { paired = refl; few = omega arith; tagged = tags_small; small = omega arith; bodies = omega arith }

  -- causes 1 and 2 pass
  file_table : table_fits 3 f ≡ true
  file_table = rw (file_split p) (table_back whole)

  file_entries : entries_fit tags f ≡ true
  file_entries = rw (file_split p) (entries_back whole)

  -- the bodies are as long as was written
  first_entry : entry_length f 0 ≡ 4
  first_entry = rw (file_split p) (length_back whole 0 (omega arith))

  nodes_entry : entry_length f 1 ≡ 6 * length p.nodes
  nodes_entry = rw (file_split p) (length_back whole 1 (omega arith))

  outputs_entry : entry_length f 2 ≡ 2 * length p.outputs
  outputs_entry = rw (file_split p) (length_back whole 2 (omega arith))

  -- and hold what was written
  first_body : body_of f 0 ≡ arity_bytes p
  unfolding total
  first_body = ap (λ (g : List ℕ). body_of g 0) (file_split p) ∙ body_back whole 0 (omega arith) ∙ take_at (arity_bytes p) (nodes_bytes p.nodes ++ outputs_bytes p.outputs) 4 refl

  nodes_body : body_of f 1 ≡ nodes_bytes p.nodes
  unfolding total
  nodes_body = ap (λ (g : List ℕ). body_of g 1) (file_split p) ∙ body_back whole 1 (omega arith) ∙ take_at (nodes_bytes p.nodes) (outputs_bytes p.outputs) (6 * length p.nodes) (node.nodes_length p.nodes)

  outputs_body : body_of f 2 ≡ outputs_bytes p.outputs
  unfolding total
  outputs_body =
      let nodes : List ℕ = nodes_bytes p.nodes in
      let outputs : List ℕ = outputs_bytes p.outputs in
      let before : ℕ = 6 * length p.nodes + 0 in
      ap (λ (g : List ℕ). body_of g 2) (file_split p)
      ∙ body_back whole 2 (omega arith)
      ∙ ap (take (2 * length p.outputs)) (drop-append-add (arity_bytes p) (nodes ++ outputs) before ∙ drop_at nodes outputs before (omega (arith, node.nodes_length p.nodes)))
      ∙ take_all (2 * length p.outputs) outputs (omega (arith, outputs_bytes_lem p.outputs))

  -- its numbers read back
  inputs_back : inputs_of f ≡ p.inputs
  inputs_back = ap (λ (b : List ℕ). at16 b 0) first_body ∙ number16 p.inputs (omega arith)

  outputs_number : outputs_of f ≡ length p.outputs
  outputs_number = ap (λ (b : List ℕ). at16 b 2) first_body ∙ number16 (length p.outputs) (omega arith)

  nodes_number : nodes_of f ≡ length p.nodes
  nodes_number = omega (arith, nodes_entry)

  -- causes 3 and 4 pass
  lengths_back : lengths_fit f ≡ true
  unfolding lengths_fit
  lengths_back =
      rw (
        eq-eqb (entry_length f 0) 4 first_entry,
        eq-eqb (entry_length f 1 % 6) 0 (omega (arith, nodes_entry)),
        le-leb 1 (nodes_of f) (omega (arith, nodes_number)),
        le-leb (nodes_of f) most_nodes (omega (arith, nodes_number)),
        eq-eqb (entry_length f 2) (2 * outputs_of f) (omega (arith, outputs_entry, outputs_number)),
      )

  ranges_back : arity_fits (body_of f 0) ≡ true
  unfolding arity_fits
  ranges_back =
      rw (
        le-leb (inputs_of f) most_inputs (omega (arith, inputs_back)),
        le-leb 1 (outputs_of f) (omega (arith, outputs_number)),
        le-leb (outputs_of f) most_outputs (omega (arith, outputs_number)),
      )

  small : (k : ℕ) → k < length p.outputs → get_or p.outputs k 0 < 65536
  small k h = omega (arith, l.named k h)

  -- causes 5 and 6 pass, and the program is read
  bodies_back : read_bodies f ≡ result p
  unfolding read_bodies output_fits program_of
  bodies_back =
      let nodes : List ℕ = nodes_bytes p.nodes in
      let outputs : List ℕ = outputs_bytes p.outputs in
      let count : length nodes / 6 ≡ length p.nodes = omega (arith, node.nodes_length p.nodes) in
      rw (
        inputs_back,
        outputs_number,
        nodes_number,
        nodes_body,
        outputs_body,
        below_all (node_fits p.inputs nodes) (length p.nodes) (nodes_fit p.inputs p.nodes (omega arith) (omega arith) l.ordered),
        below_all (output_fits (length p.nodes) outputs) (length p.outputs) (λ k h. rw (output_each p.outputs small k h) (lt-ltb (get_or p.outputs k 0) (length p.nodes) (l.named k h))),
        count,
        nodes_back p.inputs p.nodes (omega arith) (omega arith) l.ordered,
        outputs_back p.outputs small,
      )

-- reading what was written gives it back
pub reads_back : ProgramReadsBack
unfolding read_program
reads_back p l = rw (file_table p l, file_entries p l, lengths_back p l, ranges_back p l, bodies_back p l)

module _ (f : List ℕ) (bytes : Bytes f) (a : Accepted f) where
  -- a body is bytes
  body_bytes : (i : ℕ) → Bytes (body_of f i)
  body_bytes i = bytes_take (entry_length f i) (drop (entry_start f i) f) (bytes_drop (entry_start f i) f bytes)

  abbrev held : Program
  held = program_of f

  -- the first body is the writing of the numbers of inputs and outputs
  only_first : body_of f 0 ≡ arity_bytes held
  unfolding program_of
  only_first =
      let b : List ℕ = body_of f 0 in
      let four : length b ≡ 4 = head_long f a.sized.laid ∙ a.sized.four in
      drop16 b (body_bytes 0) 0 (omega arith)
      ∙ ap (λ (s : List ℕ). bytes16 (inputs_of f) ++ s) (drop16 b (body_bytes 0) 2 (omega arith))
      ∙ ap (λ (s : List ℕ). bytes16 (inputs_of f) ++ (bytes16 (outputs_of f) ++ s)) (drop_of_length-le b {i = 4} (omega arith))
      ∙ ap (λ (m : ℕ). bytes16 (inputs_of f) ++ bytes16 m) (sym (outputs_length f a))

  -- the second is the writing of the nodes
  only_nodes : body_of f 1 ≡ nodes_bytes held.nodes
  unfolding program_of
  only_nodes =
      nodes_only (inputs_of f) (body_of f 1) (body_bytes 1) (nodes_of f) (nodes_long f a.sized.laid ∙ a.sized.sixes) a.nodes_fit
      ∙ ap (λ (k : ℕ). nodes_bytes (tabulate (node_at (body_of f 1)) k)) (sym (nodes_counted f a.sized))

  -- the third is the writing of the outputs
  only_outputs : body_of f 2 ≡ outputs_bytes held.outputs
  unfolding program_of
  only_outputs =
      let b : List ℕ = body_of f 2 in
      let twos : length b ≡ 2 * outputs_of f = outputs_long f a.sized.laid ∙ a.sized.twos in
      flat_only 2 bytes16 (λ v. refl) (output_at b) b (outputs_of f) twos (λ k h. drop16 b (body_bytes 2) (2 * k) (omega arith))

  -- the entries give the lengths of its program's bodies
  only_lengths : tabulate (entry_length f) 3 ≡ body_lengths held
  unfolding tabulate_from
  only_lengths =
      rw (a.sized.four, a.sized.sixes, a.sized.twos, accepts.nodes_length f a, outputs_length f a) refl

  -- the file is the writing of its program
  only_file : f ≡ program_file held
  unfolding flat_map tabulate_from
  only_file =
      only_contents tags f bytes a.table a.entries
      ∙ ap₂ (λ (ls s : List ℕ). contents_bytes tags ls ++ s) only_lengths
      (ap₂ ◌++◌ only_first (ap₂ ◌++◌ only_nodes (append-nil (body_of f 2) ∙ only_outputs)))
      ∙ sym (file_split held)

  -- and the program is legal
  held_legal : LegalProgram held
  held_legal =
      record {
        inputs_most = omega (arith, inputs_is f a, a.inputs_most);
        outputs_some = omega (arith, outputs_length f a, a.outputs_some);
        outputs_most = omega (arith, outputs_length f a, a.outputs_most);
        nodes_some = omega (arith, accepts.nodes_length f a, a.sized.some);
        nodes_most = omega (arith, accepts.nodes_length f a, a.sized.most);
        ordered = rw (inputs_is f a) (table_ok f a);
        named = outputs_ok f a;
      }

-- an accepted file is the writing of what it gives
pub only_writing : OnlyProgramWriting
only_writing f p bytes e =
    let a : Accepted f = accepted f p e in
    let same : p ≡ program_of f = same_result p (program_of f) (sym e ∙ a.is) in
    rw same (record { same = only_file f bytes a; legal = held_legal f bytes a })

-- two accepted files that give the same program are the same bytes
pub same_bytes : SameProgramBytes
same_bytes f g p bf bg ef eg = (only_writing f p bf ef).same ∙ sym (only_writing g p bg eg).same
