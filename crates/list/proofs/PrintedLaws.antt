-- Laws of what is printed: it is the listing of what compiling gives, and it fits the buffer. Assumes nothing.
use Prim.Native.Nat.{ℕ, ◌+◌, ◌≤◌}
use native.Mathlib.Omega.{arith}
use mathlib.Core.Path.{◌≡◌, sym, ap, ap₂, ◌∙◌}
use mathlib.Core.List.{List, ◌++◌}
use lib.ListN.{length, drop, length-append}
use lib.Seq.{sets-eq}
use Rattle.io.specs.Counts.{IsPrefixLen}
use Rattle.io.proofs.Counting.{prefix_len_of_le}
use Rattle.std.specs.Prelude.{Result, Ok, Err}
use Rattle.refusal.specs.Answers.{Answer, result, number_of, place_of, map_answer, answer_of}
use Rattle.refusal.proofs.AnswerLaws.{came, came_refused}
use Rattle.gate.specs.declared.gates.Gate.{Gate}
use Rattle.circuit.specs.declared.reader.CircuitHead.{CircuitHead}
use Rattle.circuit.specs.Circuits.{Circuit, head_of, gates_in}
use Rattle.circuit.specs.Format.{file_length, circuit_file}
use Rattle.wire.specs.Areas.{area_after}
use Rattle.circuit.proofs.FormatLaws.{file_length_lem}
use Rattle.refusal.specs.declared.causes.Refusal.{Refusal}
use Rattle.text.specs.Listings.{gate_lines, first_line, listing, longest_listing}
use Rattle.list.specs.Listing.{listing_of}
use Rattle.line.specs.Putting.{Put, TextFits}
use Rattle.line.specs.declared.LineWriter.{LineWriter}
use Rattle.areas.specs.AreaGates.{body_in}
use Rattle.areas.proofs.AreaLaws.{file_gates}
use Rattle.list.specs.Printing.{printed, Listable}
use Rattle.text.proofs.ListingLaws.{LegalResult, listing_most}

-- what the service compile answers and leaves in the area, where compiling gives x
module _ (x : Answer Circuit) (legal : LegalResult x) (area₀ : List ℕ) where
  -- the file stands in the area
  file_there : (c : Circuit) → x ≡ result c → {area : List ℕ} → area ≡ area_after (map_answer circuit_file x) area₀ → area ≡ circuit_file c ++ drop (length (circuit_file c)) area₀
  file_there c was s = s ∙ ap (λ (y : Answer Circuit). area_after (map_answer circuit_file y) area₀) was

  -- what is printed is the listing of x
  pub printed_is : (answer : Result CircuitHead Refusal) (area : List ℕ) → answer_of answer ≡ map_answer head_of x → area ≡ area_after (map_answer circuit_file x) area₀ → printed answer area ≡ listing x
  unfolding printed listing
  printed_is (Ok head) area a s =
      let k = came head_of x head a in
      let c : Circuit = k.from in
      ap₂ (λ (h : CircuitHead) (f : List ℕ). first_line h ++ gate_lines (gates_in (body_in f h.gates))) k.reads (file_there c k.was s)
      ∙ ap (λ (gs : List Gate). first_line (head_of c) ++ gate_lines gs) (file_gates c (legal c k.was) (drop (length (circuit_file c)) area₀))
      ∙ ap listing (sym k.was)
  printed_is (Err why) area a s = ap listing (sym (came_refused head_of x (number_of why) (place_of why) a))

  gates_there : (answer : Result CircuitHead Refusal) (area : List ℕ) → answer_of answer ≡ map_answer head_of x → area ≡ area_after (map_answer circuit_file x) area₀
      → (head : CircuitHead) → answer ≡ Ok head → file_length head.gates ≤ length area
  gates_there answer area a s head e =
      let k = came head_of x head (ap answer_of (sym e) ∙ a) in
      let c : Circuit = k.from in
      omega (
        arith,
        ap (λ (h : CircuitHead). h.gates) k.reads,
        file_length_lem c,
        length-append (circuit_file c) (drop (length (circuit_file c)) area₀),
        ap length (file_there c k.was s),
      )

  -- and it can be put
  pub listable : (answer : Result CircuitHead Refusal) (area : List ℕ) (w : LineWriter) → answer_of answer ≡ map_answer head_of x → area ≡ area_after (map_answer circuit_file x) area₀ → w.end + longest_listing ≤ length w.out.now → Listable answer area w
  listable answer area w a s n =
      record {
        there = gates_there answer area a s;
        fits = record { fits = omega (arith, ap length (printed_is answer area a s), listing_most x legal) };
      }

-- a text put at the start of a buffer stands there, with what stood behind it
pub put_whole : {text : List ℕ} {v w : LineWriter} → v.end ≡ 0 → TextFits text v → Put text v w → (w.end ≡ length text) × (w.out.now ≡ text ++ drop w.end v.out.now)
put_whole {text} {v} {w} e f p =
    (omega (arith, p.ends), rw (p.ends, e) (rw e at p.stored ∙ sets-eq text v.out.now 0 (rw e at f.fits)))

-- the listing of a file, once it is put, ends within the buffer
pub end_within : (file : List ℕ) (grant : ℕ) (old : List ℕ) {r : ℕ} {new : List ℕ} → (r ≡ length (listing_of file grant)) × (new ≡ listing_of file grant ++ drop r old) → IsPrefixLen r new
end_within file grant old {r} {new} w = prefix_len_of_le r new (omega (arith, w.0, simp length-append at (ap length w.1)))
