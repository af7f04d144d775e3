-- Laws of listing what the service compile answers with the size list and the area that are lent to it. Assumes nothing.
use Prim.Native.Nat.{ℕ, ◌+◌, ◌≤◌}
use mathlib.Core.Path.{◌≡◌, sym, ap, ◌∙◌}
use mathlib.Core.List.{List, ◌++◌}
use lib.ListN.{length, drop}
use Rattle.wire.specs.Limits.{most_gates, most_nodes}
use Rattle.std.specs.Prelude.{Result}
use Rattle.refusal.specs.Answers.{Answer, map_answer, answer_of}
use Rattle.refusal.proofs.AnswerLaws.{same_result}
use Rattle.circuit.specs.declared.reader.CircuitHead.{CircuitHead}
use Rattle.circuit.specs.Circuits.{Circuit, head_of}
use Rattle.circuit.specs.Format.{file_length}
use Rattle.refusal.specs.declared.causes.Refusal.{Refusal}
use Rattle.compilation.specs.Compiling.{compile_file, compile_of}
use Rattle.compilation.proofs.AcceptedLaws.{Accepted, accepted, legal}
use Rattle.text.specs.Listings.{longest_listing}
use Rattle.list.specs.Listing.{listing_of}
use Rattle.line.specs.Putting.{Put}
use Rattle.line.specs.declared.LineWriter.{LineWriter}
use Rattle.list.specs.Printing.{printed, Listable}
use Rattle.text.proofs.ListingLaws.{LegalResult}
use Rattle.list.proofs.PrintedLaws.{printed_is, listable, put_whole}

module _ (f : List ℕ) (grant : ℕ) (sizes area₀ : List ℕ) where
  -- what compiling gives
  abbrev x : Answer Circuit
  x = compile_file f grant (length sizes) (length area₀)

  -- the circuit of an accepted file is one that a file can hold
  legal_result : LegalResult x
  unfolding compile_of
  legal_result c e =
      let a : Accepted f grant sizes area₀ (head_of c) = accepted f grant sizes area₀ (head_of c) (ap (map_answer head_of) e) in
      rw (same_result c _ (sym e ∙ a.is)) (legal f grant sizes area₀ (head_of c) a)

  module _ (answer : Result CircuitHead Refusal) (area : List ℕ) (w : LineWriter)
      (a : answer_of answer ≡ (compile_of f grant sizes area₀).answer)
      (s : area ≡ (compile_of f grant sizes area₀).area)
      (n : w.end + longest_listing ≤ length w.out.now) where
    -- the listing can be put
    pub can_list : Listable answer area w
    unfolding compile_of
    can_list = listable x legal_result area₀ answer area w a s n

    -- and once it is put at the start it is that of the file
    pub lists : length sizes ≡ most_nodes → length area₀ ≡ file_length most_gates → w.end ≡ 0 → {new : LineWriter} → Put (printed answer area) w new
        → (new.end ≡ length (listing_of f grant)) × (new.out.now ≡ listing_of f grant ++ drop new.end w.out.now)
    unfolding compile_of
    lists e k z p = rw (printed_is x legal_result area₀ answer area a s, e, k) at (put_whole z can_list.fits p)
