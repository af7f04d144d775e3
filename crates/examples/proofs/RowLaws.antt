-- Laws of the rows: what compiling a program file gives and leaves, once the program read is known. Assumes nothing.
use Prim.Native.Nat.{ℕ, ◌<◌, ◌≤◌}
use Prim.Native.String.{String}
use native.Mathlib.Omega.{arith}
use mathlib.Core.Path.{◌≡◌, refl, sym, ap, ◌∙◌}
use mathlib.Core.List.{List, ◌++◌}
use lib.ListN.{length, drop, replicate}
use borrow.Author.Tests.{le-leb}
use Rattle.wire.specs.Ascii.{ascii}
use Rattle.wire.specs.Limits.{most_gates, most_nodes, most_work}
use Rattle.refusal.specs.Answers.{Answer, result, refused, refuse, map_answer}
use Rattle.refusal.specs.Checks.{lowest}
use Rattle.refusal.specs.declared.causes.Refusal.TheVariants as cause
use Rattle.circuit.specs.Circuits.{Circuit, head_of}
use Rattle.circuit.specs.Format.{circuit_file, file_length}
use Rattle.wire.specs.Areas.{area_after}
use Rattle.circuit.proofs.FormatLaws.{file_length_lem}
use Rattle.program.specs.Programs.{Program}
use Rattle.program.specs.Format.{program_file}
use Rattle.program.specs.Reading.{program_of, read_program}
use Rattle.program.proofs.AcceptedLaws as program
use Rattle.construction.specs.Counting.{gates_shown}
use Rattle.sizing.specs.Sizing.{node_sizes}
use Rattle.compilation.specs.Compiling.{program_circuit, compile_program, read_with_sizes, compile_file, Compiling, compile_of}
use Rattle.compilation.specs.Demand.{file_written}
use Rattle.compilation.proofs.AcceptedLaws as compile
use Rattle.compile.proofs.CompileLaws.{sized}
use Rattle.compilation.proofs.ProgramLaws.{size_fits, all_small, lines_short, area_short, fits}
use Rattle.text.specs.Listings.{listing}
use Rattle.list.specs.Listing.{listing_of}
use Rattle.examples.specs.Examples.{CompiledCase}

-- a file that reads as a program whose outputs are small enough and whose gates are few enough
pub record Known (f : List ℕ) : Type 0 where
  pub reads : read_program f ≡ result (program_of f)
  pub small : lowest (size_fits (program_of f)) (length (program_of f).outputs) ≡ length (program_of f).outputs
  pub few : length (program_circuit (program_of f)).gates ≤ most_gates

module _ {f : List ℕ} (k : Known f) where
  abbrev p : Program
  p = program_of f

  abbrev c : Circuit
  c = program_circuit p

  compiled : (grant room : ℕ) → c.work ≤ grant → grant ≤ most_work → length (circuit_file c) ≤ room → compile_program p grant room ≡ result c
  compiled grant room enough allowed r = fits p grant room (all_small p k.small) allowed enough k.few (omega (arith, file_length_lem c))

  module _ (grant : ℕ) (sizes area : List ℕ) where
    -- what is left with the answer x, once the sizes are listed
    abbrev pub Left : Answer Circuit → Type 0
    Left x = compile_of f grant sizes area ≡ record { answer = map_answer head_of x; sizes = node_sizes p.nodes ++ drop (length p.nodes) sizes; area = area_after (map_answer circuit_file x) area }

    left : (x : Answer Circuit) → length p.nodes ≤ length sizes → compile_program p grant (length area) ≡ x → Left x
    left x listed e =
        let o = sized f grant sizes area (record { accepts = program.accepted f p k.reads; head = refl }) listed in
        rw (← e) (sym (λ i. record { answer = o.answer i; sizes = o.sizes_are i; area = o.area_is i }))

    -- too few work lines are granted
    pub lines_refused : grant < c.work → grant ≤ most_work → length p.nodes ≤ length sizes → Left (refuse (cause.WorkLines c.work))
    lines_refused few allowed listed = left (refuse (cause.WorkLines c.work)) listed (lines_short p grant (length area) (all_small p k.small) allowed few)

    -- the area has n bytes, and the file more
    pub area_refused : (n : ℕ) → n < length (circuit_file c) → c.work ≤ grant → grant ≤ most_work → length p.nodes ≤ length sizes → length area ≡ n
        → compile_of f grant sizes area ≡ record { answer = refused 11 (gates_shown (length c.gates)); sizes = node_sizes p.nodes ++ drop (length p.nodes) sizes; area = replicate n 0 }
    area_refused n short enough allowed listed e =
        let refuses = area_short p grant (length area) (all_small p k.small) allowed enough (omega (arith, file_length_lem c)) in
        rw (← e) (left (refuse (cause.Room (gates_shown (length c.gates)))) listed refuses)

    -- the file is written, and what is behind it stays
    accepted : c.work ≤ grant → grant ≤ most_work → length p.nodes ≤ length sizes → length (circuit_file c) ≤ length area → Left (result c)
    accepted enough allowed listed room = left (result c) listed (compiled grant (length area) enough allowed room)

    pub written : c.work ≤ grant → grant ≤ most_work → length p.nodes ≤ length sizes → length (circuit_file c) ≤ length area
        → file_written (head_of c) (compile_of f grant sizes area).area ≡ circuit_file c
    written enough allowed listed room =
        let is : (compile_of f grant sizes area).answer ≡ result (head_of c) = ap (λ (x : Compiling). x.answer) (accepted enough allowed listed room) in
        compile.written f grant sizes area (head_of c) (compile.accepted f grant sizes area (head_of c) is)

  -- the text of a grant that is too small
  pub lists_refused : (grant : ℕ) → grant < c.work → grant ≤ most_work → length p.nodes ≤ most_nodes → listing_of f grant ≡ listing (refuse (cause.WorkLines c.work))
  unfolding compile_file read_with_sizes
  lists_refused grant few allowed listed =
      ap listing (rw (k.reads, le-leb (length p.nodes) most_nodes listed) (lines_short p grant (file_length most_gates) (all_small p k.small) allowed few))

  -- the row of a file that the listing accepts, and lists as text
  pub row : (text : String) → c.work ≤ most_work → length p.nodes ≤ most_nodes → length (circuit_file c) ≤ (file_length most_gates) → listing (result c) ≡ ascii text → program_file p ≡ f
      → CompiledCase f p (node_sizes p.nodes) c text
  unfolding compile_file read_with_sizes
  row text enough listed room lists writes =
      record {
        bytes = record { writes = writes; reads = k.reads };
        compiles = accepted;
        prints = ap listing (rw (k.reads, le-leb (length p.nodes) most_nodes listed) (compiled most_work (file_length most_gates) enough (omega arith) room)) ∙ lists;
      }
