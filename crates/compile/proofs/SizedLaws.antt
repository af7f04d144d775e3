-- Laws of compiling a program whose sizes are listed: the answer and the area at exit, case by case. Assumes nothing.
use Prim.Native.Nat.{ℕ, ◌/◌, ◌<◌, ◌≤◌}
use native.Mathlib.Omega.{arith}
use mathlib.Core.Path.{◌≡◌, refl, sym, ap, ap₂, ◌∙◌}
use mathlib.Core.Bool.{true, false, ◌&&◌}
use mathlib.Core.List.{List, ◌++◌}
use lib.ListN.{length, get_or, replicate, length-append}
use lib.Dec.{leb, eqb}
use lib.Seq.{sets}
use borrow.Author.Tests.{eqb-false, leb-true, leb-false}
use Rattle.wire.specs.Limits.{most_gates, most_size, most_work}
use Rattle.std.specs.Prelude.{Result, Ok, Err}
use Rattle.refusal.specs.Answers.{Answer, result, refuse, check, checked_each, answer_of}
use Rattle.refusal.specs.declared.causes.Refusal.{Refusal}
use Rattle.refusal.proofs.AnswerLaws.{each_test, failed, same_refusal}
use Rattle.refusal.specs.Checks.{lowest}
use Rattle.contents.specs.Contents.{body_of}
use Rattle.contents.specs.Arity.{inputs_of}
use Rattle.refusal.specs.declared.causes.Refusal.TheVariants as cause
use Rattle.refusal.proofs.CheckLaws.{by_test, both_first, both_second, lowest_same, all_below_lem}
use Rattle.circuit.specs.declared.reader.CircuitHead.{CircuitHead}
use Rattle.circuit.specs.Circuits.{Circuit, head_of, InRange}
use Rattle.circuit.specs.Format.{file_length, opening_bytes}
use Rattle.areas.specs.AreaGates.{put_gates}
use Rattle.areas.proofs.OutcomeLaws.{Outcome, outcome_refused, outcome_room, outcome_written}
use Rattle.gate.specs.declared.gates.Gate.{Gate}
use Rattle.node.specs.declared.nodes.Node.{Node}
use Rattle.program.specs.declared.reader.Head.{Head}
use Rattle.node.specs.Exprs.{Expr, ZERO, size}
use Rattle.node.specs.Nodes.{nodes_in}
use Rattle.program.specs.Programs.{Program, output_tree}
use Rattle.program.specs.Reading.{output_at, program_of}
use Rattle.node.specs.Trees.{trees}
use Rattle.program.proofs.AcceptedLaws.{Accepted, accepted, inputs_is, nodes_length, outputs_length, same_nodes}
use Rattle.program.proofs.ReadingLaws.{nodes_counted}
use Rattle.construction.specs.Construction.{circuit_gates}
use Rattle.construction.specs.Counting.{gates_shown}
use Rattle.construction.proofs.CountLaws.{shown_within, shown_over}
use Rattle.counting.specs.declared.Needs.{Needs}
use Rattle.counting.specs.Counters.{AllCountable, Needed}
use Rattle.program.specs.Tables.{trees_in}
use Rattle.compilation.specs.Compiling.{program_circuit, compile_program}
use Rattle.compile.specs.Steps.{Listed}
use Rattle.shares.specs.Sharing.{CircuitRoom}
use Rattle.sizing.specs.Sizing.{node_sizes}
use Rattle.sizing.specs.Steps.{entry_fits}
use Rattle.program.proofs.BodyLaws.{body_outputs, names_node, named_tree}
use Rattle.compile.proofs.BodyLaws.{trees_same, countable, lines_counted, gates_counted, fitting}
use Rattle.compilation.proofs.ProgramLaws.{size_fits, AllSmall, too_large, grant_large, lines_short, gates_many, area_short, fits}
use Rattle.sizing.proofs.SizeLaws.{sizes_length, sizes_lowest}

-- the answer a and the area at exit are those of compiling the program
abbrev pub Compiles : Program → ℕ → List ℕ → Answer CircuitHead → List ℕ → Type 0
Compiles p grant area a after = Outcome (compile_program p grant (length area)) area a after

-- a program file that was read, with its sizes listed
module _ {f : List ℕ} {h : Head} {sizes : List ℕ} (l : Listed f h sizes) where
  pub accepts : Accepted f
  accepts = accepted f (program_of f) l.reads

  inputs_are : h.inputs ≡ inputs_of f
  inputs_are = ap (λ (t : Head). t.inputs) l.numbers ∙ inputs_is f accepts

  outputs_are : h.outputs ≡ length (program_of f).outputs
  outputs_are = ap (λ (t : Head). t.outputs) l.numbers

  -- every output names an entry of the size list
  pub named : (k : ℕ) → k < length (body_of f 2) / 2 → output_at (body_of f 2) k < length sizes
  named k q =
      omega (
        arith,
        names_node f accepts k q,
        nodes_counted f accepts.sized,
        nodes_length f accepts,
        sizes_length (program_of f).nodes,
        length-append (node_sizes (program_of f).nodes) l.later,
        ap length l.listed,
      )

  -- the first output whose entry is too large is the first that is too large
  lowest_is : lowest (entry_fits sizes (body_of f 2)) (length (body_of f 2) / 2) ≡ lowest (size_fits (program_of f)) (length (program_of f).outputs)
  lowest_is =
      let bodies : ℕ = length (body_of f 2) / 2 in
      ap (λ (s : List ℕ). lowest (entry_fits s (body_of f 2)) bodies) (l.listed ∙ ap (λ (ns : List Node). node_sizes ns ++ l.later) (sym (same_nodes f accepts)))
      ∙ sizes_lowest (body_of f 1) (body_of f 2) l.later bodies (names_node f accepts)
      ∙ lowest_same (λ (j : ℕ). leb (size (get_or (trees (nodes_in (body_of f 1))) (output_at (body_of f 2) j) ZERO)) most_size) (size_fits (program_of f)) bodies (λ k q. ap (λ (t : Expr). leb (size t) most_size) (named_tree f accepts k q))
      ∙ ap (lowest (size_fits (program_of f))) (body_outputs f accepts)

  -- its sizes were checked
  module _ (grant : ℕ) (area : List ℕ) {bs ns : List ℕ} (nodes : ns ≡ body_of f 1) (outputs : bs ≡ body_of f 2)
      (r : Result (Unit {0}) Refusal) (e : answer_of r ≡ checked_each (entry_fits sizes bs) (length bs / 2) cause.Size) where
    check_is : answer_of r ≡ checked_each (size_fits (program_of f)) (length (program_of f).outputs) cause.Size
    check_is =
        (rw outputs at e)
        ∙ ap₂ (λ (l m : ℕ). check (eqb l m) (cause.Size l) (result tt)) lowest_is (body_outputs f accepts)

    pub size_refused : {why : Refusal} → r ≡ Err why → Compiles (program_of f) grant area (refuse why) area
    size_refused {why} g =
        let said : refuse why ≡ checked_each (size_fits (program_of f)) (length (program_of f).outputs) cause.Size = sym (ap answer_of g) ∙ check_is in
        let large = failed tt _ (cause.Size _) _ _ (sym said) in
        rw (← same_refusal {A = CircuitHead} (cause.Size _) why (simp large at said)) (outcome_refused area 8 _ (omega arith) (too_large (program_of f) grant (length area) (eqb-false _ _ large)))

    module _ (passed : r ≡ Ok tt) where
      small : AllSmall (program_of f)
      small k h = leb-true (size (output_tree (program_of f) k)) most_size (all_below_lem (size_fits (program_of f)) (length (program_of f).outputs) (each_test (size_fits (program_of f)) _ cause.Size check_is passed) k h)

      pub shares_countable : AllCountable ns bs
      shares_countable = rw (nodes, outputs) (countable f accepts small)

      pub grant_refused : most_work < grant → Compiles (program_of f) grant area (refuse cause.Grant) area
      grant_refused q = outcome_refused area 9 0 (omega arith) (grant_large (program_of f) grant (length area) small q)

      module _ (allowed : grant ≤ most_work) {needs : Needs} (counted : Needed (trees_in ns bs) needs) where
        n : Needed (trees_in (body_of f 1) (body_of f 2)) needs
        n = rw (nodes, outputs) at counted

        abbrev c : Circuit
        c = program_circuit (program_of f)

        pub lines_refused : grant < needs.lines → Compiles (program_of f) grant area (refuse (cause.WorkLines needs.lines)) area
        lines_refused q =
            let w : needs.lines ≡ c.work = lines_counted f accepts n in
            outcome_refused area 10 needs.lines (omega arith)
            (lines_short (program_of f) grant (length area) small allowed (omega arith) ∙ ap (λ (k : ℕ). refuse (cause.WorkLines k)) (sym w))

        module _ (enough : needs.lines ≤ grant) where
          work_granted : c.work ≤ grant
          work_granted = omega (arith, lines_counted f accepts n)

          -- there is no room for the gates that are shown, so there is none for the gates
          no_room : (leb needs.gates most_gates && leb (file_length needs.gates) (length area)) ≡ false
              → compile_program (program_of f) grant (length area) ≡ refuse (cause.Room (gates_shown (length c.gates)))
          no_room q =
              let shown : needs.gates ≡ gates_shown (length c.gates) = gates_counted f accepts n in
              by_test (leb needs.gates most_gates)
              (λ few.
              let is : gates_shown (length c.gates) ≡ length c.gates = shown_within (length c.gates) (omega (arith, shown, leb-true needs.gates most_gates few)) in
              let short : leb (file_length needs.gates) (length area) ≡ false = sym (rw few refl) ∙ q in
              area_short (program_of f) grant (length area) small allowed work_granted (omega (arith, shown, is, leb-false (file_length needs.gates) (length area) short)))
              (λ many. gates_many (program_of f) grant (length area) small allowed work_granted (shown_over (length c.gates) (omega (arith, shown, leb-false needs.gates most_gates many))))

          pub room_refused : (leb needs.gates most_gates && leb (file_length needs.gates) (length area)) ≡ false
              → Compiles (program_of f) grant area (refuse (cause.Room needs.gates)) (replicate (length area) 0)
          room_refused q =
              outcome_room area needs.gates
              (no_room q ∙ ap (λ (k : ℕ). refuse (cause.Room k)) (sym (gates_counted f accepts n)))

          module _ (q : (leb needs.gates most_gates && leb (file_length needs.gates) (length area)) ≡ true) where
            pub few_gates : needs.gates ≤ most_gates
            few_gates = leb-true needs.gates most_gates (both_first (leb needs.gates most_gates) (leb (file_length needs.gates) (length area)) q)

            gates_are : needs.gates ≡ length c.gates
            gates_are = gates_counted f accepts n ∙ shown_within (length c.gates) (omega (arith, gates_counted f accepts n, few_gates))

            room : file_length (length c.gates) ≤ length area
            room = omega (arith, gates_are, leb-true (file_length needs.gates) (length area) (both_second (leb needs.gates most_gates) (leb (file_length needs.gates) (length area)) q))

            -- the gates fit under any head with these inputs whose numbers are in range
            pub head_fits : (w g : ℕ) → w ≤ most_work → g ≤ most_gates → InRange (record { inputs = h.inputs; outputs = h.outputs; work = w; gates = g }) × CircuitRoom ns bs h.inputs area
            head_fits w g few-lines few =
                rw (nodes, outputs)
                (fitting f accepts _ area inputs_are (omega (arith, outputs_are, outputs_length f accepts, accepts.outputs_some)) (omega (arith, outputs_are, outputs_length f accepts, accepts.outputs_most)) few-lines few (omega (arith, work_granted)) (omega (arith, gates_are, few_gates)) room)

            head_is : ◌≡◌ {A = CircuitHead} (record { inputs = h.inputs; outputs = h.outputs; work = needs.lines; gates = needs.gates }) (head_of c)
            unfolding program_circuit
            head_is =
                ap₂ (λ (x : Head) (y : Needs). record { inputs = x.inputs; outputs = x.outputs; work = y.lines; gates = y.gates }) l.numbers
                (ap₂ (λ (g w : ℕ). record { gates = g; lines = w }) gates_are (lines_counted f accepts n))

            pub circuit_written : {after : List ℕ}
                → after ≡ put_gates (sets area 0 (opening_bytes (record { inputs = h.inputs; outputs = h.outputs; work = needs.lines; gates = needs.gates }))) 0 (circuit_gates h.inputs (trees_in ns bs))
                → Compiles (program_of f) grant area (result (record { inputs = h.inputs; outputs = h.outputs; work = needs.lines; gates = needs.gates })) after
            unfolding program_circuit
            circuit_written {after} w =
                let gates : circuit_gates h.inputs (trees_in ns bs) ≡ c.gates = rw (nodes, outputs) (ap₂ circuit_gates (ap (λ (t : Head). t.inputs) l.numbers) (trees_same f accepts)) in
                let o = outcome_written area c (fits (program_of f) grant (length area) small allowed work_granted (omega (arith, gates_are, few_gates)) room) room refl (w ∙ ap₂ (λ (t : CircuitHead) (gs : List Gate). put_gates (sets area 0 (opening_bytes t)) 0 gs) head_is gates) in
                record { answer = ap result head_is ∙ o.answer; area_is = o.area_is }
