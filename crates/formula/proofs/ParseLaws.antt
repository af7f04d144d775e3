-- The answers of the service, and the area at exit. Assumes nothing.
use Prim.Native.Nat.{ℕ, ◌*◌, ◌/◌, ◌≤◌, ◌<◌}
use native.Mathlib.Omega.{arith}
use mathlib.Core.Path.{◌≡◌, refl, sym, ap, ap₂, ◌∙◌}
use mathlib.Core.Bool.{Bool, true, false}
use mathlib.Core.List.{List}
use lib.ListN.{length, take}
use lib.Seq.{length-take-le}
use lib.Dec.{leb}
use borrow.Author.Tests.{le-leb, lt-leb}
use Rattle.std.specs.Prelude.{Ok, Err}
use Rattle.refusal.specs.Answers.{Answer, result, refuse, check, map_answer, number_of, place_of}
use Rattle.refusal.specs.declared.causes.Refusal.{Refusal}
use Rattle.refusal.specs.declared.causes.Refusal.TheVariants as cause
use Rattle.refusal.proofs.AnswerLaws.{mapped_twice}
use Rattle.wire.specs.Limits.{most_inputs, most_nodes, most_text}
use Rattle.wire.specs.Areas.{area_after}
use Rattle.wire.proofs.AreaLaws.{area_kept}
use Rattle.node.specs.NodeBytes.{nodes_bytes}
use Rattle.node.proofs.WrittenLaws.{nodes_length}
use Rattle.program.specs.Format.{program_file}
use Rattle.grammar.specs.FormulaNodes.{sum_nodes, formula_program}
use Rattle.grammar.proofs.CountLaws.{sum_nodes_lem, some_sum}
use Rattle.automaton.specs.Automaton.{read_text}
use Rattle.automaton.proofs.AnswerLaws.{read_rest_lem, reader_room}
use Rattle.parsing.specs.Parsing.{parse_text, parse_of}
use Rattle.program_writer.specs.OneOutput.{body_file, body_file_length, FewNodes}
use Rattle.program_writer.proofs.BodyFileLaws.{body_file_length_lem}
use Rattle.formula.specs.Steps.{WholeEnd, WholeRead, delivery}
use Rattle.formula.proofs.DeliveryLaws.{nodes_stored, body_file_is}

module _ (text : List ℕ) (n : ℕ) (area : List ℕ) where
  -- the answer a and the area at exit are those of the service's definition
  pub record Outcome (a : Answer ℕ) (after : List ℕ) : Type 0 where
    pub answer : a ≡ (parse_of text n area).answer
    pub area_is : after ≡ (parse_of text n area).area

  -- a refusal of the reader leaves the area as it was
  outcome_refused : (why : Refusal) → read_text n text ≡ refuse why → Outcome (refuse why) area
  unfolding parse_of parse_text
  outcome_refused why e =
      record { answer = rw e refl; area_is = rw e (sym (area_kept (number_of why) (place_of why) area (reader_room n text (number_of why) (place_of why) e))) }

  pub text_long : most_text < length text → Outcome (refuse cause.TextLength) area
  unfolding read_text
  text_long h = outcome_refused cause.TextLength (rw (lt-leb (length text) most_text h) refl)

  module _ (short : length text ≤ most_text) where
    pub inputs_many : most_inputs < n → Outcome (refuse cause.Range) area
    unfolding read_text
    inputs_many h = outcome_refused cause.Range (rw (le-leb (length text) most_text short, lt-leb n most_inputs h) refl)

    module _ (few : n ≤ most_inputs) (old new : List ℕ) where
      pub text_bad : (why : Refusal) → WholeRead n text old new (Err why) → Outcome (refuse why) area
      unfolding WholeRead
      text_bad why h = outcome_refused why (read_rest_lem n text short few ∙ h)

      module _ (made : ℕ) (h : WholeRead n text old new (Ok made)) where
        whole : WholeEnd n text old new made
        unfolding WholeRead
        whole = h

        reads : read_text n text ≡ result whole.tree
        reads = read_rest_lem n text short few ∙ whole.reads

        pub made_few : made ≤ most_nodes
        made_few = whole.few

        -- the part of the nodes that is delivered
        pub body_long : 6 * made ≤ length new → length (take (6 * made) new) ≡ 6 * made
        body_long room = length-take-le (6 * made) new room

        pub body_few : 6 * made ≤ length new → FewNodes n (length (take (6 * made) new))
        body_few room = record { inputs = few; some = omega (arith, body_long room, some_sum whole.tree, whole.count); most = omega (arith, body_long room, made_few) }

        -- what is delivered is the file of the program that parsing gives, or the same refusal
        same_delivery : 6 * made ≤ length old → delivery n (take (6 * made) new) (length area) ≡ map_answer program_file (parse_text text n (length area))
        unfolding delivery parse_text
        same_delivery room =
            let body : List ℕ = nodes_bytes (sum_nodes whole.tree 0) in
            let count : length (sum_nodes whole.tree 0) ≡ made = sum_nodes_lem whole.tree 0 ∙ sym whole.count in
            let long : length body ≡ 6 * made = nodes_length (sum_nodes whole.tree 0) ∙ ap (λ (k : ℕ). 6 * k) count in
            let few : length body / 6 ≡ length (sum_nodes whole.tree 0) = omega (arith, long, count) in
            let file_long : body_file_length (length body) ≡ length (program_file (formula_program n whole.tree)) =
            sym (body_file_length_lem n body) ∙ ap length (body_file_is n whole.tree) in
            ap (λ (b : List ℕ). delivery n b (length area)) (nodes_stored whole.tree made old whole.count room whole.written)
            ∙ ap₂ (λ (k j : ℕ). check (leb k (length area)) (cause.Room j) (result (body_file n body))) file_long few
            ∙ ap (λ (f : List ℕ). check (leb (length (program_file (formula_program n whole.tree))) (length area)) (cause.Room (length (sum_nodes whole.tree 0))) (result f)) (body_file_is n whole.tree)
            ∙ rw reads (checked_file (leb (length (program_file (formula_program n whole.tree))) (length area)))
          where
            checked_file : (test : Bool) → check test (cause.Room (length (sum_nodes whole.tree 0))) (result (program_file (formula_program n whole.tree)))
                ≡ map_answer program_file (check test (cause.Room (length (sum_nodes whole.tree 0))) (result (formula_program n whole.tree)))
            checked_file true = refl
            checked_file false = refl

        pub text_read : 6 * made ≤ length old → {a : Answer ℕ} {after : List ℕ} → a ≡ map_answer length (delivery n (take (6 * made) new) (length area)) → after ≡ area_after (delivery n (take (6 * made) new) (length area)) area → Outcome a after
        unfolding parse_of
        text_read room answer left =
            record {
              answer = answer ∙ ap (map_answer length) (same_delivery room) ∙ mapped_twice program_file length (parse_text text n (length area));
              area_is = left ∙ ap (λ (x : Answer (List ℕ)). area_after x area) (same_delivery room);
            }
