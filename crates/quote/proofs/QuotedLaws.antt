-- Laws of the service: what its steps ask for holds, and what they leave is what its definition says. Assumes nothing.
use Prim.Native.Nat.{ℕ, ◌+◌, ◌*◌, ◌/◌, ◌<◌, ◌≤◌}
use native.Mathlib.Omega.{arith}
use mathlib.Core.Path.{◌≡◌, sym, ap, ◌∙◌}
use mathlib.Core.List.{List, ◌++◌, flat_map}
use lib.ListN.{length, get_or, take, drop, replicate, length-append}
use lib.Seq.{drop_at, length-take-le}
use Rattle.refusal.specs.Answers.{result, refuse}
use Rattle.refusal.specs.declared.causes.Refusal.TheVariants as cause
use Rattle.wire.specs.Lists.{tabulate}
use Rattle.wire.proofs.ListLaws.{flat_length, flat_same}
use Rattle.contents.specs.Contents.{body_of}
use Rattle.node.specs.Exprs.{ZERO, InputsBelow}
use Rattle.node.specs.Nodes.{nodes_in}
use Rattle.node.specs.Trees.{trees}
use Rattle.node.proofs.TreeLaws.{trees_count}
use Rattle.program.specs.declared.reader.Head.{Head}
use Rattle.program.specs.Programs.{output_tree}
use Rattle.program.specs.Reading.{output_at, program_of}
use Rattle.program.proofs.AcceptedLaws.{Read, inputs_is, inputs_below}
use Rattle.program.proofs.BodyLaws.{body_nodes, body_outputs, names_node, named_tree, head_outputs, head_nodes}
use Rattle.entry.specs.Entries.{entry_of}
use Rattle.entry.proofs.EntryLaws.{small}
use Rattle.entries.specs.CountList.{tree_numbers, node_numbers}
use Rattle.entries.proofs.CountListLaws.{eight, listed_fits, listed_at}
use Rattle.quotation.specs.Quoting.{output_share, share_quote, quotes}
use Rattle.quotation.proofs.QuoteLaws as theory
use Rattle.quotation.proofs.QuoteLaws.{Outcome}
use Rattle.quote.specs.Steps.{entry_quote, named_entry, named_entries, Quotable}
use Rattle.quote.proofs.AnswerLaws.{share_quoted}

module _ (f counts answers : List ℕ) {h : Head} (r : Read f h) where
  pub counts_short : length counts / 8 < h.nodes → Outcome f counts answers (refuse cause.ListLength) counts answers
  counts_short s = theory.counts_short f counts answers r.accepts.is (omega (arith, head_nodes r))

  module _ (enough : h.nodes ≤ length counts / 8) where
    pub answers_short : length answers / 3 < h.outputs → Outcome f counts answers (refuse cause.ListLength) counts answers
    answers_short s = theory.answers_short f counts answers r.accepts.is (omega (arith, head_nodes r)) (omega (arith, head_outputs r))

    -- it is filled
    module _ (room : h.outputs ≤ length answers / 3) (list : List ℕ) (p : list ≡ node_numbers (nodes_in (body_of f 1)) ++ drop (8 * (length (body_of f 1) / 6)) counts) where
      named : (k : ℕ) → k < length (body_of f 2) / 2 → output_at (body_of f 2) k < length (trees (nodes_in (body_of f 1)))
      named k l = omega (arith, names_node f r.accepts k l, trees_count (body_of f 1))

      entry_is : (k : ℕ) → k < length (body_of f 2) / 2 → named_entry (body_of f 2) list k ≡ entry_of (get_or (trees (nodes_in (body_of f 1))) (output_at (body_of f 2) k) ZERO)
      entry_is k l = listed_at (trees (nodes_in (body_of f 1))) list (drop (8 * (length (body_of f 1) / 6)) counts) p (output_at (body_of f 2) k) (named k l)

      -- the outputs can be answered
      pub quotable : Quotable (body_of f 2) list (length answers)
      quotable =
          record {
            there = λ k l. listed_fits (trees (nodes_in (body_of f 1))) list (drop (8 * (length (body_of f 1) / 6)) counts) p (output_at (body_of f 2) k) (named k l);
            each_small = λ k l. small (get_or (trees (nodes_in (body_of f 1))) (output_at (body_of f 2) k) ZERO) (entry_is k l);
            fits = omega (arith, body_outputs f r.accepts, head_outputs r);
          }

      -- the answer of output k is the quote of its share
      answer_is : (k : ℕ) → k < length (body_of f 2) / 2 → entry_quote (named_entry (body_of f 2) list k) ≡ share_quote (output_share (program_of f) k)
      unfolding output_share output_tree
      answer_is k l =
          let n : ℕ = (program_of f).inputs in
          let m : ℕ = length (program_of f).outputs in
          let below : InputsBelow n (output_tree (program_of f) k) = rw (inputs_is f r.accepts) (inputs_below f r.accepts (get_or (program_of f).outputs k 0)) in
          ap entry_quote (entry_is k l ∙ ap entry_of (named_tree f r.accepts k l))
          ∙ share_quoted n (output_tree (program_of f) k) (n + k) (n + m) below (omega arith) (omega (arith, body_outputs f r.accepts))

      -- so the answers stored are the quotes
      answers_quoted : {l : List ℕ} → l ≡ flat_map entry_quote (named_entries (body_of f 2) list) ++ drop (3 * (length (body_of f 2) / 2)) answers
          → l ≡ quotes (program_of f) ++ drop (3 * length (program_of f).outputs) answers
      unfolding quotes
      answers_quoted w =
          w
          ∙ ap (λ (q : List ℕ). q ++ drop (3 * (length (body_of f 2) / 2)) answers) (flat_same entry_quote share_quote (named_entry (body_of f 2) list) (output_share (program_of f)) (length (body_of f 2) / 2) answer_is)
          ∙ ap (λ (n : ℕ). flat_map share_quote (tabulate (output_share (program_of f)) n) ++ drop (3 * n) answers) (body_outputs f r.accepts)

      -- the front of the count list is cleared, and behind the entries it is as it was
      counts_cleared : {front : List ℕ} → front ≡ replicate (length (take (8 * h.nodes) list)) 0
          → front ++ drop (8 * h.nodes) list ≡ replicate (8 * length (program_of f).nodes) 0 ++ drop (8 * length (program_of f).nodes) counts
      counts_cleared w =
          let n : ℕ = length (body_of f 1) / 6 in
          let long : length (node_numbers (nodes_in (body_of f 1))) ≡ 8 * n = flat_length 8 tree_numbers eight (trees (nodes_in (body_of f 1))) ∙ ap (λ (m : ℕ). 8 * m) (trees_count (body_of f 1)) in
          let behind : drop (8 * n) list ≡ drop (8 * n) counts = ap (drop (8 * n)) p ∙ drop_at (node_numbers (nodes_in (body_of f 1))) (drop (8 * n) counts) (8 * n) long in
          let same : h.nodes ≡ n = head_nodes r ∙ sym (body_nodes f r.accepts) in
          let inside : 8 * h.nodes ≤ length list = omega (arith, same, long, ap length p, length-append (node_numbers (nodes_in (body_of f 1))) (drop (8 * n) counts)) in
          ap (λ (l : List ℕ). l ++ drop (8 * h.nodes) list) (w ∙ ap (λ (m : ℕ). replicate m 0) (length-take-le (8 * h.nodes) list inside))
          ∙ ap (λ (m : ℕ). replicate (8 * m) 0 ++ drop (8 * m) list) same
          ∙ ap (λ (l : List ℕ). replicate (8 * n) 0 ++ l) behind
          ∙ ap (λ (m : ℕ). replicate (8 * m) 0 ++ drop (8 * m) counts) (body_nodes f r.accepts)

      -- the answers are written and the count list is cleared
      pub done : {front l : List ℕ} → front ≡ replicate (length (take (8 * h.nodes) list)) 0
          → l ≡ flat_map entry_quote (named_entries (body_of f 2) list) ++ drop (3 * (length (body_of f 2) / 2)) answers
          → Outcome f counts answers (result h.outputs) (front ++ drop (8 * h.nodes) list) l
      done v w =
          rw (head_outputs r) (theory.result_given f counts answers r.accepts.is (omega (arith, head_nodes r)) (omega (arith, head_outputs r)) (counts_cleared v) (answers_quoted w))
