-- The quote of an accepted program is the count over its circuit. Assumes nothing.
use Prim.Native.Nat.{ℕ, zero, suc, ◌+◌, ◌*◌, ◌<◌, ◌≤◌, max}
use native.Mathlib.Omega.{arith}
use native.Mathlib.Nat.{add-zero}
use native.Mathlib.Numerals.{add-one}
use mathlib.Core.Path.{◌≡◌, refl, sym, ap, ap₂, ◌∙◌}
use mathlib.Core.List.{List, [], ◌∷◌, ◌++◌}
use lib.ListN.{length, get_or, take, length-append}
use lib.Seq.{take-length}
use Rattle.wire.specs.Limits.{most_quoted}
use Rattle.wire.specs.Lists.{tabulate, sum_of, largest_of}
use Rattle.wire.proofs.ListLaws.{take_next, flat_number, tabulate_length, tabulate_at}
use Rattle.wire.proofs.ShownLaws.{shown_exact}
use Rattle.wire.proofs.SumLaws.{sum_same, largest_same, sum_most, largest_most}
use Rattle.gate.specs.declared.gates.Gate.{Gate}
use Rattle.gate.specs.Gates.{toffoli_count}
use Rattle.gate.proofs.ToffoliLaws.{toffolis_none, toffolis_append, toffolis_few}
use Rattle.circuit.specs.Reading.{read_circuit}
use Rattle.circuit.proofs.FileLaws.{reads_back}
use Rattle.node.specs.Exprs.{Expr, ZERO}
use Rattle.program.specs.Programs.{Program, output_tree}
use Rattle.program.specs.Reading.{program_of}
use Rattle.construction.specs.Construction.{Built, circuit_gates}
use Rattle.construction.specs.Theorems.{first_shares, share_of}
use Rattle.construction.proofs.Numbers.{most, most_of, share_from, shares_from}
use Rattle.construction.proofs.PoolLaws.{circuit_is, lines_needed_lem, first_shares_lem, share_of_lem, share_gates, share_lines}
use Rattle.construction.proofs.RestoreLaws.{shares_next}
use Rattle.compilation.specs.Compiling.{output_trees, program_circuit}
use Rattle.compilation.proofs.AcceptedLaws.{accepted, written, legal}
use Rattle.compilation.proofs.OutputLaws.{trees_length, tree_is}
use Rattle.quotation.specs.Agreement.{SameShare, gates_quoted, toffolis_quoted, lines_quoted, QuoteAgrees}
use Rattle.quotation.specs.Quoting.{output_share, share_quote, quotes, quote_of}
use Rattle.quotation.proofs.QuoteLaws.{was_answered}

-- what adds up over lists of gates adds up over the shares of a circuit
module _ (n : ℕ) (es : List Expr) (count : List Gate → ℕ) (none : count [] ≡ 0) (both : (gs hs : List Gate) → count (gs ++ hs) ≡ count gs + count hs) where
  shares_counted : (j : ℕ) → j ≤ length es → sum_of (λ k. count (share_of n es k)) j ≡ count (first_shares n es j)
  unfolding sum_of shares_from
  shares_counted zero h = sym (ap count (first_shares_lem n es 0) ∙ none)
  shares_counted (suc j) h =
      let next : first_shares n es (suc j) ≡ first_shares n es j ++ share_of n es j = rw add-one at (shares_next n es j (omega arith)) in
      omega (arith, shares_counted j (omega arith), both (first_shares n es j) (share_of n es j), ap count next)

  circuit_counted : sum_of (λ k. count (share_of n es k)) (length es) ≡ count (circuit_gates n es)
  circuit_counted =
      shares_counted (length es) (omega arith)
      ∙ ap count (first_shares_lem n es (length es) ∙ ap (λ (ds : List Expr). shares_from ds n (n + length es)) (take-length es) ∙ sym (circuit_is n es))

-- the most lines of several trees
most_snoc : (es : List Expr) (e : Expr) → most_of (es ++ (e ∷ [])) ≡ max (most_of es) (most e)
unfolding most_of
most_snoc [] e = omega arith
most_snoc (d ∷ es) e = omega (arith, most_snoc es e)

most_largest : (es : List Expr) (j : ℕ) → j ≤ length es → largest_of (λ k. most (get_or es k ZERO)) j ≡ most_of (take j es)
unfolding largest_of most_of
most_largest es zero h = refl
most_largest es (suc j) h =
    let next : take (suc j) es ≡ take j es ++ (get_or es j ZERO ∷ []) = rw add-one at (take_next es j ZERO (omega arith)) in
    ap (λ (l : ℕ). max l (most (get_or es j ZERO))) (most_largest es j (omega arith)) ∙ sym (ap most_of next ∙ most_snoc (take j es) (get_or es j ZERO))

-- the share that is quoted is the output's share of the circuit
pub same_share : SameShare
unfolding output_share
same_share p k h =
    let n : ℕ = p.inputs in
    let es : List Expr = output_trees p in
    share_gates (output_tree p k) (n + k) (n + length p.outputs)
    ∙ ap₂ (λ (e : Expr) (m : ℕ). share_from e (n + k) (n + m)) (sym (tree_is p k h)) (sym (trees_length p))
    ∙ sym (share_of_lem n es k)

-- the counts of a program's shares are those of its circuit
module _ (p : Program) where
  module _ (count : List Gate → ℕ) (none : count [] ≡ 0) (both : (gs hs : List Gate) → count (gs ++ hs) ≡ count gs + count hs) where
    program_counted : sum_of (λ k. count (output_share p k).gates) (length p.outputs) ≡ count (program_circuit p).gates
    unfolding program_circuit
    program_counted =
        sum_same (λ (k : ℕ). count (output_share p k).gates) (λ (k : ℕ). count (share_of p.inputs (output_trees p) k)) (length p.outputs) (λ k h. ap count (same_share p k h))
        ∙ ap (sum_of (λ (k : ℕ). count (share_of p.inputs (output_trees p) k))) (sym (trees_length p))
        ∙ circuit_counted p.inputs (output_trees p) count none both

  program_lines : largest_of (λ k. (output_share p k).pool.most) (length p.outputs) ≡ (program_circuit p).work
  unfolding program_circuit output_share
  program_lines =
      let es : List Expr = output_trees p in
      largest_same (λ (k : ℕ). (output_share p k).pool.most) (λ (k : ℕ). most (get_or es k ZERO)) (length p.outputs)
      (λ k h. share_lines (output_tree p k) (p.inputs + k) (p.inputs + length p.outputs) ∙ ap most (sym (tree_is p k h)))
      ∙ ap (largest_of (λ (k : ℕ). most (get_or es k ZERO))) (sym (trees_length p))
      ∙ most_largest es (length es) (omega arith)
      ∙ ap most_of (take-length es)
      ∙ sym (lines_needed_lem p.inputs es)

  circuit_outputs : length p.outputs ≡ (program_circuit p).outputs
  unfolding program_circuit
  circuit_outputs = refl

  -- where the answers start with the quotes of a program whose numbers are up to the limit, they add up to its circuit's
  module _ (answers rest : List ℕ) (w : answers ≡ quotes p ++ rest) (few : length (program_circuit p).gates ≤ most_quoted) (low : (program_circuit p).work ≤ most_quoted) where
    quote_wide : (s : Built) → length (share_quote s) ≡ 3
    unfolding share_quote
    quote_wide s = refl

    at : (k j : ℕ) → k < length p.outputs → j < 3 → get_or answers (3 * k + j) 0 ≡ get_or (share_quote (output_share p k)) j 0
    unfolding quotes
    at k j h l =
        let all : List Built = tabulate (output_share p) (length p.outputs) in
        ap (λ (s : List ℕ). get_or s (3 * k + j) 0) w
        ∙ flat_number 3 share_quote quote_wide all rest k (omega (arith, tabulate_length (output_share p) (length p.outputs))) (output_share p 0) j l
        ∙ ap (λ (s : Built). get_or (share_quote s) j 0) (tabulate_at (output_share p) (length p.outputs) k (output_share p 0) h)

    gates_total : sum_of (λ k. length (output_share p k).gates) (length p.outputs) ≡ length (program_circuit p).gates
    gates_total = program_counted (λ (gs : List Gate). length gs) refl (λ gs hs. length-append gs hs)

    gates_agree : sum_of (gates_quoted answers) (length p.outputs) ≡ length (program_circuit p).gates
    unfolding share_quote
    gates_agree =
        let f : ℕ → ℕ = λ k. length (output_share p k).gates in
        sum_same (gates_quoted answers) f (length p.outputs)
        (λ k h. rw add-zero at (at k 0 h (omega arith)) ∙ shown_exact most_quoted (f k) (omega (arith, sum_most f (length p.outputs) k h, gates_total)))
        ∙ gates_total

    toffolis_total : sum_of (λ k. toffoli_count (output_share p k).gates) (length p.outputs) ≡ toffoli_count (program_circuit p).gates
    toffolis_total = program_counted toffoli_count toffolis_none toffolis_append

    toffolis_agree : sum_of (toffolis_quoted answers) (length p.outputs) ≡ toffoli_count (program_circuit p).gates
    unfolding share_quote
    toffolis_agree =
        let f : ℕ → ℕ = λ k. toffoli_count (output_share p k).gates in
        sum_same (toffolis_quoted answers) f (length p.outputs)
        (λ k h. at k 1 h (omega arith) ∙ shown_exact most_quoted (f k) (omega (arith, sum_most f (length p.outputs) k h, toffolis_total, toffolis_few (program_circuit p).gates)))
        ∙ toffolis_total

    lines_agree : largest_of (lines_quoted answers) (length p.outputs) ≡ (program_circuit p).work
    unfolding share_quote
    lines_agree =
        let f : ℕ → ℕ = λ k. (output_share p k).pool.most in
        largest_same (lines_quoted answers) f (length p.outputs)
        (λ k h. at k 2 h (omega arith) ∙ shown_exact most_quoted (f k) (omega (arith, largest_most f (length p.outputs) k h, program_lines)))
        ∙ program_lines

-- the answers of an accepted file are the counts over the circuit written
pub quote_agrees : QuoteAgrees
quote_agrees file counts answers =
    record {
      booked = λ m e grant sizes area h d.
          let p : Program = program_of file in
          let list : List ℕ = (quote_of file counts answers).answers in
          let a = accepted file grant sizes area h d in
          let q = was_answered file counts answers m e in
          let few : length (program_circuit p).gates ≤ most_quoted = omega (arith, a.passes.gates_most) in
          let low : (program_circuit p).work ≤ most_quoted = omega (arith, a.passes.work_granted, a.passes.grant_most) in
          record {
            circuit = program_circuit p;
            back = ap read_circuit (written file grant sizes area h a) ∙ reads_back (program_circuit p) (legal file grant sizes area h a);
            numbers = a.head;
            outputs_are = q.outputs_are ∙ circuit_outputs p;
            gates_sum = ap (sum_of (gates_quoted list)) q.outputs_are ∙ gates_agree p list q.rest q.listed few low;
            toffolis_sum = ap (sum_of (toffolis_quoted list)) q.outputs_are ∙ toffolis_agree p list q.rest q.listed few low;
            lines_largest = ap (largest_of (lines_quoted list)) q.outputs_are ∙ lines_agree p list q.rest q.listed few low;
          };
    }
