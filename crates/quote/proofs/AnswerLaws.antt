-- Laws of the answers: an answer says of an entry what the quote says of the share, and a loop stores them. Assumes nothing.
use Prim.Native.Nat.{ℕ, ◌+◌, ◌-◌, ◌*◌, ◌/◌, ◌<◌, ◌≤◌}
use native.Mathlib.Omega.{arith}
use mathlib.Core.Path.{◌≡◌, refl, sym, ap, ◌∙◌}
use mathlib.Core.List.{List, ◌++◌, flat_map}
use lib.ListN.{length, drop}
use borrow.Rule.Slice.PartMut.{put_mid}
use Rattle.wire.specs.Limits.{most_quoted}
use Rattle.wire.proofs.AreaLaws.{part_stored}
use Rattle.wire.proofs.FillLaws.{Filled, filled_entry, filled_entries}
use Rattle.wire.proofs.ListLaws.{tabulate_length, tabulate_at}
use Rattle.wire.proofs.ShownLaws.{shown_both}
use Rattle.gate.specs.Gates.{toffoli_count}
use Rattle.node.specs.Exprs.{Expr, InputsBelow}
use Rattle.construction.specs.Pools.{all_free}
use Rattle.construction.specs.Construction.{share}
use Rattle.construction.specs.Steps.{built_count, undone_count, share_count}
use Rattle.construction.specs.Theorems.{tree_lines}
use Rattle.construction.proofs.CountLaws.{share_length, share_toffolis}
use Rattle.construction.proofs.PoolLaws.{share_gates, share_lines, tree_lines_lem}
use Rattle.entry.specs.declared.Entry.{Entry}
use Rattle.entry.specs.Entries.{tally_of, entry_of}
use Rattle.quotation.specs.Quoting.{share_quote}
use Rattle.quote.specs.Steps.{entry_quote, named_entry, named_entries, Quotable}

-- what an answer says of a tree's entry is what the quote says of the construction's share, where the inputs are below n and the target and the work lines are not
pub share_quoted : (n : ℕ) (e : Expr) (t f : ℕ) → InputsBelow n e → n ≤ t → t < f → entry_quote (entry_of e) ≡ share_quote (share e t (all_free f))
unfolding entry_quote entry_of tally_of share_quote share_count
share_quoted n e t f w m h =
    let gates : length (share e t (all_free f)).gates ≡ share_count 1 e = ap length (share_gates e t f) ∙ share_length e t f h in
    let toffolis : toffoli_count (share e t (all_free f)).gates ≡ share_count 0 e = ap toffoli_count (share_gates e t f) ∙ share_toffolis n e t f w m h in
    let lines : tree_lines e 0 1 ≡ (share e t (all_free f)).pool.most = tree_lines_lem e 0 1 ∙ sym (share_lines e t f) in
    rw (gates, toffolis, lines, shown_both most_quoted (built_count 1 e) (undone_count 1 e), shown_both most_quoted (built_count 0 e) (undone_count 0 e)) refl

answer_wide : (e : Entry) → length (entry_quote e) ≡ 3
unfolding entry_quote
answer_wide e = refl

-- a loop has stored the answers of the first k outputs
module _ (outputs counts : List ℕ) where
  many : length (named_entries outputs counts) ≡ length outputs / 2
  many = tabulate_length (named_entry outputs counts) (length outputs / 2)

  abbrev pub all : List ℕ
  all = flat_map entry_quote (named_entries outputs counts)

  module _ (k : ℕ) {answers₀ answers : List ℕ} (p : Filled all answers₀ answers (3 * k)) (q : Quotable outputs counts (length answers₀)) where
    pub answer_fits : k < length outputs / 2 → 3 * k + 3 ≤ length answers
    answer_fits h = omega (arith, p.same, q.fits)

    -- the next one is stored, copied over a part of the list
    pub answer_stored : {e : Entry} {copied : List ℕ} → k < length outputs / 2 → e ≡ named_entry outputs counts k → copied ≡ entry_quote e
        → Filled all answers₀ (put_mid (3 * k) (3 * k + 3 - 3 * k) answers copied) (3 * (k + 1))
    unfolding entry_quote
    answer_stored {e} h is at =
        rw (part_stored (entry_quote e) answers (3 * k) (3 * k + 3 - 3 * k) at (omega arith) (answer_fits h))
        (filled_entry 3 entry_quote answer_wide (named_entries outputs counts) e k (entry_quote e) p (omega (arith, many)) (omega (arith, many, q.fits))
        (ap entry_quote (is ∙ sym (tabulate_at (named_entry outputs counts) (length outputs / 2) k e h))))

    -- every one is stored
    pub answers_stored : length outputs / 2 ≤ k → answers ≡ all ++ drop (3 * (length outputs / 2)) answers₀
    answers_stored h =
        filled_entries 3 entry_quote answer_wide (named_entries outputs counts) p (omega (arith, many))
        ∙ ap (λ (n : ℕ). all ++ drop (3 * n) answers₀) many
