-- The answers for a whole text. Assumes nothing.
use Prim.Native.Nat.{ℕ, ◌≤◌, ◌<◌}
use native.Mathlib.Omega.{arith}
use native.Mathlib.Nat.{zero-add}
use native.Mathlib.Decide.{ℕ_discrete}
use mathlib.Core.Path.{◌≡◌, refl, ap, ◌∙◌}
use mathlib.Core.Logic.{◌≢◌}
use mathlib.Core.List.{List}
use lib.ListN.{length, get_or, drop_of_length-le}
use Rattle.std.specs.Prelude.{Ok, Err}
use Rattle.refusal.specs.declared.causes.Refusal.{Refusal}
use Rattle.refusal.specs.declared.causes.Refusal.TheVariants as cause
use Rattle.wire.specs.Limits.{most_text, most_open}
use Rattle.grammar.specs.Characters.{caret, ampersand, closing}
use Rattle.grammar.specs.Grammar.{Sum, lone, plus}
use Rattle.grammar.specs.FormulaNodes.{sum_count}
use Rattle.automaton.specs.States.{outermost, open_sum, made_sum, initial}
use Rattle.automaton.specs.Automaton.{sum_with, outside_product, stop, read_closing, read_behind, read_byte, finish_sum, read_rest}
use Rattle.scanner.specs.Scanning.{Goes}
use Rattle.scanner.proofs.PlaceLaws.{stops_byte, goes_refuses}
use Rattle.emitter.specs.declared.Part.{Part}
use Rattle.descent.specs.Readers.{sum_read, SumEnd, SumRead}
use Rattle.descent.proofs.FactorLaws.{sum_stop, sum_finish}
use Rattle.formula.specs.Steps.{WholeRead}

-- behind a whole sum no byte goes on but & and ^
close_none : (t : Sum) → read_byte (sum_read t outermost) closing ≡ stop
unfolding sum_read read_byte read_behind read_closing sum_with outside_product
close_none (lone p) = refl
close_none (plus t p) = refl

whole_stop : (t : Sum) (b : ℕ) → b ≢ ampersand → b ≢ caret → read_byte (sum_read t outermost) b ≡ stop
whole_stop t b h₁ h₂ = by (ℕ_discrete b closing)
  where
    by : Dec (b ≡ closing) → read_byte (sum_read t outermost) b ≡ stop
    by (yes e) = ap (read_byte (sum_read t outermost)) e ∙ close_none t
    by (no e) = sum_stop t outermost b h₁ h₂ e

module _ (n : ℕ) (text old new : List ℕ) where
  pub whole_bad : (why : Refusal) → SumRead n text 0 most_open 0 old new (Err why) → WholeRead n text old new (Err why)
  unfolding SumRead WholeRead open_sum made_sum
  whole_bad why h = (h outermost refl refl).on

  module _ (read : Part) (h : SumRead n text 0 most_open 0 old new (Ok read)) where
    inner : SumEnd n text 0 most_open 0 old new read.end read.made
    unfolding SumRead
    inner = h

    goes : Goes n text initial 0 (sum_read inner.so.tree outermost) read.end
    unfolding open_sum made_sum
    goes = inner.so.goes outermost refl refl

    pub whole_more : read.end < length text → WholeRead n text old new (Err (cause.Text read.end))
    unfolding WholeRead
    whole_more l = (goes_refuses n text goes (stops_byte n text l (whole_stop inner.so.tree (get_or text read.end 0) inner.so.no_and inner.no_caret))).on

    pub whole_end : length text ≤ most_text → length text ≤ read.end → WholeRead n text old new (Ok read.made)
    unfolding WholeRead read_rest finish_sum
    whole_end short l =
        record {
          tree = inner.so.tree;
          count = inner.so.count ∙ zero-add (sum_count inner.so.tree);
          few = omega (arith, inner.so.further.nodes, inner.so.further.inside);
          written = inner.so.written;
          reads =
              goes.on
              ∙ ap (read_rest n (length text) (sum_read inner.so.tree outermost)) (drop_of_length-le text l)
              ∙ sum_finish (length text) inner.so.tree outermost;
        }
