-- The answers of the reader of factors, one law for each way to end. Assumes nothing.
use Prim.Native.Nat.{ℕ, ◌+◌, ◌*◌, ◌-◌, ◌≤◌, ◌<◌}
use native.Mathlib.Omega.{arith}
use mathlib.Core.Path.{◌≡◌, refl, sym, ap, ◌∙◌}
use mathlib.Core.Logic.{◌≢◌}
use mathlib.Core.Bool.{Bool, true, false, cond}
use mathlib.Core.List.{List, [], ◌∷◌}
use lib.ListN.{length, get_or}
use borrow.Author.Tests.{ne_eqb}
use Rattle.std.specs.Prelude.{Result, Ok, Err, IfOk}
use Rattle.refusal.specs.declared.causes.Refusal.{Refusal}
use Rattle.refusal.specs.declared.causes.Refusal.TheVariants as cause
use Rattle.wire.specs.Limits.{most_text, most_nodes, most_open}
use Rattle.node.specs.declared.nodes.Node.TheVariants.{Not}
use Rattle.grammar.specs.Characters.{caret, ampersand, exclamation, opening, closing}
use Rattle.grammar.specs.Grammar.{Sum, lone, plus, negation, brackets}
use Rattle.grammar.specs.FormulaNodes.{factor_count, factor_nodes}
use Rattle.grammar.proofs.CountLaws.{factor_nodes_lem}
use Rattle.automaton.specs.States.{AroundSum, AroundFactor, in_brackets, first_product, first_factor, negated}
use Rattle.automaton.specs.States.{State, factor_next, opened, open_sum, open_factor, made_sum, made_factor}
use Rattle.automaton.specs.Automaton.{product_with, outside_factor, after_factor, sum_with, outside_product, stop, go, read_closing, read_behind, read_factor_byte, read_byte, finish, finish_sum, finish_product}
use Rattle.automaton.proofs.BoundLaws.{open_after}
use Rattle.scanner.specs.declared.Leaf.{Leaf}
use Rattle.scanner.specs.Scanning.{Goes, LeafRead}
use Rattle.scanner.proofs.PlaceLaws.{byte_inside, goes_byte, opens_byte, stops_here, goes_then, goes_refuses}
use Rattle.emitter.specs.declared.Part.{Part}
use Rattle.emitter.specs.Emitting.{put_nodes, Storable, HandsOn, LeafStored, Joinable, Negated, follows_by, closed}
use Rattle.emitter.proofs.FollowLaws.{byte_follows, byte_differs}
use Rattle.emitter.proofs.WriteLaws.{put_as, put_not, put_then}
use Rattle.descent.specs.Readers.{FactorRead, sum_read, SumEnd, SumRead}

-- behind a sum come &, ^, and ) if a bracket is open
pub sum_stop : (t : Sum) (k : AroundSum) (b : ℕ) → b ≢ ampersand → b ≢ caret → b ≢ closing → read_byte (sum_read t k) b ≡ stop
unfolding sum_read read_byte read_behind
sum_stop (lone p) k b h₁ h₂ h₃ = rw (ne_eqb b ampersand h₁, ne_eqb b caret h₂, ne_eqb b closing h₃) refl
sum_stop (plus t p) k b h₁ h₂ h₃ = rw (ne_eqb b ampersand h₁, ne_eqb b caret h₂, ne_eqb b closing h₃) refl

pub sum_finish : (l : ℕ) (t : Sum) (k : AroundSum) → finish l (sum_read t k) ≡ finish_sum l t k
unfolding sum_read finish finish_product sum_with outside_product
sum_finish l (lone p) k = refl
sum_finish l (plus t p) k = refl

sum_close : (t : Sum) (c : AroundFactor) → read_byte (sum_read t (in_brackets c)) closing ≡ go (after_factor (brackets t) c)
unfolding sum_read read_byte read_behind read_closing sum_with outside_product
sum_close (lone p) c = refl
sum_close (plus t p) c = refl

closed_refused : (text : List ℕ) (why : Refusal) → closed text (Err why) ≡ Err why
unfolding closed
closed_refused text why = refl

-- a leaf's node can be stored
pub leaf_storable : (n : ℕ) (text : List ℕ) (at made room : ℕ) (leaf : Leaf) → LeafRead n text at made (Ok leaf) → length text ≤ most_text → made ≤ at → 6 * most_nodes ≤ room → Storable made leaf.field 0 room
unfolding LeafRead
leaf_storable n text at made room leaf g short nodes fits = record { index = omega (arith, g.later, g.inside); first = omega (arith, g.small); second = omega arith; fits = fits }

-- what a ! negates can be joined
pub not_joinable : (n : ℕ) (text : List ℕ) (at left made room : ℕ) (old new : List ℕ) (under : Part) → FactorRead n text at left made old new (Ok under) → length text ≤ most_text → made < at → 6 * most_nodes ≤ room
    → Joinable 1 under.made room
unfolding FactorRead
not_joinable n text at left made room old new under g short nodes fits =
    record { some = omega arith; more = omega (arith, g.further.some); index = omega (arith, g.further.inside, g.further.nodes); fits = fits }

-- the same of what the readers answered
pub leaf_stores : (n : ℕ) (text : List ℕ) (at made room : ℕ) (read : Result Leaf Refusal) → LeafRead n text at made read → length text ≤ most_text → made ≤ at → 6 * most_nodes ≤ room
    → IfOk read (λ leaf. Storable made leaf.field 0 room)
leaf_stores n text at made room (Ok leaf) g short nodes fits = leaf_storable n text at made room leaf g short nodes fits
leaf_stores n text at made room (Err why) g short nodes fits = tt

pub not_joins : (n : ℕ) (text : List ℕ) (at left made room : ℕ) (old new : List ℕ) (read : Result Part Refusal) → FactorRead n text at left made old new read → length text ≤ most_text → made < at → 6 * most_nodes ≤ room
    → IfOk read (λ under. Joinable 1 under.made room)
not_joins n text at left made room old new (Ok under) g short nodes fits = not_joinable n text at left made room old new under g short nodes fits
not_joins n text at left made room old new (Err why) g short nodes fits = tt

module _ (n : ℕ) (text : List ℕ) (at left made : ℕ) (old new : List ℕ) where
  -- a leaf
  module _ (h₁ : get_or text at 0 ≢ exclamation) (h₂ : get_or text at 0 ≢ opening) where
    pub factor_leaf : (leaf : Leaf) (r : Part) → made ≤ at → LeafRead n text at made (Ok leaf) → LeafStored leaf made old new r → FactorRead n text at left made old new (Ok r)
    unfolding LeafRead FactorRead
    factor_leaf leaf r p g w =
        rw w.0 (record {
          tree = g.tree;
          count = omega (arith, g.one);
          written = w.1 ∙ put_as old made (factor_nodes g.tree made) leaf.kind leaf.field 0 (g.stored made);
          further = omega (arith, g.later, g.inside);
          goes = λ c o m. g.goes c (omega arith);
        })

    pub factor_no_leaf : (why : Refusal) → LeafRead n text at made (Err why) → FactorRead n text at left made old new (Err why)
    unfolding LeafRead FactorRead
    factor_no_leaf why g = λ c o m. g h₁ h₂ c (omega arith) m

    pub factor_of_leaf : (read : Result Leaf Refusal) (r : Result Part Refusal) → made ≤ at → LeafRead n text at made read → HandsOn (λ leaf part. LeafStored leaf made old new part) read r → FactorRead n text at left made old new r
    factor_of_leaf (Ok leaf) (Ok part) p g w = factor_leaf leaf part p g w
    factor_of_leaf (Ok leaf) (Err why) p g w = absurd w
    factor_of_leaf (Err why) r p g w = rw w (factor_no_leaf why g)

  -- the byte at the place leads on from where a factor is to come
  module _ (b : ℕ) (e : get_or text at 0 ≡ b) (some : 1 ≤ b) where
    here : at < length text
    here = byte_inside text at (omega arith)

    reads_as : (c : AroundFactor) {τ : State} → read_factor_byte c b ≡ go τ → read_byte (factor_next c) (get_or text at 0) ≡ go τ
    unfolding read_byte
    reads_as c q = ap (read_factor_byte c) e ∙ q

  -- ! and the factor behind it
  module _ (e : get_or text at 0 ≡ exclamation) where
    pub factor_deep_not : left ≡ 0 → FactorRead n text at left made old new (Err (cause.Depth at))
    unfolding FactorRead read_factor_byte opened open_factor
    factor_deep_not z = λ c o m. opens_byte n text (factor_next (negated c)) (here exclamation e (omega arith)) (reads_as exclamation e (omega arith) c refl) (omega arith)

    not_goes : left ≢ 0 → (c : AroundFactor) → open_factor c + left ≡ most_open → Goes n text (factor_next c) at (factor_next (negated c)) (at + 1)
    unfolding read_factor_byte opened open_factor
    not_goes more c o = goes_byte n text (factor_next (negated c)) (here exclamation e (omega arith)) (reads_as exclamation e (omega arith) c refl) (omega arith) tt

    pub factor_not : left ≢ 0 → (between : List ℕ) (under r : Part) → FactorRead n text (at + 1) (left - 1) made old between (Ok under) → Negated under between new r → FactorRead n text at left made old new (Ok r)
    unfolding FactorRead factor_count open_factor made_factor after_factor product_with outside_factor factor_nodes
    factor_not more between under r g w =
        rw w.0 (record {
          tree = negation g.tree;
          count = omega (arith, g.count);
          written =
              put_then (factor_nodes g.tree made) (Not (made + factor_count g.tree - 1)) old made under.made
              (g.count ∙ ap (λ (k : ℕ). made + k) (sym (factor_nodes_lem g.tree made))) g.written
              (w.1 ∙ put_not between under.made (under.made - 1) ∙ ap (λ (k : ℕ). put_nodes between under.made (Not (k - 1) ∷ [])) g.count);
          further = omega (arith, g.further.later, g.further.inside, g.further.nodes, g.further.some);
          goes = λ c o h. goes_then n text (not_goes more c o) (g.goes (negated c) (omega arith) h);
        })

    pub factor_not_refused : left ≢ 0 → (why : Refusal) (between : List ℕ) → FactorRead n text (at + 1) (left - 1) made old between (Err why) → FactorRead n text at left made old new (Err why)
    unfolding FactorRead open_factor made_factor
    factor_not_refused more why between g = λ c o m. goes_refuses n text (not_goes more c o) (g (negated c) (omega arith) m)

    pub factor_of_not : left ≢ 0 → (between : List ℕ) (read r : Result Part Refusal) → FactorRead n text (at + 1) (left - 1) made old between read
        → HandsOn (λ under part. Negated under between new part) read r → FactorRead n text at left made old new r
    factor_of_not more between (Ok under) (Ok part) g w = factor_not more between under part g w
    factor_of_not more between (Ok under) (Err why) g w = absurd w
    factor_of_not more between (Err why) r g w = rw w (factor_not_refused more why between g)

  -- a bracket, and the sum in it
  module _ (e : get_or text at 0 ≡ opening) where
    pub factor_deep_bracket : left ≡ 0 → FactorRead n text at left made old new (Err (cause.Depth at))
    unfolding FactorRead read_factor_byte opened open_factor
    factor_deep_bracket z = λ c o m.
        opens_byte n text (factor_next (first_factor (first_product (in_brackets c)))) (here opening e (omega arith)) (reads_as opening e (omega arith) c refl) (omega arith)

    module _ (more : left ≢ 0) where
      bracket_goes : (c : AroundFactor) → open_factor c + left ≡ most_open → Goes n text (factor_next c) at (factor_next (first_factor (first_product (in_brackets c)))) (at + 1)
      unfolding read_factor_byte opened open_factor
      bracket_goes c o =
          goes_byte n text (factor_next (first_factor (first_product (in_brackets c)))) (here opening e (omega arith)) (reads_as opening e (omega arith) c refl) (omega arith) tt

      -- it ended
      module _ (inner : Part) (g : SumEnd n text (at + 1) (left - 1) made old new inner.end inner.made) where
        inner_goes : (c : AroundFactor) → open_factor c + left ≡ most_open → made_factor c ≡ made → Goes n text (factor_next c) at (sum_read g.so.tree (in_brackets c)) inner.end
        unfolding open_sum made_sum
        inner_goes c o w = goes_then n text (bracket_goes c o) (g.so.goes (in_brackets c) (omega arith) w)

        by_closing : (t : Bool) → follows_by text (Ok inner) closing ≡ t → FactorRead n text at left made old new (cond t (Ok (record { end = inner.end + 1; made = inner.made })) (Err (cause.Text inner.end)))
        unfolding FactorRead factor_count factor_nodes finish_sum
        by_closing true q =
            let there = byte_follows text inner closing (omega arith) q in
            record {
              tree = brackets g.so.tree;
              count = g.so.count;
              written = g.so.written;
              further = omega (arith, g.so.further.later, g.so.further.nodes, g.so.further.some, there.inside);
              goes = λ c o w.
                  goes_then n text (inner_goes c o w)
                  (goes_byte n text (after_factor (brackets g.so.tree) c) there.inside (rw there.is (sum_close g.so.tree c)) (omega (arith, open_after (brackets g.so.tree) c)) (unfold after_factor in tt));
            }
        by_closing false q = λ c o w.
            goes_refuses n text (inner_goes c o w)
            (stops_here n text g.so.further.inside
            (sum_stop g.so.tree (in_brackets c) (get_or text inner.end 0) g.so.no_and g.no_caret (byte_differs text inner closing (omega arith) q))
            (sum_finish (length text) g.so.tree (in_brackets c)))

      pub factor_bracket : (inner : Part) {r : Result Part Refusal} → SumRead n text (at + 1) (left - 1) made old new (Ok inner) → r ≡ closed text (Ok inner) → FactorRead n text at left made old new r
      unfolding SumRead closed
      factor_bracket inner g w = rw w (by_closing inner g (follows_by text (Ok inner) closing) refl)

      pub factor_bracket_refused : (why : Refusal) → SumRead n text (at + 1) (left - 1) made old new (Err why) → FactorRead n text at left made old new (Err why)
      unfolding SumRead FactorRead open_sum made_sum
      factor_bracket_refused why g = λ c o m. goes_refuses n text (bracket_goes c o) (g (in_brackets c) (omega arith) m)

      pub factor_of_bracket : (read : Result Part Refusal) {r : Result Part Refusal} → SumRead n text (at + 1) (left - 1) made old new read → r ≡ closed text read → FactorRead n text at left made old new r
      factor_of_bracket (Ok inner) g w = factor_bracket inner g w
      factor_of_bracket (Err why) g w = rw (w, closed_refused text why) (factor_bracket_refused why g)
