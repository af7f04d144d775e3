-- The answers of the readers of products and sums: what was read so far, one more of it, and the end. Assumes nothing.
use Prim.Native.Nat.{ℕ, ◌+◌, ◌-◌, ◌<◌}
use native.Mathlib.Omega.{arith}
use mathlib.Core.Path.{◌≡◌, refl, sym, ap, ap₂, subst, ◌∙◌}
use mathlib.Core.Bool.{true, false}
use mathlib.Core.List.{List, [], ◌∷◌}
use lib.ListN.{length}
use Rattle.std.specs.Prelude.{Result, Ok, Err, IfOk}
use Rattle.std.proofs.lemmas.Grind.{common_steps}
use Rattle.refusal.specs.declared.causes.Refusal.{Refusal}
use Rattle.wire.specs.Limits.{most_open}
use Rattle.node.specs.declared.nodes.Node.TheVariants.{Xor, And}
use Rattle.grammar.specs.Characters.{caret, ampersand}
use Rattle.grammar.specs.Grammar.{Sum, lone, plus, single, times}
use Rattle.grammar.specs.FormulaNodes.{sum_count, product_count, factor_count, sum_nodes, product_nodes, factor_nodes}
use Rattle.grammar.proofs.CountLaws.{sum_nodes_lem, product_nodes_lem, factor_nodes_lem}
use Rattle.automaton.specs.States.{AroundSum, AroundProduct, first_product, next_product, first_factor, next_factor}
use Rattle.automaton.specs.States.{factor_next, opened, open_sum, open_product, open_factor, made_sum, made_product, made_factor}
use Rattle.automaton.specs.Automaton.{product_with, outside_factor, after_factor, sum_with, outside_product, go, read_behind, read_byte}
use Rattle.scanner.specs.Scanning.{Goes}
use Rattle.scanner.proofs.PlaceLaws.{goes_byte, goes_then, goes_refuses}
use Rattle.emitter.specs.declared.Part.{Part}
use Rattle.emitter.specs.Emitting.{put_nodes, Joinable, HandsOn, Joined, follows_by}
use Rattle.emitter.proofs.FollowLaws.{Follows, byte_follows, byte_differs}
use Rattle.emitter.proofs.WriteLaws.{put_xor, put_and, put_both}
use Rattle.descent.specs.Readers.{Readable, Further, FactorRead, ProductSo, ProductRead, sum_read, SumSo, SumRead}

-- how many bytes are left behind what was read
abbrev pub bytes_left : List ℕ → Part → ℕ
bytes_left text so = length text - so.end

-- behind the byte that follows what was read a reader may go on
behind_place : (n : ℕ) (text : List ℕ) (at made room : ℕ) (so : Part) → Further text at made so.end so.made → Readable n text at made room → so.end < length text → Readable n text (so.end + 1) so.made room
behind_place n text at made room so g p there = record { few = p.few; short = p.short; inside = omega arith; nodes = omega (arith, g.nodes, p.nodes); fits = p.fits }

-- and what was read there can be joined
joinable : (n : ℕ) (text : List ℕ) (at made room : ℕ) (so next : Part) → Further text at made so.end so.made → Readable n text at made room → Further text (so.end + 1) so.made next.end next.made → Joinable so.made next.made room
joinable n text at made room so next g p f =
    record {
      some = omega (arith, g.some);
      more = omega (arith, f.some);
      index = omega (arith, g.nodes, p.nodes, p.short, f.nodes, f.inside);
      fits = p.fits;
    }

-- products
module _ (n : ℕ) (text : List ℕ) (at left made : ℕ) where
  pub product_start : (old new : List ℕ) (r : Part) → FactorRead n text at left made old new (Ok r) → ProductSo n text at left made old new r.end r.made
  unfolding FactorRead product_count product_nodes open_factor made_factor after_factor product_with outside_factor
  product_start old new r g =
      record { tree = single g.tree; count = g.count; written = g.written; further = g.further; goes = λ k o w. g.goes (first_factor k) o w }

  pub product_refused : (old new : List ℕ) (why : Refusal) → FactorRead n text at left made old new (Err why) → ProductRead n text at left made old new (Err why)
  unfolding FactorRead ProductRead open_factor made_factor
  product_refused old new why g = λ k o w. g (first_factor k) o w

  -- what was read so far
  module _ (old here : List ℕ) (so : Part) (g : ProductSo n text at left made old here so.end so.made) where
    pub product_end : follows_by text (Ok so) ampersand ≡ false → ProductRead n text at left made old here (Ok so)
    unfolding ProductRead
    product_end x = record { so = g; no_and = byte_differs text so ampersand (omega arith) x }

    -- and an & behind it
    module _ (x : follows_by text (Ok so) ampersand ≡ true) where
      and_there : Follows text so ampersand
      and_there = byte_follows text so ampersand (omega arith) x

      pub product_later : at + bytes_left text so < length text
      product_later = omega (arith, g.further.later, and_there.inside)

      pub product_place : {room : ℕ} → Readable n text at made room → Readable n text (so.end + 1) so.made room
      product_place {room} p = behind_place n text at made room so g.further p and_there.inside

      and_goes : (k : AroundProduct) → open_product k + left ≡ most_open → made_product k ≡ made → Goes n text (factor_next (first_factor k)) at (factor_next (next_factor g.tree k)) (so.end + 1)
      unfolding read_byte read_behind opened open_factor
      and_goes k o w =
          goes_then n text (g.goes k o w)
          (goes_byte n text (factor_next (next_factor g.tree k)) and_there.inside (ap (read_behind g.tree k) and_there.is) (omega arith) tt)

      -- the factor behind the & was refused
      pub product_stops : (between : List ℕ) (why : Refusal) → FactorRead n text (so.end + 1) left so.made here between (Err why) → ProductRead n text at left made old between (Err why)
      unfolding FactorRead ProductRead open_product made_product open_factor made_factor
      product_stops between why f = λ k o h. goes_refuses n text (and_goes k o h) (f (next_factor g.tree k) o (omega (arith, g.count)))

      -- or it was read
      module _ (between : List ℕ) (next : Part) (f : FactorRead n text (so.end + 1) left so.made here between (Ok next)) where
        pub factor_joinable : {room : ℕ} → Readable n text at made room → Joinable so.made next.made room
        unfolding FactorRead
        factor_joinable {room} p = joinable n text at made room so next g.further p f.further

        module _ (new : List ℕ) (r : Part) (w : Joined 5 so.made next between new r) where
          pub product_next : ProductSo n text at left made old new r.end r.made
          unfolding FactorRead product_count product_nodes open_factor made_factor after_factor product_with outside_factor
          product_next =
              rw w.0 (record {
                tree = times g.tree f.tree;
                count = omega (arith, g.count, f.count);
                written =
                    put_both (product_nodes g.tree made) (factor_nodes f.tree (made + product_count g.tree))
                    (And false (made + product_count g.tree - 1) (made + product_count g.tree + factor_count f.tree - 1)) old made so.made next.made
                    (g.count ∙ ap (λ (k : ℕ). made + k) (sym (product_nodes_lem g.tree made)))
                    (f.count ∙ ap (λ (k : ℕ). so.made + k) (sym (factor_nodes_lem f.tree (made + product_count g.tree))))
                    g.written
                    (f.written ∙ ap (λ (k : ℕ). put_nodes here so.made (factor_nodes f.tree k)) g.count)
                    (w.1 ∙ put_and between next.made (so.made - 1) (next.made - 1) ∙ ap₂ (λ (x y : ℕ). put_nodes between next.made (And false (x - 1) (y - 1) ∷ [])) g.count (f.count ∙ ap (λ (k : ℕ). k + factor_count f.tree) g.count));
                further = omega (arith, g.further.later, g.further.nodes, g.further.some, f.further.later, f.further.inside, f.further.nodes, f.further.some);
                goes = λ k o h. goes_then n text (and_goes k o h) (f.goes (next_factor g.tree k) o (omega (arith, g.count)));
              })

          pub product_fewer : bytes_left text r < bytes_left text so
          unfolding FactorRead
          product_fewer = omega (arith, ap (λ (p : Part). p.end) w.0, f.further.later, f.further.inside)

      -- the same of what the reader behind it answered
      module _ (between : List ℕ) where
        pub factor_joins : {room : ℕ} (next : Result Part Refusal) → FactorRead n text (so.end + 1) left so.made here between next → Readable n text at made room → IfOk next (λ part. Joinable so.made part.made room)
        factor_joins (Ok next) f p = factor_joinable between next f p
        factor_joins (Err why) f p = tt

        module _ (new : List ℕ) where
          pub product_goes_on : (next : Result Part Refusal) (r : Part) → FactorRead n text (so.end + 1) left so.made here between next
              → HandsOn (λ part r. Joined 5 so.made part between new r) next (Ok r) → ProductSo n text at left made old new r.end r.made
          product_goes_on (Ok next) r f w = product_next between next f new r w
          product_goes_on (Err why) r f w = grind (arith, common_steps)

          pub product_falls : (next : Result Part Refusal) (r : Part) → FactorRead n text (so.end + 1) left so.made here between next
              → HandsOn (λ part r. Joined 5 so.made part between new r) next (Ok r) → bytes_left text r < bytes_left text so
          product_falls (Ok next) r f w = product_fewer between next f new r w
          product_falls (Err why) r f w = grind (arith, common_steps)

          pub product_gives_up : (next : Result Part Refusal) (why : Refusal) → FactorRead n text (so.end + 1) left so.made here between next
              → HandsOn (λ part r. Joined 5 so.made part between new r) next (Err why) → ProductRead n text at left made old new (Err why)
          unfolding ProductRead
          product_gives_up (Ok next) why f w = absurd w
          product_gives_up (Err why') why f w = subst (λ (x : Result Part Refusal). ProductRead n text at left made old new x) (sym w) (product_stops between why' f)

-- sums
sum_caret : (t : Sum) (k : AroundSum) → read_byte (sum_read t k) caret ≡ go (factor_next (first_factor (next_product t k)))
unfolding sum_read read_byte read_behind sum_with outside_product
sum_caret (lone p) k = refl
sum_caret (plus t p) k = refl

module _ (n : ℕ) (text : List ℕ) (at left made : ℕ) where
  pub sum_start : (old new : List ℕ) (r : Part) → ProductRead n text at left made old new (Ok r) → SumSo n text at left made old new r.end r.made
  unfolding ProductRead sum_count sum_nodes open_product made_product sum_read
  sum_start old new r g =
      record { tree = lone g.so.tree; count = g.so.count; written = g.so.written; further = g.so.further; goes = λ k o w. g.so.goes (first_product k) o w; no_and = g.no_and }

  pub sum_refused : (old new : List ℕ) (why : Refusal) → ProductRead n text at left made old new (Err why) → SumRead n text at left made old new (Err why)
  unfolding ProductRead SumRead open_product made_product
  sum_refused old new why g = λ k o w. g (first_product k) o w

  -- what was read so far
  module _ (old here : List ℕ) (so : Part) (g : SumSo n text at left made old here so.end so.made) where
    pub sum_end : follows_by text (Ok so) caret ≡ false → SumRead n text at left made old here (Ok so)
    unfolding SumRead
    sum_end x = record { so = g; no_caret = byte_differs text so caret (omega arith) x }

    -- and a ^ behind it
    module _ (x : follows_by text (Ok so) caret ≡ true) where
      caret_there : Follows text so caret
      caret_there = byte_follows text so caret (omega arith) x

      pub sum_later : at + bytes_left text so < length text
      sum_later = omega (arith, g.further.later, caret_there.inside)

      pub sum_place : {room : ℕ} → Readable n text at made room → Readable n text (so.end + 1) so.made room
      sum_place {room} p = behind_place n text at made room so g.further p caret_there.inside

      caret_goes : (k : AroundSum) → open_sum k + left ≡ most_open → made_sum k ≡ made → Goes n text (factor_next (first_factor (first_product k))) at (factor_next (first_factor (next_product g.tree k))) (so.end + 1)
      unfolding opened open_factor
      caret_goes k o w =
          goes_then n text (g.goes k o w)
          (goes_byte n text (factor_next (first_factor (next_product g.tree k))) caret_there.inside (rw caret_there.is (sum_caret g.tree k)) (omega arith) tt)

      -- the product behind the ^ was refused
      pub sum_stops : (between : List ℕ) (why : Refusal) → ProductRead n text (so.end + 1) left so.made here between (Err why) → SumRead n text at left made old between (Err why)
      unfolding ProductRead SumRead open_product made_product
      sum_stops between why f = λ k o h. goes_refuses n text (caret_goes k o h) (f (next_product g.tree k) o (omega (arith, g.count)))

      -- or it was read
      module _ (between : List ℕ) (next : Part) (f : ProductRead n text (so.end + 1) left so.made here between (Ok next)) where
        pub product_joinable : {room : ℕ} → Readable n text at made room → Joinable so.made next.made room
        unfolding ProductRead
        product_joinable {room} p = joinable n text at made room so next g.further p f.so.further

        module _ (new : List ℕ) (r : Part) (w : Joined 4 so.made next between new r) where
          pub sum_next : SumSo n text at left made old new r.end r.made
          unfolding ProductRead sum_count sum_nodes open_product made_product sum_read
          sum_next =
              rw w.0 (record {
                tree = plus g.tree f.so.tree;
                count = omega (arith, g.count, f.so.count);
                written =
                    put_both (sum_nodes g.tree made) (product_nodes f.so.tree (made + sum_count g.tree))
                    (Xor (made + sum_count g.tree - 1) (made + sum_count g.tree + product_count f.so.tree - 1)) old made so.made next.made
                    (g.count ∙ ap (λ (k : ℕ). made + k) (sym (sum_nodes_lem g.tree made)))
                    (f.so.count ∙ ap (λ (k : ℕ). so.made + k) (sym (product_nodes_lem f.so.tree (made + sum_count g.tree))))
                    g.written
                    (f.so.written ∙ ap (λ (k : ℕ). put_nodes here so.made (product_nodes f.so.tree k)) g.count)
                    (w.1 ∙ put_xor between next.made (so.made - 1) (next.made - 1) ∙ ap₂ (λ (x y : ℕ). put_nodes between next.made (Xor (x - 1) (y - 1) ∷ [])) g.count (f.so.count ∙ ap (λ (k : ℕ). k + product_count f.so.tree) g.count));
                further = omega (arith, g.further.later, g.further.nodes, g.further.some, f.so.further.later, f.so.further.inside, f.so.further.nodes, f.so.further.some);
                goes = λ k o h. goes_then n text (caret_goes k o h) (f.so.goes (next_product g.tree k) o (omega (arith, g.count)));
                no_and = f.no_and;
              })

          pub sum_fewer : bytes_left text r < bytes_left text so
          unfolding ProductRead
          sum_fewer = omega (arith, ap (λ (p : Part). p.end) w.0, f.so.further.later, f.so.further.inside)

      -- the same of what the reader behind it answered
      module _ (between : List ℕ) where
        pub product_joins : {room : ℕ} (next : Result Part Refusal) → ProductRead n text (so.end + 1) left so.made here between next → Readable n text at made room → IfOk next (λ part. Joinable so.made part.made room)
        product_joins (Ok next) f p = product_joinable between next f p
        product_joins (Err why) f p = tt

        module _ (new : List ℕ) where
          pub sum_goes_on : (next : Result Part Refusal) (r : Part) → ProductRead n text (so.end + 1) left so.made here between next
              → HandsOn (λ part r. Joined 4 so.made part between new r) next (Ok r) → SumSo n text at left made old new r.end r.made
          sum_goes_on (Ok next) r f w = sum_next between next f new r w
          sum_goes_on (Err why) r f w = grind (arith, common_steps)

          pub sum_falls : (next : Result Part Refusal) (r : Part) → ProductRead n text (so.end + 1) left so.made here between next
              → HandsOn (λ part r. Joined 4 so.made part between new r) next (Ok r) → bytes_left text r < bytes_left text so
          sum_falls (Ok next) r f w = sum_fewer between next f new r w
          sum_falls (Err why) r f w = grind (arith, common_steps)

          pub sum_gives_up : (next : Result Part Refusal) (why : Refusal) → ProductRead n text (so.end + 1) left so.made here between next
              → HandsOn (λ part r. Joined 4 so.made part between new r) next (Err why) → SumRead n text at left made old new (Err why)
          unfolding SumRead
          sum_gives_up (Ok next) why f w = absurd w
          sum_gives_up (Err why') why f w = subst (λ (x : Result Part Refusal). SumRead n text at left made old new x) (sym w) (sum_stops between why' f)
