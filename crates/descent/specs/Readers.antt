-- What the readers ask for, answer and write, in terms of the automaton.
use Rattle.std.specs.Prelude.{ℕ, ◌+◌, ◌*◌, ◌≤◌, ◌<◌, ◌≡◌, ◌≢◌, List, length, get_or, Result, Ok, Err}
use Rattle.refusal.specs.declared.causes.Refusal.{Refusal}
use Rattle.wire.specs.Limits.{most_inputs, most_nodes, most_text, most_open}
use Rattle.grammar.specs.Characters.{caret, ampersand}
use Rattle.grammar.specs.Grammar.{Sum, Product, Factor, lone, plus}
use Rattle.grammar.specs.FormulaNodes.{sum_count, product_count, factor_count, sum_nodes, product_nodes, factor_nodes}
use Rattle.automaton.specs.States.{AroundSum, AroundProduct, AroundFactor, first_product, next_product, first_factor}
use Rattle.automaton.specs.States.{State, factor_next, product_read, open_sum, open_product, open_factor, made_sum, made_product, made_factor}
use Rattle.automaton.specs.Automaton.{after_factor}
use Rattle.scanner.specs.Scanning.{Goes, Refuses}
use Rattle.emitter.specs.declared.Part.{Part}
use Rattle.emitter.specs.Emitting.{put_nodes}

-- a place in a text over n inputs, with no more nodes made than bytes read, and room for all nodes that a text can make
pub record Readable (n : ℕ) (text : List ℕ) (at made room : ℕ) : Type 0 where
  pub few : n ≤ most_inputs
  pub short : length text ≤ most_text
  pub inside : at ≤ length text
  pub nodes : made ≤ at
  pub fits : 6 * most_nodes ≤ room

-- a reader is further on, inside the text, and made no more nodes than it read bytes, and one at least
pub record Further (text : List ℕ) (at made e m : ℕ) : Type 0 where
  pub later : at < e
  pub inside : e ≤ length text
  pub nodes : m + at ≤ made + e
  pub some : made < m

-- a factor was read, with left brackets and ! that may still be opened, and made nodes before it; old and new: the node body before and after
pub record FactorEnd (n : ℕ) (text : List ℕ) (at left made : ℕ) (old new : List ℕ) (e m : ℕ) : Type 0 where
  pub tree : Factor
  pub count : m ≡ made + factor_count tree
  pub written : new ≡ put_nodes old made (factor_nodes tree made)
  pub further : Further text at made e m
  pub goes : (c : AroundFactor) → open_factor c + left ≡ most_open → made_factor c ≡ made → Goes n text (factor_next c) at (after_factor tree c) e

-- what the reader of factors answers: a factor, or the refusal that reading on gives, whatever stands around; nothing is said of the node body then
unfoldable pub FactorRead : ℕ → List ℕ → ℕ → ℕ → ℕ → List ℕ → List ℕ → Result Part Refusal → Type 0
FactorRead n text at left made old new (Ok read) = FactorEnd n text at left made old new read.end read.made
FactorRead n text at left made old new (Err why) = (c : AroundFactor) → open_factor c + left ≡ most_open → made_factor c ≡ made → Refuses n text (factor_next c) at why

-- a product was read so far, which & may go on
pub record ProductSo (n : ℕ) (text : List ℕ) (at left made : ℕ) (old new : List ℕ) (e m : ℕ) : Type 0 where
  pub tree : Product
  pub count : m ≡ made + product_count tree
  pub written : new ≡ put_nodes old made (product_nodes tree made)
  pub further : Further text at made e m
  pub goes : (k : AroundProduct) → open_product k + left ≡ most_open → made_product k ≡ made → Goes n text (factor_next (first_factor k)) at (product_read tree k) e

-- a product was read, and no & goes on with it
pub record ProductEnd (n : ℕ) (text : List ℕ) (at left made : ℕ) (old new : List ℕ) (e m : ℕ) : Type 0 where
  pub so : ProductSo n text at left made old new e m
  pub no_and : get_or text e 0 ≢ ampersand

-- what the reader of products answers
unfoldable pub ProductRead : ℕ → List ℕ → ℕ → ℕ → ℕ → List ℕ → List ℕ → Result Part Refusal → Type 0
ProductRead n text at left made old new (Ok read) = ProductEnd n text at left made old new read.end read.made
ProductRead n text at left made old new (Err why) =
    (k : AroundProduct) → open_product k + left ≡ most_open → made_product k ≡ made → Refuses n text (factor_next (first_factor k)) at why

-- the state in which a sum was read
unfoldable pub sum_read : Sum → AroundSum → State
sum_read (lone p) k = product_read p (first_product k)
sum_read (plus s p) k = product_read p (next_product s k)

-- a sum was read so far, which ^ may go on
pub record SumSo (n : ℕ) (text : List ℕ) (at left made : ℕ) (old new : List ℕ) (e m : ℕ) : Type 0 where
  pub tree : Sum
  pub count : m ≡ made + sum_count tree
  pub written : new ≡ put_nodes old made (sum_nodes tree made)
  pub further : Further text at made e m
  pub goes : (k : AroundSum) → open_sum k + left ≡ most_open → made_sum k ≡ made → Goes n text (factor_next (first_factor (first_product k))) at (sum_read tree k) e
  pub no_and : get_or text e 0 ≢ ampersand

-- a sum was read, and no ^ goes on with it
pub record SumEnd (n : ℕ) (text : List ℕ) (at left made : ℕ) (old new : List ℕ) (e m : ℕ) : Type 0 where
  pub so : SumSo n text at left made old new e m
  pub no_caret : get_or text e 0 ≢ caret

-- what the reader of sums answers
unfoldable pub SumRead : ℕ → List ℕ → ℕ → ℕ → ℕ → List ℕ → List ℕ → Result Part Refusal → Type 0
SumRead n text at left made old new (Ok read) = SumEnd n text at left made old new read.end read.made
SumRead n text at left made old new (Err why) =
    (k : AroundSum) → open_sum k + left ≡ most_open → made_sum k ≡ made → Refuses n text (factor_next (first_factor (first_product k))) at why
