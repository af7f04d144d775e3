-- Laws of answers: what a chain of checks that ends in a result says of its tests. Assumes nothing.
use Prim.Native.Nat.{ℕ, ◌<◌, ◌≤◌}
use native.Mathlib.Omega.{arith}
use mathlib.Core.Path.{◌≡◌, refl, sym, ap, ap₂, ◌∙◌}
use mathlib.Core.Logic.{◌≢◌}
use mathlib.Core.Bool.{Bool, true, false}
use Rattle.refusal.specs.declared.causes.Refusal.{Refusal}
use Rattle.refusal.specs.declared.causes.Refusal.TheVariants as cause
use Rattle.std.specs.Prelude.{Result, Ok, Err}
use borrow.Author.Tests.{eq-eqb, ne_eqb}
use Rattle.refusal.specs.Answers.{Answer, result, refused, refuse, check, check_each, checked_each, map_answer, and_then, answer_of, number_of, place_of}
use Rattle.refusal.specs.Checks.{lowest, all_below}
use Rattle.refusal.proofs.CheckLaws.{by_test}

module _ {A : Type 0} (a : A) (test : Bool) (why : Refusal) (next : Answer A) where
  never : refuse why ≡ result a → test ≡ true
  never e = let z : ◌≡◌ {A = ℕ} 0 1 = cc in absurd (omega arith)

  -- the test held
  pub checked : check test why next ≡ result a → test ≡ true
  checked e = by_test test (λ t. t) (λ t. never (simp t at e))

  -- and the rest of the chain ends in the result too
  pub checked_next : check test why next ≡ result a → next ≡ result a
  checked_next e = simp (checked e) at e

-- a check before a result that answers with a refusal: the test failed, and the place is its cause's
module _ {A : Type 0} (a : A) (test : Bool) (why : Refusal) (n p : ℕ) (e : check test why (result a) ≡ refused n p) where
  pub failed : test ≡ false
  failed = by_test test (λ t. let z : result a ≡ refused n p = simp t at e in let o : ◌≡◌ {A = ℕ} 0 1 = cc in absurd (omega arith)) (λ t. t)

  pub failed_place : place_of why ≡ p
  failed_place = let z : refuse {A = A} why ≡ refused n p = simp failed at e in cc

-- causes that show the same in one kind of answer show the same in every other
pub same_refusal : {A B : Type 0} (x y : Refusal) → ◌≡◌ {A = Answer B} (refuse y) (refuse x) → ◌≡◌ {A = Answer A} (refuse x) (refuse y)
same_refusal x y e = let n : number_of y ≡ number_of x = cc in let p : place_of y ≡ place_of x = cc in ap₂ refused (sym n) (sym p)

-- equal results have equal values
pub same_result : {A : Type 0} (a b : A) → ◌≡◌ {A = Answer A} (result a) (result b) → a ≡ b
same_result a b e = cc

-- a check of each index, by what a loop over them found
module _ (test : ℕ → Bool) (k : ℕ) (why : ℕ → Refusal) where
  pub each_fails : {i : ℕ} → lowest test k ≡ i → i < k → refuse (why i) ≡ checked_each test k why
  each_fails {i} l h = rw (ne_eqb (lowest test k) k (λ e. absurd (omega (arith, e, l))), l) refl

  pub each_holds : lowest test k ≡ k → result tt ≡ checked_each test k why
  each_holds l = rw (eq-eqb (lowest test k) k l) refl

  -- and by what it answers: a reader goes on, or passes the refusal on
  module _ {r : Result (Unit {0}) Refusal} (e : answer_of r ≡ checked_each test k why) where
    pub each_test : r ≡ Ok tt → all_below test k ≡ true
    each_test g = checked tt (all_below test k) (why (lowest test k)) (result tt) (sym e ∙ ap answer_of g)

    pub each_next : {A : Type 0} (next : Answer A) → r ≡ Ok tt → check_each test k why next ≡ next
    each_next next g = rw (each_test g) refl

    pub each_refused : {A : Type 0} {w : Refusal} (next : Answer A) → r ≡ Err w → check_each test k why next ≡ refuse w
    each_refused {A} {w} next g =
        let said : refuse w ≡ checked_each test k why = sym (ap answer_of g) ∙ e in
        by_test (all_below test k)
        (λ t. let z : refuse w ≡ result tt = simp t at said in let o : ◌≡◌ {A = ℕ} 0 1 = cc in absurd (omega arith))
        (λ t. rw t (same_refusal (why (lowest test k)) w (simp t at said)))

module _ {A B : Type 0} (g : A → B) where
  -- an answer whose values g reads is a result where it reads as one
  pub record Came (x : Answer A) (b : B) : Type 0 where
    pub from : A
    pub was : x ≡ result from
    pub reads : b ≡ g from

  pub came : (x : Answer A) (b : B) → result b ≡ map_answer g x → Came x b
  came (result a) b e = record { from = a; was = refl; reads = (cc) }
  came (refused n p) b e = let z : ◌≡◌ {A = ℕ} 0 1 = cc in absurd (omega arith)

  -- and a refusal where it reads as one
  pub came_refused : (x : Answer A) (n p : ℕ) → refused n p ≡ map_answer g x → x ≡ refused n p
  came_refused (result a) n p e = let z : ◌≡◌ {A = ℕ} 0 1 = cc in absurd (omega arith)
  came_refused (refused m q) n p e = let k : m ≡ n = cc in let l : q ≡ p = cc in cc

-- where what an answer leads to is a result, the answer was one
pub record Led {A B : Type 0} (x : Answer A) (f : A → Answer B) (b : B) : Type 0 where
  pub from : A
  pub was : x ≡ result from
  pub next : f from ≡ result b

pub led : {A B : Type 0} (x : Answer A) (f : A → Answer B) (b : B) → and_then x f ≡ result b → Led x f b
led (result a) f b e = record { from = a; was = refl; next = e }
led (refused n p) f b e = let z : ◌≡◌ {A = ℕ} 0 1 = cc in absurd (omega arith)

-- values read one after the other
pub mapped_twice : {A B C : Type 0} (g : A → B) (h : B → C) (x : Answer A) → map_answer h (map_answer g x) ≡ map_answer (λ a. h (g a)) x
mapped_twice g h (result a) = refl
mapped_twice g h (refused n p) = refl

-- an answer that is never a refusal with number k
abbrev pub Never : {A : Type 0} → ℕ → Answer A → Type 0
Never k x = (n p : ℕ) → x ≡ refused n p → n ≢ k

pub never_result : {A : Type 0} (k : ℕ) (a : A) → Never k (result a)
never_result k a n p e = let z : ◌≡◌ {A = ℕ} 0 1 = cc in absurd (omega arith)

-- a check for another cause
pub never_check : {A : Type 0} (k : ℕ) (test : Bool) (why : Refusal) (next : Answer A) → number_of why ≢ k → Never k next → Never k (check test why next)
never_check k test why next h never n p e =
    by_test test
    (λ t. never n p (simp t at e))
    (λ t. let z : refuse why ≡ refused n p = simp t at e in λ q. h (let w : number_of why ≡ n = cc in w ∙ q))

-- what an answer leads to
pub never_then : {A B : Type 0} (k : ℕ) (x : Answer A) (f : A → Answer B) → Never k x → ((a : A) → Never k (f a)) → Never k (and_then x f)
never_then k (result a) f never next n p e = next a n p e
never_then k (refused m q) f never next n p e = let z : m ≡ n = cc in λ w. never m q refl (z ∙ w)

-- no refusal has the number 0, which is a result's
pub number_some : (why : Refusal) → 1 ≤ number_of why
number_some cause.Table = omega arith
number_some cause.Contents = omega arith
number_some cause.BodyLength = omega arith
number_some cause.Range = omega arith
number_some (cause.Node p) = omega arith
number_some (cause.Output p) = omega arith
number_some cause.ListLength = omega arith
number_some (cause.Size p) = omega arith
number_some cause.Grant = omega arith
number_some (cause.WorkLines p) = omega arith
number_some (cause.Room p) = omega arith
number_some (cause.Gate p) = omega arith
number_some cause.LineBytes = omega arith
number_some cause.InputBytes = omega arith
number_some cause.OutputNumber = omega arith
number_some (cause.Text p) = omega arith
number_some cause.TextLength = omega arith
number_some (cause.Depth p) = omega arith
