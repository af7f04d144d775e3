-- Laws of the pool: where the lines in use are the first ones, the construction by numbers is the construction. Assumes nothing.
use Prim.Native.Nat.{ℕ, zero, suc, ◌+◌, ◌<◌, ◌≤◌, max}
use native.Mathlib.Omega.{arith}
use native.Mathlib.Nat.{add-zero}
use mathlib.Core.Path.{◌≡◌, refl, sym, ap, ap₂, ◌∙◌}
use mathlib.Core.Logic.{◌≢◌}
use mathlib.Core.Bool.{Bool, true, false, cond, false≢true}
use mathlib.Core.Option.{Option, none, some}
use mathlib.Core.List.{List, [], ◌∷◌, ◌++◌}
use lib.ListN.{length, get_or, take, drop}
use lib.Dec.{eqb}
use borrow.Author.Tests.{eqb-true, eqb-false, ne_eqb}
use Rattle.refusal.specs.Checks.{lowest_from}
use Rattle.refusal.proofs.CheckLaws.{by_test, lowest_before, lowest_none}
use Rattle.gate.specs.declared.gates.Gate.{Gate}
use Rattle.node.specs.Exprs.{Expr, ZERO, ONE, INPUT, NOT, XOR, AND}
use Rattle.construction.specs.Pools.{Pool, is_among, all_free, lowest_free, take_line, release}
use Rattle.construction.specs.Theorems.{LowestFree, tree_gates, tree_lines, first_built, first_shares, share_of}
use Rattle.construction.specs.Construction.{Built, MadeOperand, input_of, operand, cleaned, build, share, shares, all_shares, circuit_gates, lines_needed}
use Rattle.construction.specs.Steps.{Reached, fresh, taken, built, released, tree_held}
use Rattle.construction.proofs.AndLaws.{lines_more, held_most}
use Rattle.construction.proofs.Numbers.{control_from, operand_gates, operand_lines, held, most, next_free, build_from, share_from, shares_from, most_of}

-- the k lines from f on, highest first
unfoldable pub lines_from : ℕ → ℕ → List ℕ
lines_from f zero = []
lines_from f (suc k) = (f + k) ∷ lines_from f k

-- the pool whose first k lines are in use, m having been in use together
unfoldable pub in_use_lem : ℕ → ℕ → ℕ → Pool
in_use_lem f k m = record { first = f; used = lines_from f k; most = m }

lines_length : (f k : ℕ) → length (lines_from f k) ≡ k
unfolding lines_from
lines_length f zero = refl
lines_length f (suc k) = ap suc (lines_length f k)

pub lines_among : (f k j : ℕ) → j < k → is_among (lines_from f k) (f + j) ≡ true
unfolding lines_from is_among
lines_among f zero j h = absurd (omega arith)
lines_among f (suc k) j h = by_test (eqb (f + j) (f + k)) (λ e. rw e refl) (λ e. rw e (lines_among f k j (omega (arith, eqb-false (f + j) (f + k) e))))

-- the lowest free line is the one behind those in use
pub lowest_behind : (f k m : ℕ) → lowest_free (in_use_lem f k m) ≡ f + k
unfolding lowest_free in_use_lem
lowest_behind f k m = rw (lines_length f k) (lowest_none (is_among (lines_from f k)) f k (lines_among f k))

-- and when it is taken, one line more is in use
pub take_behind : (f k m : ℕ) → take_line (in_use_lem f k m) ≡ in_use_lem f (k + 1) (max m (k + 1))
unfolding take_line in_use_lem lines_from
take_behind f k m =
    let next : k + 1 ≡ suc k = omega arith in
    let count : 1 + length (lines_from f k) ≡ suc k = omega (arith, lines_length f k) in
    rw next (ap₂ (λ (l c : ℕ). record { first = f; used = l ∷ lines_from f k; most = max m c }) (lowest_behind f k m) count)

-- gates with a pool, from equal parts
built_same : {gs hs : List Gate} (f : ℕ) {k l m n : ℕ} → gs ≡ hs → k ≡ l → m ≡ n → ◌≡◌ {A = Built} (record { gates = gs; pool = in_use_lem f k m }) (record { gates = hs; pool = in_use_lem f l n })
built_same f p q r = rw (p, q, r) refl

operand_same : {c d : ℕ} {gs hs : List Gate} (f : ℕ) {k l m n : ℕ} → c ≡ d → gs ≡ hs → k ≡ l → m ≡ n
    → ◌≡◌ {A = MadeOperand} (record { control = c; gates = gs; pool = in_use_lem f k m }) (record { control = d; gates = hs; pool = in_use_lem f l n })
operand_same f o p q r = rw (o, p, q, r) refl

-- a tree is built by numbers, where k lines are in use, from line f on
abbrev ByNumbers : Expr → Type 0
ByNumbers e = (t f k m : ℕ) → k ≤ m → build e t (in_use_lem f k m) ≡ record { gates = build_from e t (f + k); pool = in_use_lem f (k + held e) (max m (k + most e)) }

-- then it is made by numbers as an operand too
pub made_is : (q : Option ℕ) (a : Expr) → ByNumbers a → (f k m : ℕ) → k ≤ m
    → operand q (build a) (in_use_lem f k m)
    ≡ record { control = control_from q (f + k); gates = operand_gates q (build_from a (f + k) (f + k + 1)); pool = in_use_lem f (k + operand_lines q (held a)) (max m (k + operand_lines q (most a))) }
unfolding operand control_from operand_gates operand_lines
made_is (some j) a is f k m h = operand_same f refl refl (omega arith) (omega arith)
made_is none a is f k m h =
    let one : f + (k + 1) ≡ f + k + 1 = omega arith in
    rw (lowest_behind f k m, take_behind f k m, is (f + k) f (k + 1) (max m (k + 1)) (omega arith))
    (operand_same f refl (ap (build_from a (f + k)) one) (omega arith) (omega arith))

-- after a marked AND just the lines in use before it are in use
cleaned_is : (c : Bool) (f k m j n l : ℕ) → j ≡ k + l → cleaned c (in_use_lem f k m) (in_use_lem f j n) ≡ in_use_lem f (k + cond c 0 l) n
unfolding cleaned release in_use_lem
cleaned_is true f k m j n l e = ap (λ (i : ℕ). in_use_lem f i n) (sym (add-zero k))
cleaned_is false f k m j n l e = ap (λ (i : ℕ). in_use_lem f i n) e

pub build_is : (e : Expr) → ByNumbers e
unfolding build build_from held most next_free
build_is ZERO t f k m h = built_same f refl (omega arith) (omega arith)
build_is ONE t f k m h = built_same f refl (omega arith) (omega arith)
build_is (INPUT j) t f k m h = built_same f refl (omega arith) (omega arith)
build_is (NOT a) t f k m h = rw (build_is a t f k m h) (built_same f refl refl refl)
build_is (XOR a b) t f k m h =
    let at : f + (k + held a) ≡ f + k + held a = omega arith in
    rw (build_is a t f k m h, build_is b t f (k + held a) (max m (k + most a)) (omega (arith, held_most a)))
    (built_same f (ap (λ (g : ℕ). build_from a t (f + k) ++ build_from b t g) at) (omega arith) (omega arith))
build_is (AND c a b) t f k m h =
    let more : operand_lines (input_of a) (held a) ≤ operand_lines (input_of a) (most a) = lines_more (input_of a) (held a) (most a) (held_most a) in
    let k₁ : ℕ = k + operand_lines (input_of a) (held a) in
    let m₁ : ℕ = max m (k + operand_lines (input_of a) (most a)) in
    let two : f + k₁ ≡ next_free (f + k) a = omega arith in
    rw (made_is (input_of a) a (build_is a) f k m h, made_is (input_of b) b (build_is b) f k₁ m₁ (omega arith))
    (rw (cleaned_is c f k m (k₁ + operand_lines (input_of b) (held b)) (max m₁ (k₁ + operand_lines (input_of b) (most b))) (operand_lines (input_of a) (held a) + operand_lines (input_of b) (held b)) (omega arith), two)
    (built_same f refl refl (omega arith)))

-- the same where no line was taken yet
all_free_lem : (f : ℕ) → all_free f ≡ in_use_lem f 0 0
unfolding all_free in_use_lem lines_from
all_free_lem f = refl

pub tree_is : (e : Expr) (t f : ℕ) → build e t (all_free f) ≡ record { gates = build_from e t f; pool = in_use_lem f (held e) (most e) }
tree_is e t f = rw (all_free_lem f, build_is e t f 0 0 (omega arith)) (rw add-zero (built_same f refl (omega arith) (omega arith)))

-- a share by numbers, where all work lines from line f on are free: so they are again after it
release_all : (f k m : ℕ) → release [] (in_use_lem f k m) ≡ in_use_lem f 0 m
unfolding release in_use_lem lines_from
release_all f k m = refl

pub share_is : (e : Expr) (t f m : ℕ) → share e t (in_use_lem f 0 m) ≡ record { gates = share_from e t f; pool = in_use_lem f 0 (max m (most e)) }
unfolding share share_from
share_is e t f m = rw (build_is e t f 0 m (omega arith), release_all, add-zero f) (built_same f refl refl (omega arith))

-- several shares by numbers
pub shares_are : (es : List Expr) (t f m : ℕ) → shares es t (in_use_lem f 0 m) ≡ record { gates = shares_from es t f; pool = in_use_lem f 0 (max m (most_of es)) }
unfolding shares shares_from most_of
shares_are [] t f m = built_same f refl refl (omega arith)
shares_are (e ∷ es) t f m = rw (share_is e t f m, shares_are es (t + 1) f (max m (most e))) (built_same f refl refl (omega arith))

-- a tree's gates and lines, where no line was taken yet
module _ (e : Expr) (t f : ℕ) where
  pub tree_gates_lem : tree_gates e t f ≡ build_from e t f
  tree_gates_lem = ap (λ (b : Built). b.gates) (tree_is e t f)

  pub tree_lines_lem : tree_lines e t f ≡ most e
  unfolding in_use_lem
  tree_lines_lem = ap (λ (b : Built). b.pool.most) (tree_is e t f)

  pub tree_held_lem : tree_held e t f ≡ held e
  unfolding in_use_lem
  tree_held_lem = ap (λ (b : Built). length b.pool.used) (tree_is e t f) ∙ lines_length f (held e)

  pub share_lines : (share e t (all_free f)).pool.most ≡ most e
  unfolding in_use_lem
  share_lines = ap (λ (p : Pool). (share e t p).pool.most) (all_free_lem f) ∙ ap (λ (b : Built). b.pool.most) (share_is e t f 0) ∙ omega arith

  pub share_gates : (share e t (all_free f)).gates ≡ share_from e t f
  share_gates = ap (λ (p : Pool). (share e t p).gates) (all_free_lem f) ∙ ap (λ (b : Built). b.gates) (share_is e t f 0)

-- a circuit's gates and lines
module _ (n : ℕ) (es : List Expr) where
  pub circuit_is : circuit_gates n es ≡ shares_from es n (n + length es)
  unfolding circuit_gates all_shares
  circuit_is = ap (λ (p : Pool). (shares es n p).gates) (all_free_lem (n + length es)) ∙ ap (λ (b : Built). b.gates) (shares_are es n (n + length es) 0)

  pub lines_needed_lem : lines_needed n es ≡ most_of es
  unfolding lines_needed all_shares in_use_lem
  lines_needed_lem = ap (λ (p : Pool). (shares es n p).pool.most) (all_free_lem (n + length es)) ∙ ap (λ (b : Built). b.pool.most) (shares_are es n (n + length es) 0) ∙ omega arith

-- the shares of the first j outputs, the next one and those after them
module _ (n : ℕ) (es : List Expr) (j : ℕ) where
  pub first_built_lem : first_built n es j ≡ record { gates = shares_from (take j es) n (n + length es); pool = in_use_lem (n + length es) 0 (most_of (take j es)) }
  unfolding first_built
  first_built_lem = ap (shares (take j es) n) (all_free_lem (n + length es)) ∙ shares_are (take j es) n (n + length es) 0 ∙ built_same (n + length es) refl refl (omega arith)

  pub first_shares_lem : first_shares n es j ≡ shares_from (take j es) n (n + length es)
  unfolding first_shares
  first_shares_lem = ap (λ (b : Built). b.gates) first_built_lem

  pub share_of_lem : share_of n es j ≡ share_from (get_or es j ZERO) (n + j) (n + length es)
  unfolding share_of
  share_of_lem = rw (first_built_lem, share_of) (ap (λ (b : Built). b.gates) (share_is (get_or es j ZERO) (n + j) (n + length es) (most_of (take j es))))

  pub rest_shares : (shares (drop j es) (n + j) (first_built n es j).pool).gates ≡ shares_from (drop j es) (n + j) (n + length es)
  rest_shares = rw first_built_lem (ap (λ (b : Built). b.gates) (shares_are (drop j es) (n + j) (n + length es) (most_of (take j es))))

-- the lines in use of a pool are its first ones
pub record FirstUsed (p : Pool) : Type 0 where
  pub line : ℕ
  pub count : ℕ
  pub peak : ℕ
  pub few : count ≤ peak
  pub is : p ≡ in_use_lem line count peak

-- so they are in every pool that the construction reaches
pub reached_first : (p : Pool) → Reached p → FirstUsed p
reached_first _ (fresh f) = record { line = f; count = 0; peak = 0; few = omega arith; is = all_free_lem f }
reached_first _ (taken p h) =
    let u = reached_first p h in
    record { line = u.line; count = u.count + 1; peak = max u.peak (u.count + 1); few = omega arith; is = ap take_line u.is ∙ take_behind u.line u.count u.peak }
reached_first _ (built e t p h) =
    let u = reached_first p h in
    record {
      line = u.line;
      count = u.count + held e;
      peak = max u.peak (u.count + most e);
      few = omega (arith, held_most e);
      is = ap (λ (q : Pool). (build e t q).pool) u.is ∙ ap (λ (b : Built). b.pool) (build_is e t u.line u.count u.peak u.few);
    }
reached_first _ (released p h) =
    let u = reached_first p h in
    record { line = u.line; count = 0; peak = u.peak; few = omega arith; is = ap (release []) u.is ∙ release_all u.line u.count u.peak }

-- a tree by numbers in such a pool, f being its lowest free line
module _ (e : Expr) (t : ℕ) {p : Pool} {f : ℕ} (h : Reached p) (low : lowest_free p ≡ f) where
  reached_at : f ≡ (reached_first p h).line + (reached_first p h).count
  reached_at = let u = reached_first p h in sym low ∙ ap lowest_free u.is ∙ lowest_behind u.line u.count u.peak

  pub reached_gates : (build e t p).gates ≡ build_from e t f
  reached_gates =
      let u = reached_first p h in
      ap (λ (q : Pool). (build e t q).gates) u.is ∙ ap (λ (b : Built). b.gates) (build_is e t u.line u.count u.peak u.few) ∙ ap (build_from e t) (sym reached_at)

  pub reached_free : lowest_free (build e t p).pool ≡ f + held e
  reached_free =
      let u = reached_first p h in
      ap (λ (q : Pool). lowest_free (build e t q).pool) u.is
      ∙ ap (λ (b : Built). lowest_free b.pool) (build_is e t u.line u.count u.peak u.few)
      ∙ lowest_behind u.line (u.count + held e) (max u.peak (u.count + most e))
      ∙ omega (arith, reached_at)

-- where all lines from f on are free, f is the lowest
pub start_free : (f : ℕ) → lowest_free (all_free f) ≡ f
start_free f = ap lowest_free (all_free_lem f) ∙ lowest_behind f 0 0 ∙ add-zero f

-- an operand's control depends on the pool by its lowest free line alone
pub control_is : (q : Option ℕ) (into : ℕ → Pool → Built) (p : Pool) → (operand q into p).control ≡ control_from q (lowest_free p)
unfolding operand control_from
control_is (some j) into p = refl
control_is none into p = refl

-- one of the lines in use is taken off the list
unfoldable less : List ℕ → ℕ → List ℕ
less [] i = []
less (l ∷ ls) i = cond (eqb i l) ls (l ∷ less ls i)

less_length : (ls : List ℕ) (i : ℕ) → is_among ls i ≡ true → length (less ls i) + 1 ≡ length ls
unfolding less is_among
less_length [] i h = absurd (false≢true h)
less_length (l ∷ ls) i h = by_test (eqb i l) (λ e. rw e (omega arith)) (λ e. rw e (omega (arith, less_length ls i (rw e at h))))

less_among : (ls : List ℕ) (i j : ℕ) → j ≢ i → is_among ls j ≡ true → is_among (less ls i) j ≡ true
unfolding less is_among
less_among [] i j n h = h
less_among (l ∷ ls) i j n h =
    by_test (eqb i l)
    (λ e. rw e (let d : eqb j l ≡ false = ne_eqb j l (λ q. n (q ∙ sym (eqb-true i l e))) in rw d at h))
    (λ e. rw e (by_test (eqb j l) (λ d. rw d refl) (λ d. rw d (less_among ls i j n (rw d at h)))))

-- so many different lines are not in use where fewer are
among_few : (ls : List ℕ) (f k : ℕ) → ((j : ℕ) → j < k → is_among ls (f + j) ≡ true) → k ≤ length ls
among_few ls f zero h = omega arith
among_few ls f (suc k) h =
    let last : is_among ls (f + k) ≡ true = h k (omega arith) in
    omega (arith, less_length ls (f + k) last, among_few (less ls (f + k)) f k (λ j l. less_among ls (f + k) (f + j) (omega arith) (h j (omega arith))))

-- where a test holds at the lowest index at which it would fail, it fails at none
lowest_end : (test : ℕ → Bool) (i k : ℕ) → test (lowest_from test i k) ≡ true → lowest_from test i k ≡ i + k
unfolding lowest_from
lowest_end test i zero h = sym (add-zero i)
lowest_end test i (suc k) h =
    by_test (test i)
    (λ e. rw e (lowest_end test (suc i) k (rw e at h) ∙ omega arith))
    (λ e. absurd (false≢true (sym e ∙ (rw e at h))))

-- the line that a pool gives is the lowest free one
pub lowest_free_lem : (p : Pool) → LowestFree p
unfolding lowest_free
lowest_free_lem p =
    let test : ℕ → Bool = is_among p.used in
    let k : ℕ = length p.used in
    let low : ℕ = lowest_from test p.first k in
    let before = lowest_before test p.first k in
    record {
      is_free =
          by_test (test low)
          (λ e.
          let all : low ≡ p.first + k = lowest_end test p.first k e in
          let many : k + 1 ≤ k = among_few p.used p.first (k + 1) (λ j h. by_test (eqb j k)
          (λ d. let at : p.first + j ≡ low = omega (arith, eqb-true j k d) in rw at e)
          (λ d. before.1 (p.first + j) (omega arith) (omega (arith, eqb-false j k d)))) in
          absurd (omega arith))
          (λ e. e);
      work = before.0;
      lowest = before.1;
    }
