-- What is proved of the construction; the proofs are in proofs/.
use Rattle.std.specs.Prelude.{ℕ, ◌+◌, ◌≤◌, ◌<◌, ◌≡◌, ◌≢◌, Bool, true, false, cond, List, ◌++◌, length, get_or, take, drop, replicate, eqb, ltb}
use Rattle.wire.specs.Bits.{xor_bit, bit, Bits, bits_fit}
use Rattle.wire.specs.Lists.{tabulate}
use Rattle.gate.specs.declared.gates.Gate.{Gate}
use Rattle.gate.specs.Gates.{WellFormed, All}
use Rattle.gate.specs.Running.{run}
use Rattle.gate.specs.Theorems.{Spares}
use Rattle.node.specs.Exprs.{Expr, ZERO, INPUT, AND, value, InputsBelow, EachBelow}
use Rattle.construction.specs.Pools.{Pool, lowest_free, is_among, all_free}
use Rattle.construction.specs.Construction.{Built, input_of, operand, build, share, shares, circuit_gates, lines_needed}
use Rattle.construction.specs.Steps.{Reached}

-- the line that a pool gives is free, and every work line below it is in use
pub record LowestFree (p : Pool) : Type 0 where
  pub is_free : is_among p.used (lowest_free p) ≡ false
  pub work : p.first ≤ lowest_free p
  pub lowest : (i : ℕ) → p.first ≤ i → i < lowest_free p → is_among p.used i ≡ true

-- the gates of a tree that is built into line t where every work line from f on is free
abbrev pub tree_gates : Expr → ℕ → ℕ → List Gate
tree_gates e t f = (build e t (all_free f)).gates

-- how many work lines it takes
abbrev pub tree_lines : Expr → ℕ → ℕ → ℕ
tree_lines e t f = (build e t (all_free f)).pool.most

-- inputs, target and work lines are apart: the inputs are below n, the target t is not, and the work lines start at f, behind it, and those taken end below L
pub record Apart (n : ℕ) (e : Expr) (t f L : ℕ) : Type 0 where
  pub inputs : InputsBelow n e
  pub behind : n ≤ t
  pub free : t < f
  pub below : f + tree_lines e t f ≤ L

-- the k lines from f on hold 0
abbrev pub Zeros : ℕ → ℕ → List ℕ → Type 0
Zeros f k s = (i : ℕ) → f ≤ i → i < f + k → bit s i ≡ 0

-- after the gates of a tree, line t holds its first bit XOR the tree's value on the input lines (01): each input bit is what its line holds at the start
abbrev pub Computes : List Gate → ℕ → Expr → ℕ → List ℕ → Type 0
Computes gs n e t s = bit (run gs s) t ≡ xor_bit (bit s t) (value e (take n s))

-- 001, Theorem 1: where the lines that building takes hold 0, it computes the tree on line t
abbrev pub BuildComputes : Type 0
BuildComputes =
    (n : ℕ) (e : Expr) (t f : ℕ) (s : List ℕ) → Apart n e t f (length s) → Bits s → Zeros f (tree_lines e t f) s → Computes (tree_gates e t f) n e t s

-- from every start, building leaves every line but t and those taken as it was
abbrev pub BuildLeaves : Type 0
BuildLeaves = (e : Expr) (t f : ℕ) (s : List ℕ) (i : ℕ) → i ≢ t → (f ≤ i → f + tree_lines e t f ≤ i) → bit (run (tree_gates e t f) s) i ≡ bit s i

-- the operands of an AND name the same input
pub record OneInput (a b : Expr) : Type 0 where
  pub input : ℕ
  pub first : a ≡ INPUT input
  pub second : b ≡ INPUT input

-- the controls of an AND are one line only where its operands name the same input (02, A5), whatever pool the construction has reached behind the inputs: no work line is both, and none is an input
abbrev pub OneControl : Type 0
OneControl =
    (n : ℕ) (m : Bool) (a b : Expr) (p : Pool) → InputsBelow n (AND m a b) → Reached p → n ≤ p.first
    → let x = operand (input_of a) (build a) p in
    let y = operand (input_of b) (build b) x.pool in
    x.control ≡ y.control → OneInput a b

-- the target is no control
abbrev pub TargetNoControl : Type 0
TargetNoControl = (n : ℕ) (e : Expr) (t f L : ℕ) → Apart n e t f L → All (Spares (eqb t)) (tree_gates e t f)

-- every gate of a share is well formed on its lines, a Toffoli's lower control first
abbrev pub ShareFormed : Type 0
ShareFormed = (n : ℕ) (e : Expr) (t f L : ℕ) → Apart n e t f L → All (WellFormed L) (share e t (all_free f)).gates

-- and so is every gate of a circuit, on its n inputs, its targets and the work lines needed
abbrev pub CircuitFormed : Type 0
CircuitFormed = (n : ℕ) (es : List Expr) → EachBelow n es → All (WellFormed (n + length es + lines_needed n es)) (circuit_gates n es)

-- 001, Theorem 2: from every start, work lines zero or not, a share leaves every line but its target as it started
abbrev pub ShareRestores : Type 0
ShareRestores =
    (n : ℕ) (e : Expr) (t f : ℕ) (s : List ℕ) → Apart n e t f (length s) → Bits s → (i : ℕ) → i ≢ t → bit (run (share e t (all_free f)).gates s) i ≡ bit s i

-- a start (01): one bit for each of so many lines
pub record Start (lines : ℕ) (start : List ℕ) : Type 0 where
  pub long : length start ≡ lines
  pub bits : Bits start

-- every list of line bytes that passes cause 13 is a start: none is left out
abbrev pub EveryStart : Type 0
EveryStart = (lines : ℕ) (s : List ℕ) → bits_fit lines s ≡ true → Start lines s

-- the shares of the first j outputs (01), and the pool after them
unfoldable pub first_built : ℕ → List Expr → ℕ → Built
first_built n es j = shares (take j es) n (all_free (n + length es))

-- their gates
unfoldable pub first_shares : ℕ → List Expr → ℕ → List Gate
first_shares n es j = (first_built n es j).gates

-- the share of output j, whose target is line n + j
unfoldable pub share_of : ℕ → List Expr → ℕ → List Gate
share_of n es j = (share (get_or es j ZERO) (n + j) (first_built n es j).pool).gates

-- after the shares of the first j outputs (01): what they leave of a start, where there are n inputs, m outputs and w work lines, and v k is the value of output k
pub record After (n m w : ℕ) (v : ℕ → ℕ) (j : ℕ) (start after : List ℕ) : Type 0 where
  pub long : length after ≡ length start
  -- every input line and every work line is as it started
  pub inputs : (i : ℕ) → i < n → bit after i ≡ bit start i
  pub work : (i : ℕ) → n + m ≤ i → bit after i ≡ bit start i
  -- a target whose share is not over holds its first bit
  pub waiting : (k : ℕ) → j ≤ k → k < m → bit after (n + k) ≡ bit start (n + k)
  -- where every work line starts at 0, a target whose share is over holds its first bit XOR its output's value
  pub over : Zeros (n + m) w start → (k : ℕ) → k < j → bit after (n + k) ≡ xor_bit (bit start (n + k)) (v k)

-- the targets after the first j shares, from work lines at 0: each has its first bit, XOR its output's value where its share is over
unfoldable pub targets_after : ℕ → ℕ → (ℕ → ℕ) → ℕ → List ℕ → List ℕ
targets_after n m v j start = tabulate (λ k. cond (ltb k j) (xor_bit (bit start (n + k)) (v k)) (bit start (n + k))) m

-- the same as After, of whole parts of the lines: so that no line is left open
pub record AfterInParts (n m w : ℕ) (v : ℕ → ℕ) (j : ℕ) (start after : List ℕ) : Type 0 where
  pub inputs : take n after ≡ take n start
  pub work : drop (n + m) after ≡ drop (n + m) start
  pub waiting : drop j (take m (drop n after)) ≡ drop j (take m (drop n start))
  pub targets : drop (n + m) start ≡ replicate w 0 → take m (drop n after) ≡ targets_after n m v j start

-- what After says of single lines it says of all of them
abbrev pub AfterSays : Type 0
AfterSays =
    (n m w : ℕ) (v : ℕ → ℕ) (j : ℕ) (start after : List ℕ) → Start (n + m + w) start → After n m w v j start after → AfterInParts n m w v j start after

-- the shares restore the lines: one claim about the whole run, with every j in it
pub record SharesRestore (n : ℕ) (es : List Expr) : Type 0 where
  -- the first j shares open the circuit, and all of them are the circuit
  pub opens : (j : ℕ) → j ≤ length es → circuit_gates n es ≡ first_shares n es j ++ (shares (drop j es) (n + j) (first_built n es j).pool).gates
  pub whole : first_shares n es (length es) ≡ circuit_gates n es
  -- each share finds the lines as the one before left them
  pub follows : (start : List ℕ) (j : ℕ) → j < length es → run (first_shares n es (j + 1)) start ≡ run (share_of n es j) (run (first_shares n es j) start)
  -- the values are those on the input lines
  pub holds : (start : List ℕ) → Start (n + length es + lines_needed n es) start → (j : ℕ) → j ≤ length es
      → After n (length es) (lines_needed n es) (λ k. value (get_or es k ZERO) (take n start)) j start (run (first_shares n es j) start)
