-- Laws of an AND: its operands, and the gate from their controls. Assumes nothing.
use Prim.Native.Nat.{ℕ, zero, suc, ◌+◌, ◌*◌, ◌<◌, ◌≤◌, min, max}
use native.Mathlib.Omega.{arith}
use native.Mathlib.Nat.{mul_comm}
use native.Mathlib.Decide.{dec_lt}
use mathlib.Core.Path.{◌≡◌, refl, ap, ◌∙◌}
use mathlib.Core.Logic.{◌≢◌}
use mathlib.Core.Bool.{Bool, true, false, false≢true}
use mathlib.Core.Option.{Option, none, some, none-ne-some, some-injective}
use mathlib.Core.List.{List}
use lib.Dec.{eqb}
use borrow.Author.Tests.{eqb-true, eqb-false, ne_eqb}
use Rattle.wire.specs.Bits.{bit}
use Rattle.refusal.proofs.CheckLaws.{by_test}
use Rattle.gate.specs.declared.gates.Gate.{Gate}
use Rattle.gate.specs.declared.gates.Gate.TheVariants.{Cnot, Toffoli}
use Rattle.gate.specs.Gates.{target, Controls, WellFormed, All}
use Rattle.gate.specs.Running.{addend}
use Rattle.gate.proofs.AllLaws.{all_reverse}
use Rattle.gate.proofs.WellFormedLaws.{cnot_formed, toffoli_formed}
use Rattle.node.specs.declared.nodes.Node.{Node}
use Rattle.node.specs.declared.nodes.Node.TheVariants.{Zero, One, Input, Not, Xor, And}
use Rattle.node.specs.Trees.{tree_of}
use Rattle.node.specs.Exprs.{Expr, ZERO, ONE, INPUT, NOT, XOR, AND, InputsBelow}
use Rattle.construction.specs.Construction.{input_of, and_gate, cleaning}
use Rattle.construction.specs.Steps.{same_input}
use Rattle.construction.proofs.Numbers.{control_from, operand_gates, operand_lines, held, most}

-- a tree that is an input is that INPUT node
pub is_input : (a : Expr) (j : ℕ) → input_of a ≡ some j → a ≡ INPUT j
unfolding input_of
is_input ZERO j e = absurd (none-ne-some j e)
is_input ONE j e = absurd (none-ne-some j e)
is_input (INPUT k) j e = ap INPUT (some-injective k j e)
is_input (NOT a) j e = absurd (none-ne-some j e)
is_input (XOR a b) j e = absurd (none-ne-some j e)
is_input (AND m a b) j e = absurd (none-ne-some j e)

-- so it is below n where the tree's inputs are
pub input_below : (n : ℕ) (a : Expr) → InputsBelow n a → (j : ℕ) → input_of a ≡ some j → j < n
input_below n a w j e = rw (is_input a j e) at w

-- and a node of another kind is no input
pub no_input : (ts : List Expr) (node : Node) → ((j : ℕ) → node ≡ Input j → ⊥) → input_of (tree_of ts node) ≡ none
unfolding input_of tree_of
no_input ts Zero h = refl
no_input ts One h = refl
no_input ts (Input j) h = absurd (h j refl)
no_input ts (Not a) h = refl
no_input ts (Xor a b) h = refl
no_input ts (And m a b) h = refl

-- an operand's control is its input, or the line that it is built on
pub control_by : (q : Option ℕ) (f : ℕ) (P : ℕ → Type 0) → ((j : ℕ) → q ≡ some j → P j) → (q ≡ none → P f) → P (control_from q f)
unfolding control_from
control_by (some j) f P hj hf = hj j refl
control_by none f P hj hf = hf refl

-- the controls of two operands are one line just where they name the same input: inputs are below the work lines, and the second operand's line is behind the first's
pub same_control : (q r : Option ℕ) (f g : ℕ) → ((i : ℕ) → q ≡ some i → i < g) → ((j : ℕ) → r ≡ some j → j < f) → (q ≡ none → f < g)
    → eqb (control_from q f) (control_from r g) ≡ same_input q r
unfolding control_from same_input
same_control (some i) (some j) f g hq hr h = refl
same_control (some i) none f g hq hr h = ne_eqb i g (omega (arith, hq i refl))
same_control none (some j) f g hq hr h = ne_eqb f j (omega (arith, hr j refl))
same_control none none f g hq hr h = ne_eqb f g (omega (arith, h refl))

-- then both are that input
pub same_both : (q r : Option ℕ) → same_input q r ≡ true → ((j : ℕ) × (q ≡ some j) × (r ≡ some j))
unfolding same_input
same_both (some i) (some j) e = (j, ap some (eqb-true i j e), refl)
same_both (some i) none e = absurd (false≢true e)
same_both none r e = absurd (false≢true e)

-- what holds of the gates that build an operand holds of those that make it
pub all_made : (P : Gate → Type 0) (q : Option ℕ) (gs : List Gate) → (q ≡ none → All P gs) → All P (operand_gates q gs)
unfolding operand_gates
all_made P (some j) gs h = tt
all_made P none gs h = h refl

-- an operand that is built takes a line of its own
pub lines_built : {q : Option ℕ} → q ≡ none → (k : ℕ) → operand_lines q k ≡ 1 + k
unfolding operand_lines
lines_built e k = rw e refl

-- and no fewer where its tree has more
pub lines_more : (q : Option ℕ) (k l : ℕ) → k ≤ l → operand_lines q k ≤ operand_lines q l
unfolding operand_lines
lines_more (some j) k l h = omega arith
lines_more none k l h = omega arith

-- what is still held is no more than the most held together
pub held_most : (e : Expr) → held e ≤ most e
unfolding held most
held_most ZERO = omega arith
held_most ONE = omega arith
held_most (INPUT j) = omega arith
held_most (NOT a) = held_most a
held_most (XOR a b) = omega (arith, held_most b)
held_most (AND true a b) = omega arith
held_most (AND false a b) = omega (arith, lines_more (input_of b) (held b) (most b) (held_most b))

-- what holds of the gates that made the operands of an AND holds of those that clean up behind it
pub all_cleaning : (P : Gate → Type 0) (m : Bool) (gs : List Gate) → All P gs → All P (cleaning m gs)
unfolding cleaning
all_cleaning P true gs h = all_reverse P gs h
all_cleaning P false gs h = tt

-- the gate of an AND, by whether its controls are one line
pub and_by : (c d t : ℕ) (P : Gate → Type 0) → (c ≡ d → P (Cnot c t)) → (c ≢ d → P (Toffoli (min c d) (max c d) t)) → P (and_gate c d t)
unfolding and_gate
and_by c d t P same other = by_test (eqb c d) (λ e. rw (e, and_gate) (same (eqb-true c d e))) (λ e. rw (e, and_gate) (other (eqb-false c d e)))

-- two lines, the lower first, by which of them it is
lower_by : (c d : ℕ) (P : ℕ → ℕ → Type 0) → P c d → P d c → P (min c d) (max c d)
lower_by c d P h k = go (dec_lt c d)
  where
    go : Dec (c < d) → P (min c d) (max c d)
    go (yes l) =
        let e : min c d ≡ c = omega arith in
        let q : max c d ≡ d = omega arith in
        rw (e, q) h
    go (no l) =
        let e : min c d ≡ d = omega arith in
        let q : max c d ≡ c = omega arith in
        rw (e, q) k

-- its target is t
pub and_target : (c d t : ℕ) → target (and_gate c d t) ≡ t
unfolding target
and_target c d t = and_by c d t (λ g. target g ≡ t) (λ e. refl) (λ e. refl)

-- its controls are c and d
pub and_controls : (c d t : ℕ) (P : ℕ → Type 0) → P c → P d → Controls P (and_gate c d t)
and_controls c d t P hc hd = and_by c d t (Controls P) (λ e. hc) (λ e. lower_by c d (λ p q. P p × P q) (hc, hd) (hd, hc))

-- it is well formed where the controls are lines and not the target
pub and_formed : (c d t L : ℕ) → c < L → d < L → t < L → c ≢ t → d ≢ t → WellFormed L (and_gate c d t)
and_formed c d t L hc hd ht ct dt =
    let apart : (min c d ≢ t) × (max c d ≢ t) = lower_by c d (λ p q. (p ≢ t) × (q ≢ t)) (ct, dt) (dt, ct) in
    and_by c d t (WellFormed L)
    (λ e. cnot_formed L c t (record { control_below = hc; target_below = ht; apart = ct }))
    (λ e. toffoli_formed L (min c d) (max c d) t (omega arith)
    (record { first_below = omega arith; second_below = omega arith; target_below = ht; first_apart = apart.0; second_apart = apart.1 }))

square : (b : ℕ) → b < 2 → b ≡ b * b
square zero h = refl
square (suc zero) h = refl
square (suc (suc b)) h = absurd (omega arith)

-- and it XORs the AND of its controls
pub and_addend : (c d t : ℕ) (s : List ℕ) → bit s c < 2 → addend (and_gate c d t) s ≡ bit s c * bit s d
unfolding addend
and_addend c d t s h =
    and_by c d t (λ g. addend g s ≡ bit s c * bit s d)
    (λ e. square (bit s c) h ∙ ap (λ (k : ℕ). bit s c * bit s k) e)
    (λ e. lower_by c d (λ p q. bit s p * bit s q ≡ bit s c * bit s d) refl (mul_comm (bit s d) (bit s c)))
