-- Laws of what holds of each gate of a list. Assumes nothing.
use Prim.Native.Nat.{ℕ, zero, suc, ◌+◌, ◌<◌}
use native.Mathlib.Omega.{arith}
use native.Mathlib.Nat.{add-zero}
use mathlib.Core.Path.{◌≡◌, sym, subst}
use mathlib.Core.List.{List, [], ◌∷◌, ◌++◌, reverse, reverse-cons}
use lib.ListN.{length, get_or}
use Rattle.wire.specs.Lists.{tabulate_from, tabulate}
use Rattle.gate.specs.declared.gates.Gate.{Gate}
use Rattle.gate.specs.Gates.{All}

-- what holds of each gate of two lists holds of each of both together
pub all_append : (P : Gate → Type 0) (gs hs : List Gate) → All P gs → All P hs → All P (gs ++ hs)
all_append P [] hs a b = b
all_append P (g ∷ gs) hs a b = (a.0, all_append P gs hs a.1 b)

-- and of each of the reversed list
pub all_reverse : (P : Gate → Type 0) (gs : List Gate) → All P gs → All P (reverse gs)
all_reverse P [] a = tt
all_reverse P (g ∷ gs) a =
    subst (All P) (sym (reverse-cons g gs)) (all_append P (reverse gs) (g ∷ []) (all_reverse P gs a.1) (a.0, tt))

-- what follows from P of each gate
pub all_map : {P Q : Gate → Type 0} → ((g : Gate) → P g → Q g) → (gs : List Gate) → All P gs → All Q gs
all_map f [] a = tt
all_map f (g ∷ gs) a = (f g a.0, all_map f gs a.1)

-- what holds of each holds of the one at an index
pub all_at : (P : Gate → Type 0) (gs : List Gate) → All P gs → (i : ℕ) (d : Gate) → i < length gs → P (get_or gs i d)
all_at P [] a i d h = absurd (omega arith)
all_at P (g ∷ gs) a zero d h = a.0
all_at P (g ∷ gs) a (suc i) d h = all_at P gs a.1 i d (omega arith)

-- what holds at each index holds of each gate of a list made by index
from_each : (P : Gate → Type 0) (make : ℕ → Gate) (i k : ℕ) → ((j : ℕ) → j < k → P (make (i + j))) → All P (tabulate_from make i k)
unfolding tabulate_from
from_each P make i zero h = tt
from_each P make i (suc k) h = (
  rw (add-zero i) at (h 0 (omega arith)),
  from_each P make (suc i) k (λ j l. let e : suc i + j ≡ i + suc j = omega arith in rw e (h (suc j) (omega arith))),
)

pub all_tabulate : (P : Gate → Type 0) (make : ℕ → Gate) (k : ℕ) → ((j : ℕ) → j < k → P (make j)) → All P (tabulate make k)
all_tabulate P make k h = from_each P make 0 k (λ j l. let e : 0 + j ≡ j = omega arith in rw e (h j l))
