-- Laws of going through the marked ANDs of a tree: none is left out. Assumes nothing.
use Prim.Native.Nat.{ℕ}
use mathlib.Core.Path.{◌≡◌, refl}
use mathlib.Core.Bool.{Bool, true, false}
use mathlib.Core.Option.{none}
use mathlib.Core.List.{List}
use Rattle.gate.specs.declared.gates.Gate.{Gate}
use Rattle.node.specs.Exprs.{Expr, ZERO, ONE, INPUT, NOT, XOR, AND}
use Rattle.construction.specs.Pools.{Pool}
use Rattle.construction.specs.Construction.{input_of}
use Rattle.marks.specs.Freeing.{EachMarked, NoneLeftOut}

not-true : (m : Bool) → (m ≡ true → ⊥) → m ≡ false
not-true true h = absurd (h refl)
not-true false h = refl

pub none_left_out : NoneLeftOut
none_left_out ZERO before t p h = tt
none_left_out ONE before t p h = tt
none_left_out (INPUT j) before t p h = tt
none_left_out (NOT a) before t p h = none_left_out a _ t p h
none_left_out (XOR a b) before t p h = (none_left_out a _ t p h.0, none_left_out b _ t _ h.1)
none_left_out (AND m a b) before t p h = (not-true m h.0, none_left_out a _ _ _ h.1, none_left_out b _ _ _ h.2)

-- where an operand of AND is an input there is no marked AND in it
pub of_operand : (P : List Gate → Expr → Expr → ℕ → Pool → Type 0) (before : List Gate) (e : Expr) (t : ℕ) (p : Pool) → (input_of e ≡ none → EachMarked P before e t p) → EachMarked P before e t p
unfolding input_of
of_operand P before ZERO t p h = tt
of_operand P before ONE t p h = tt
of_operand P before (INPUT j) t p h = tt
of_operand P before (NOT a) t p h = h refl
of_operand P before (XOR a b) t p h = h refl
of_operand P before (AND m a b) t p h = h refl

-- what holds of every marked AND holds where it follows
each_marked_of : (P Q : List Gate → Expr → Expr → ℕ → Pool → Type 0) → ((before : List Gate) (a b : Expr) (t : ℕ) (p : Pool) → P before a b t p → Q before a b t p)
    → (e : Expr) (before : List Gate) (t : ℕ) (p : Pool) → EachMarked P before e t p → EachMarked Q before e t p
each_marked_of P Q f ZERO before t p h = tt
each_marked_of P Q f ONE before t p h = tt
each_marked_of P Q f (INPUT j) before t p h = tt
each_marked_of P Q f (NOT a) before t p h = each_marked_of P Q f a _ t p h
each_marked_of P Q f (XOR a b) before t p h =
    (each_marked_of P Q f a _ t _ h.0, each_marked_of P Q f b _ t _ h.1)
each_marked_of P Q f (AND m a b) before t p h =
    (λ e. f before a b t p (h.0 e), each_marked_of P Q f a _ _ _ h.1, each_marked_of P Q f b _ _ _ h.2)

pub each_marked : (P Q : List Gate → Expr → Expr → ℕ → Pool → Type 0) → ((before : List Gate) (a b : Expr) (t : ℕ) (p : Pool) → P before a b t p → Q before a b t p)
    → (before : List Gate) (e : Expr) (t : ℕ) (p : Pool) → EachMarked P before e t p → EachMarked Q before e t p
each_marked P Q f before e t p h = each_marked_of P Q f e before t p h
