-- What a node means: the expression that it stands for with its operands unfolded, its value and its size.
use Rattle.std.specs.Prelude.{ℕ, ◌+◌, ◌*◌, ◌<◌, Bool, List, [], ◌∷◌}
use Rattle.wire.specs.Bits.{xor_bit, bit}

-- a node unfolded: a shared operand stands once for each use
pub data Expr : Type 0 where
  ZERO ONE : Expr
  INPUT : ℕ → Expr
  NOT : Expr → Expr
  XOR : Expr → Expr → Expr
  -- with its mark (02, A7): true where what its operands take is undone after its gate
  AND : Bool → Expr → Expr → Expr

-- the value (01) on the input bits x; NOT is 1 XOR its operand (001)
unfoldable pub value : Expr → List ℕ → ℕ
value ZERO x = 0
value ONE x = 1
value (INPUT j) x = bit x j
value (NOT a) x = xor_bit 1 (value a x)
value (XOR a b) x = xor_bit (value a x) (value b x)
value (AND m a b) x = value a x * value b x

-- the unfolded size (01): 1 plus the sizes of the operands
unfoldable pub size : Expr → ℕ
size ZERO = 1
size ONE = 1
size (INPUT j) = 1
size (NOT a) = 1 + size a
size (XOR a b) = 1 + size a + size b
size (AND m a b) = 1 + size a + size b

-- every input's number is below n
abbrev pub InputsBelow : ℕ → Expr → Type 0
InputsBelow n ZERO = Unit {0}
InputsBelow n ONE = Unit {0}
InputsBelow n (INPUT j) = j < n
InputsBelow n (NOT a) = InputsBelow n a
InputsBelow n (XOR a b) = InputsBelow n a × InputsBelow n b
InputsBelow n (AND m a b) = InputsBelow n a × InputsBelow n b

-- every input of every expression is below n
abbrev pub EachBelow : ℕ → List Expr → Type 0
EachBelow n [] = Unit {0}
EachBelow n (e ∷ es) = InputsBelow n e × EachBelow n es
