-- The kinds of nodes and their numbers.
use Rattle.std.specs.Prelude.{ℕ}
use Rattle.node.specs.declared.kinds.Kind.{Kind}
use Rattle.node.specs.declared.kinds.Kind.TheVariants.{Zero, One, Input, Not, Xor, And}

-- the number of a kind, its byte in a program file
abbrev pub kind_number : Kind → ℕ
kind_number Zero = 0
kind_number One = 1
kind_number Input = 2
kind_number Not = 3
kind_number Xor = 4
kind_number And = 5
