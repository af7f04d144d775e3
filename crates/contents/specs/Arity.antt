-- The numbers of inputs and of outputs (a function's arity), with which the first body of both files opens.
use Rattle.std.specs.Prelude.{ℕ, Bool, ◌&&◌, List, leb}
use Rattle.wire.specs.Bytes.{at16}
use Rattle.wire.specs.Limits.{most_inputs, most_outputs}
use Rattle.contents.specs.Contents.{body_of}

-- the number of inputs, n, as read
abbrev pub inputs_of : List ℕ → ℕ
inputs_of f = at16 (body_of f 0) 0

-- the number of outputs, m, as read
abbrev pub outputs_of : List ℕ → ℕ
outputs_of f = at16 (body_of f 0) 2

-- the test of cause 4 that both files share, on the first body: at most 64 inputs, 1 to 64 outputs
unfoldable pub arity_fits : List ℕ → Bool
arity_fits head = leb (at16 head 0) most_inputs && (leb 1 (at16 head 2) && leb (at16 head 2) most_outputs)
