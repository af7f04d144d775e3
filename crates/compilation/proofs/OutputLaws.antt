-- Laws of the trees of a program's outputs. Assumes nothing.
use Prim.Native.Nat.{ℕ, zero, suc, ◌<◌}
use mathlib.Core.Path.{◌≡◌}
use mathlib.Core.List.{List}
use lib.ListN.{length, get_or}
use Rattle.wire.specs.Lists.{tabulate_from}
use Rattle.wire.proofs.ListLaws.{tabulate_length, tabulate_at}
use Rattle.node.specs.Exprs.{Expr, ZERO, InputsBelow, EachBelow}
use Rattle.program.specs.Programs.{Program, output_tree}
use Rattle.program.specs.Reading.{program_of}
use Rattle.program.proofs.AcceptedLaws.{Accepted, inputs_is, inputs_below}
use Rattle.compilation.specs.Compiling.{output_trees}

module _ (p : Program) where
  -- there is a tree for each output, and it is the output's
  pub trees_length : length (output_trees p) ≡ length p.outputs
  unfolding output_trees
  trees_length = tabulate_length (output_tree p) (length p.outputs)

  pub tree_is : (k : ℕ) → k < length p.outputs → get_or (output_trees p) k ZERO ≡ output_tree p k
  unfolding output_trees
  tree_is k h = tabulate_at (output_tree p) (length p.outputs) k ZERO h

-- trees made by index have their inputs below n where each of them has
each_made : (n : ℕ) (make : ℕ → Expr) (i k : ℕ) → ((j : ℕ) → InputsBelow n (make j)) → EachBelow n (tabulate_from make i k)
unfolding tabulate_from
each_made n make i zero h = tt
each_made n make i (suc k) h = (h i, each_made n make (suc i) k h)

-- the inputs of an accepted program's outputs are its inputs
pub trees_inputs : (f : List ℕ) → Accepted f → EachBelow (program_of f).inputs (output_trees (program_of f))
unfolding output_trees output_tree
trees_inputs f a =
    rw (inputs_is f a)
    (each_made _ (output_tree (program_of f)) 0 (length (program_of f).outputs) (λ k. inputs_below f a (get_or (program_of f).outputs k 0)))
