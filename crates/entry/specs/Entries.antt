-- The numbers that the count list has for a node, said of the node's tree; for the steps of quoting only.
use Rattle.std.specs.Prelude.{ℕ, ◌+◌, ◌≤◌, Bool, Option, Some, None}
use Rattle.std.proofs.Math.Option as tree
use Rattle.wire.specs.Limits.{most_quoted}
use Rattle.wire.specs.Shown.{shown}
use Rattle.node.specs.Exprs.{Expr}
use Rattle.construction.specs.Construction.{input_of}
use Rattle.construction.specs.Steps.{tree_held, operand_count, cleaning_count, built_count, undone_count}
use Rattle.construction.specs.Theorems.{tree_lines}
use Rattle.entry.specs.declared.Tally.{Tally}
use Rattle.entry.specs.declared.Entry.{Entry}
use Rattle.entry.specs.declared.OperandCounts.{OperandCounts}

-- the gates (c 1) or the Toffolis (c 0) that build a tree, and those of them that a share undoes, as shown
unfoldable pub tally_of : ℕ → Expr → Tally
tally_of c e = record { built = shown most_quoted (built_count c e); undone = shown most_quoted (undone_count c e) }

-- the input that a tree is, as an entry has it
unfoldable pub input_field : tree.Option ℕ → Option ℕ
input_field tree.none = None
input_field (tree.some j) = Some j

-- the input that an entry says its tree is
unfoldable pub input_in : Option ℕ → tree.Option ℕ
input_in None = tree.none
input_in (Some j) = tree.some j

-- the entry of a node with this tree; it holds and takes as many lines on every target and with every first work line, so target 0 and work lines from 1 on stand for all
unfoldable pub entry_of : Expr → Entry
entry_of e =
    record {
      gates = tally_of 1 e;
      toffolis = tally_of 0 e;
      held = shown most_quoted (tree_held e 0 1);
      lines = shown most_quoted (tree_lines e 0 1);
      input = input_field (input_of e);
    }

-- the entry of a leaf with so many gates, and the input that it is
abbrev pub leaf_entry : ℕ → Option ℕ → Entry
leaf_entry gates input =
    record {
      gates = record { built = gates; undone = 0 };
      toffolis = record { built = 0; undone = 0 };
      held = 0;
      lines = 0;
      input = input;
    }

-- what an operand of AND adds to it, from its entry: nothing where it is an input, else what builds it, and one line more than its tree's
abbrev pub operand_from : Entry → OperandCounts
operand_from x =
    record {
      gates = operand_count (input_in x.input) x.gates.built;
      toffolis = operand_count (input_in x.input) x.toffolis.built;
      held = operand_count (input_in x.input) (1 + x.held);
      lines = operand_count (input_in x.input) (1 + x.lines);
    }

-- the tally of an AND whose own gate counts c, where so many gates make its operands: these are undone, and so are those that clean up behind it
abbrev pub and_tally : Bool → ℕ → ℕ → Tally
and_tally m c made = record { built = shown most_quoted (c + (made + cleaning_count m made)); undone = shown most_quoted (made + cleaning_count m made) }

-- a tally whose numbers are small enough to be added
pub record SmallTally (t : Tally) : Type 0 where
  pub built_few : t.built ≤ most_quoted + 1
  pub undone_few : t.undone ≤ most_quoted + 1

-- an entry whose counts are
pub record SmallEntry (e : Entry) : Type 0 where
  pub gates_small : SmallTally e.gates
  pub toffolis_small : SmallTally e.toffolis
  pub held_few : e.held ≤ most_quoted + 1
  pub lines_few : e.lines ≤ most_quoted + 1

-- and what an operand adds, whose lines are one more than its own
pub record SmallOperand (o : OperandCounts) : Type 0 where
  pub gates_few : o.gates ≤ most_quoted + 1
  pub toffolis_few : o.toffolis ≤ most_quoted + 1
  pub held_few : o.held ≤ most_quoted + 2
  pub lines_few : o.lines ≤ most_quoted + 2
