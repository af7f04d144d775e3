use Prim.Native.Nat.{◌*◌}
use native.Mathlib.Omega.{arith}
use mathlib.Core.Path.{◌∙◌}
use Rattle.node.proofs.FilledLaws.{run_stored, runs_stored}
use Rattle.entries.specs.CountList.{numbers_of, tree_numbers}
use Rattle.entries.proofs.CountListLaws.{eight, entry_stored, operands_listed}
use Rattle.entries.proofs.fill_entries.Goals as goal

pub next_entry-entry-requires : goal.next_entry-entry-requires
next_entry-entry-requires c = operands_listed c.requires.1 c.loop-i.invariant c.loop-i-test.true c.node_at.ensures

pub loop-i-preserved : goal.loop-i-preserved
loop-i-preserved c =
    rw (entry_stored c.loop-i.counts (8 * c.loop-i.i) c.next_entry-entry.result (c.copy_from_slice.ensures.after ∙ c.numbers_of.ensures) (omega (arith, c.loop-i-test.true, c.loop-i.invariant.same, c.requires.1.fits)))
    (run_stored 8 tree_numbers eight _ (numbers_of c.next_entry-entry.result) c.loop-i.invariant c.requires.1 (omega (arith, c.requires.1.fits)) c.loop-i-test.true (rw c.node_at.ensures at c.next_entry-entry.ensures.counts))

pub returns : goal.returns
returns c = runs_stored 8 tree_numbers eight _ c.loop-i.invariant c.loop-i-test.false
