use Prim.Native.Nat.{◌+◌, ◌≤◌}
use lib.ListN.{length}
use Rattle.contents.proofs.ContentsLaws.{Followed}
use Rattle.contents.proofs.reader.entries_fit.Given as goal

abbrev pub invariant-loop-i : goal.invariant-loop-i
invariant-loop-i l = Followed l.tags l.file l.i l.start × (l.start ≤ 8589934592 + length l.file)
