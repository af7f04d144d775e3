use mathlib.Core.Path.{◌≡◌}
use Rattle.shares.proofs.ShareLoop.{Writing}
use Rattle.shares.proofs.write_shares.Given as goal

abbrev pub invariant-loop-k : goal.invariant-loop-k
invariant-loop-k l =
    record {
      writing : Writing l.nodes l.outputs l.inputs l.initial.writer.area.now l.writer l.k;
      same_area : l.writer.area.ghost_name ≡ l.initial.writer.area.ghost_name;
    }
