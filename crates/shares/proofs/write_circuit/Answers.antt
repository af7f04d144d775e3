use Prim.Native.Nat.{ℕ}
use native.Mathlib.Omega.{arith}
use mathlib.Core.Path.{ap, ◌∙◌}
use mathlib.Core.List.{List}
use Rattle.areas.specs.AreaGates.{put_gates}
use Rattle.construction.specs.Construction.{circuit_gates}
use Rattle.program.specs.Tables.{trees_in}
use Rattle.shares.proofs.ShareLoop.{room_same}
use Rattle.shares.proofs.write_circuit.Goals as goal

pub write_head-requires : goal.write_head-requires
write_head-requires c = let p = c.requires in (p.0, omega (arith, p.1.room))

pub write_shares-requires : goal.write_shares-requires
write_shares-requires c = room_same c.requires.1 c.write_head.auto.area

pub returns : goal.returns
returns c = c.write_shares.ensures ∙ ap (λ (l : List ℕ). put_gates l 0 (circuit_gates c.args.head.inputs (trees_in c.args.nodes.now c.args.outputs.now))) c.write_head.ensures
