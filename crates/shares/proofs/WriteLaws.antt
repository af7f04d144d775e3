-- Laws of writing a share: what it asks for is enough for its two steps, and these leave it. Assumes nothing.
use Prim.Native.Nat.{ℕ, ◌+◌, ◌-◌, ◌<◌, ◌≤◌}
use native.Mathlib.Omega.{arith}
use mathlib.Core.Path.{◌≡◌, sym, ap₂, ◌∙◌}
use mathlib.Core.List.{List, []}
use lib.ListN.{length, length-append}
use lib.Dec.{eqb}
use Rattle.gate.specs.declared.gates.Gate.{Gate}
use Rattle.gate.specs.Gates.{WellFormed, All}
use Rattle.gate.specs.Running.{uncompute}
use Rattle.circuit.specs.Format.{file_length}
use Rattle.node.specs.Exprs.{Expr}
use Rattle.node.specs.Nodes.{nodes_in}
use Rattle.node.proofs.TreeLaws.{trees_below}
use Rattle.areas.proofs.WriterLaws.{put_none}
use Rattle.construction.specs.Construction.{share}
use Rattle.construction.specs.Pools.{all_free}
use Rattle.construction.specs.Steps.{built_count, share_count}
use Rattle.construction.proofs.Numbers.{build_from, share_from, ApartFrom}
use Rattle.construction.proofs.CountLaws.{share_length}
use Rattle.construction.proofs.LineLaws.{build_formed}
use Rattle.construction.proofs.PoolLaws.{share_gates, tree_lines_lem}
use Rattle.program.specs.Tables.{tree_in}
use Rattle.areas.specs.AreaGates.{put_gates, gates_from, Stored}
use Rattle.appending.specs.Appending.{Appended}
use Rattle.appending.specs.declared.writer.GateWriter.{GateWriter}
use Rattle.appending.specs.Reversing.{InOrder, Reversible}
use Rattle.pool.specs.LinePools.{line_numbers}
use Rattle.progress.specs.Progress.{Wrote}
use Rattle.construct.specs.Writing.{Room}
use Rattle.appending.proofs.StoredLaws.{stored_back, stored_order}
use Rattle.progress.proofs.ProgressLaws.{appended_then, appended_length, by_numbers}

-- building takes no more gates than the share
build_few : (e : Expr) → built_count 1 e ≤ share_count 1 e
unfolding share_count
build_few e = omega arith

module _ {nodes : List ℕ} {i t f : ℕ} {u : GateWriter} (r : Room nodes i t f (share_count 1 (tree_in nodes i)) u) where
  -- there is room to build
  pub build_room : Room nodes i t f (built_count 1 (tree_in nodes i)) u
  build_room =
      record {
        valid = r.valid;
        behind = r.behind;
        taken = r.taken;
        lines = r.lines;
        room = omega (arith, r.room, build_few (tree_in nodes i));
      }

  -- inputs, target and work lines are apart
  share_apart : ApartFrom r.valid.inputs (tree_in nodes i) t f line_numbers
  unfolding tree_in
  share_apart =
      record {
        inputs = trees_below r.valid.inputs (nodes_in nodes) r.valid.ordered i;
        behind = r.behind;
        free = r.taken;
        below = omega (arith, r.lines, tree_lines_lem (tree_in nodes i) t f);
      }

  abbrev built : List Gate
  built = build_from (tree_in nodes i) t f

  -- a share is as long as its two parts
  share_parts : share_count 1 (tree_in nodes i) ≡ length built + length (uncompute (eqb t) built)
  unfolding share_from
  share_parts = sym (share_length (tree_in nodes i) t f r.taken) ∙ length-append built (uncompute (eqb t) built)

  module _ {g : ℕ} {v : GateWriter} (b : Wrote (tree_in nodes i) t f g u v) where
    stored : Stored built u.count v.count u.area.now v.area.now
    stored = (by_numbers b).appended.stored

    built_to : v.count ≡ u.count + length built
    built_to = stored.count_to

    -- with nothing behind them
    area_is : v.area.now ≡ put_gates (put_gates u.area.now u.count built) (u.count + length built) []
    area_is = stored.area_to ∙ sym (put_none (put_gates u.area.now u.count built) (u.count + length built))

    built_formed : All (WellFormed line_numbers) built
    built_formed = build_formed r.valid.inputs (tree_in nodes i) t f line_numbers share_apart

    built_room : file_length (u.count + length built) ≤ length u.area.now
    built_room = omega (arith, r.room, share_parts)

    -- read back
    built_back : gates_from v.area.now u.count (v.count - u.count) ≡ built
    built_back =
        let n : v.count - u.count ≡ length built = omega (arith, built_to) in
        ap₂ (λ (l : List ℕ) (m : ℕ). gates_from l u.count m) area_is n ∙ stored_back line_numbers (omega arith) u.area.now u.count built [] built_formed built_room

    -- they stand in order
    built_order : (j : ℕ) → j < v.count → u.count ≤ j → InOrder v.area.now j
    built_order j h q = rw area_is (stored_order line_numbers (omega arith) u.area.now u.count built [] built_formed built_room j (omega (arith, built_to)) q)

    -- there is room to write them again, if no more are written than where the target is left out
    pub reverse_room_without : {out : ℕ} → length (uncompute (eqb out) built) ≤ length (uncompute (eqb t) built) → Reversible v.area.now u.count v.count v.count out
    reverse_room_without few =
        record {
          ordered = omega (arith, built_to);
          each = built_order;
          before = omega arith;
          room = rw built_back (omega (arith, r.room, share_parts, appended_length (by_numbers b).appended, built_to, few));
        }

    -- and so without those on the target
    pub reverse_room : Reversible v.area.now u.count v.count v.count t
    reverse_room = reverse_room_without (omega arith)

    -- building and undoing write the share
    pub share_written : {w : GateWriter} → Appended (uncompute (eqb t) (gates_from v.area.now u.count (v.count - u.count))) v w
        → Appended (share (tree_in nodes i) t (all_free f)).gates u w
    unfolding share_from
    share_written s = rw (share_gates (tree_in nodes i) t f) (appended_then (by_numbers b).appended (rw built_back at s))
