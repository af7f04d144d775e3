use mathlib.Core.Path.{refl, sym, ◌∙◌}
use Rattle.undo.proofs.UndoLaws.{none_left, one_room, one_stored}
use Rattle.undo.proofs.Undoing.append_kept.Goals as goal

pub append-requires : goal.append-requires
append-requires c = one_room _ _ _ (sym c.left_out.ensures ∙ c.if-not-left_out.true) _ c.requires.area_room

pub returns-then-not-left_out : goal.returns-then-not-left_out
returns-then-not-left_out c =
    record {
      stored = one_stored _ _ _ (sym c.left_out.ensures ∙ c.if-not-left_out.true) c.gate_at.ensures c.append.ensures.stored;
      same_area = c.append.ensures.same_area;
    }

pub returns-else-not-left_out : goal.returns-else-not-left_out
returns-else-not-left_out c =
    record { stored = none_left _ _ _ (sym c.left_out.ensures ∙ c.if-not-left_out.false) _; same_area = refl }
