use mathlib.Core.Path.{◌∙◌}
use lib.ListN.{length}
use Rattle.circuit.specs.Circuits.{head_of}
use Rattle.undo.specs.UndoCircuit.{undo_file}
use Rattle.abi.specs.Exported.{exported}
use Rattle.abi.specs.Steps.{file_bytes}
use Rattle.oracle.proofs.ExportLaws.{answer_shown, bytes_written, undone_few}
use Rattle.oracle.proofs.oracle_undo.Goals as goal

pub file_answer-requires : goal.file_answer-requires
file_answer-requires c = undone_few _ _ _ c.undo.ensures.result_value

pub returns : goal.returns
returns c =
    let x = undo_file c.args.file.now c.args.choices.now (length c.args.area.now) in
    record { value = c.file_answer.ensures ∙ answer_shown exported head_of file_bytes x c.undo.ensures.result_value ∙ bytes_written x; area_after = c.undo.ensures.area_after }
