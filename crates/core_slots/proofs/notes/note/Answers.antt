use Rattle.std.proofs.Common.{ap, ◌∙◌}
use Rattle.core_model.specs.CellMoves.{free_note}
use Rattle.core_slots.proofs.NoteSteps.{note_planned}
use Rattle.core_slots.proofs.notes.note.Goals as goal

pub returns-clause-planned : goal.returns-clause-planned
returns-clause-planned c =
    note_planned c.args.opening.now c.args.table.now c.args.view.now _ _ _ _ (c.free_note-number.ensures.free ∙ ap free_note c.notes.ensures) c.in_ok-seen.ensures
    c.bare_addition.ensures c.note_with.ensures
