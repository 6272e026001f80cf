use Rattle.std.proofs.Common.{ap, ◌∙◌, length}
use Rattle.std.specs.Option.{unwrap_or}
use Rattle.core_slots.proofs.NoteSteps.{first_free}
use Rattle.core_slots.proofs.notes.free_note.Goals as goal

pub returns-clause-free : goal.returns-clause-free
returns-clause-free c = c.unwrap_or.ensures ∙ ap (λ o. unwrap_or o (length c.args.notes.now)) c.first_spent.ensures ∙ first_free c.args.notes.now
