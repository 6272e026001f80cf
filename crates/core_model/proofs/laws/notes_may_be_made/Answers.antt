use Rattle.core_model.proofs.laws.notes_may_be_made.Goals as goal
use Rattle.std.proofs.Common.{sym, subst}
use Rattle.core_model.proofs.NotesRenewed.{Quiet, noted}
use Rattle.core_model.proofs.NotesMade.{noted_behind_sound, noted_at_sound}

pub returns-clause-behind : goal.returns-clause-behind
returns-clause-behind c start k s i v item so at pass kind = noted_behind_sound k s i v so at pass item (subst Quiet (sym kind) noted)

pub returns-clause-at : goal.returns-clause-at
returns-clause-at c start k s i v item n u so at pass kind free = noted_at_sound k s i v so at pass item (subst Quiet (sym kind) noted) n u free
