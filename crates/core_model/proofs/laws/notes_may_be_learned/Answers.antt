use Rattle.core_model.proofs.laws.notes_may_be_learned.Goals as goal
use Rattle.std.proofs.Common.{sym, subst}
use Rattle.core_model.proofs.NotesRenewed.{Quiet, learned}
use Rattle.core_model.proofs.NotesMade.{learned_from_sound}

pub returns : goal.returns
returns c start k s i v item n u so at pass kind note = learned_from_sound k s i v so at pass item (subst Quiet (sym kind) learned) n u note
