use Rattle.std.proofs.Common.{sym, subst}
use Rattle.core_model.proofs.NotesRenewed.{Quiet, learned}
use Rattle.core_log.proofs.NotesLogged.{learned_from_logged}
use Rattle.core_log.proofs.laws.notes_learned_keep_the_log.Goals as goal

pub returns : goal.returns
returns c start k s log i v item n u so st at pass kind note = learned_from_logged k s log st i v so at pass item (subst Quiet (sym kind) learned) n u note
