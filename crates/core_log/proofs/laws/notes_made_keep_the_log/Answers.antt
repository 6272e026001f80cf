use Rattle.std.proofs.Common.{sym, subst}
use Rattle.core_model.proofs.NotesRenewed.{Quiet, noted}
use Rattle.core_log.proofs.NotesLogged.{noted_behind_logged, noted_at_logged}
use Rattle.core_log.proofs.laws.notes_made_keep_the_log.Goals as goal

pub returns-clause-behind : goal.returns-clause-behind
returns-clause-behind c start k s log i v item so st at pass kind = noted_behind_logged k s log st i v so at pass item (subst Quiet (sym kind) noted)

pub returns-clause-at : goal.returns-clause-at
returns-clause-at c start k s log i v item n u so st at pass kind free = noted_at_logged k s log st i v so at pass item (subst Quiet (sym kind) noted) n u free
