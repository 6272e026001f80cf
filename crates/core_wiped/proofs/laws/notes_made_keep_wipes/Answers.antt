use Rattle.std.proofs.Common.{sym, subst}
use Rattle.core_model.proofs.NotesRenewed.{Quiet, noted}
use Rattle.core_wiped.proofs.Quiet.{noted_at_wipes, noted_behind_wipes}
use Rattle.core_wiped.proofs.laws.notes_made_keep_wipes.Goals as goal

pub returns-clause-behind : goal.returns-clause-behind
returns-clause-behind g c k s log i v item so ws at pass kind =
    noted_behind_wipes k s log ws i v so at pass item (subst Quiet (sym kind) noted)

pub returns-clause-at : goal.returns-clause-at
returns-clause-at g c k s log i v item n u so ws at pass kind free =
    noted_at_wipes k s log ws i v so at pass item (subst Quiet (sym kind) noted) n u free
