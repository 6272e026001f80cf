use Rattle.std.proofs.Common.{sym, subst}
use Rattle.core_model.proofs.NotesRenewed.{Quiet, learned}
use Rattle.core_wiped.proofs.Quiet.{learned_from_wipes}
use Rattle.core_wiped.proofs.laws.notes_learned_keep_wipes.Goals as goal

pub returns : goal.returns
returns g c k s log i v item n u so ws at pass kind note =
    learned_from_wipes k s log ws i v so at pass item (subst Quiet (sym kind) learned) n u note
