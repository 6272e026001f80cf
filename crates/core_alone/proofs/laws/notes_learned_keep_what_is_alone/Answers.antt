use Rattle.std.proofs.Common.{subst, sym}
use Rattle.core_alone.proofs.Renewed.{TellsNoLink, learned, learned_from_alone}
use Rattle.core_alone.proofs.laws.notes_learned_keep_what_is_alone.Goals as goal

pub returns : goal.returns
returns c start left k s i v item n u alone at kind note =
    learned_from_alone left k s i v at item (subst TellsNoLink (sym kind) learned) alone n u
