use Rattle.std.proofs.Common.{subst, sym}
use Rattle.core_alone.proofs.Renewed.{TellsNoLink, noted, noted_at_alone, noted_behind_alone}
use Rattle.core_alone.proofs.laws.notes_made_keep_what_is_alone.Goals as goal

pub returns-clause-behind : goal.returns-clause-behind
returns-clause-behind c start left k s i v item alone at kind =
    noted_behind_alone left k s i v at item (subst TellsNoLink (sym kind) noted) alone

pub returns-clause-at : goal.returns-clause-at
returns-clause-at c start left k s i v item n u alone at kind free =
    noted_at_alone left k s i v at item (subst TellsNoLink (sym kind) noted) alone n
