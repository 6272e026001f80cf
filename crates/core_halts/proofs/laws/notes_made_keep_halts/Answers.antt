use Rattle.std.proofs.Common.{subst, sym}
use Rattle.core_halts.proofs.Renewed.{LooksNowhere, noted_nowhere, noted_at_halts, noted_behind_halts}
use Rattle.core_halts.proofs.laws.notes_made_keep_halts.Goals as goal

pub returns-clause-behind : goal.returns-clause-behind
returns-clause-behind c start s i v item h at kind = noted_behind_halts s i v at item (subst LooksNowhere (sym kind) noted_nowhere) h

pub returns-clause-at : goal.returns-clause-at
returns-clause-at c start s i v item n u h at kind free = noted_at_halts s i v at item (subst LooksNowhere (sym kind) noted_nowhere) h n
