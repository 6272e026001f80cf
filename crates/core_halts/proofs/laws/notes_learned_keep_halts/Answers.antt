use Rattle.std.proofs.Common.{subst, sym}
use Rattle.core_halts.proofs.Renewed.{LooksNowhere, learned_nowhere, learned_from_halts}
use Rattle.core_halts.proofs.laws.notes_learned_keep_halts.Goals as goal

pub returns : goal.returns
returns c start s i v item n u h at kind note = learned_from_halts s i v at item (subst LooksNowhere (sym kind) learned_nowhere) h n u
