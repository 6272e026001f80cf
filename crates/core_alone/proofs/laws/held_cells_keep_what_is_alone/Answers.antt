use Rattle.core_alone.proofs.Renewed.{alone_rewritten, alone_wiped}
use Rattle.core_alone.proofs.laws.held_cells_keep_what_is_alone.Goals as goal

pub returns-clause-written : goal.returns-clause-written
returns-clause-written c start left k s i t v w old new alone at may = alone_rewritten left k s i v at t w new may.writes alone

pub returns-clause-wiped : goal.returns-clause-wiped
returns-clause-wiped c start left k s i t v f old new alone at may = alone_wiped left k s i v at t f new may.frees alone
