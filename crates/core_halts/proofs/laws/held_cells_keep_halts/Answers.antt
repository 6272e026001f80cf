use Rattle.core_halts.proofs.Renewed.{halts_rewritten, halts_wiped}
use Rattle.core_halts.proofs.laws.held_cells_keep_halts.Goals as goal

pub returns-clause-written : goal.returns-clause-written
returns-clause-written c start k s i t v w old new h at may = halts_rewritten s i v at t w new h

pub returns-clause-wiped : goal.returns-clause-wiped
returns-clause-wiped c start k s i t v f old new h at may = halts_wiped s i v at t f new h
