use Rattle.core_log.proofs.Rewritten.{rewritten}
use Rattle.core_log.proofs.Wiped.{wiped}
use Rattle.core_log.proofs.laws.held_cells_keep_the_log.Goals as goal

pub returns-clause-written : goal.returns-clause-written
returns-clause-written c start k s log i t v w old new so st at may = rewritten k s log i t v w old new so st at may

pub returns-clause-wiped : goal.returns-clause-wiped
returns-clause-wiped c start k s log i t v f old new so st at may = wiped k s log i t v f old new so st at may
