use Rattle.core_model.proofs.laws.slots_are_not_written_while_read.Goals as goal
use Rattle.core_model.proofs.Holders.{not_both, not_wiped}

pub returns-clause-written : goal.returns-clause-written
returns-clause-written c start k s slot so w r = not_both k s so slot w r

pub returns-clause-wiped : goal.returns-clause-wiped
returns-clause-wiped c start k s slot so w r = not_wiped k s so slot w r
