use Rattle.line_account.proofs.Idle.{idle_closed}
use Rattle.line_account.proofs.laws.idle_workers_are_closed.Goals as goal

pub returns : goal.returns
returns c start r s so is = idle_closed r s so is
