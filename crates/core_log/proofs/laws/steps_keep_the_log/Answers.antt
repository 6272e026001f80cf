use Rattle.core_log.proofs.LogsKept.{logs_kept}
use Rattle.core_log.proofs.laws.steps_keep_the_log.Goals as goal

pub returns : goal.returns
returns c start k s log i v m so st at may = logs_kept k s log i v m so st at may
