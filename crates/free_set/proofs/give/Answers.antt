use Rattle.store_rule.proofs.Quieting.{quiet_step}
use Rattle.free_set.proofs.give.Goals as goal

pub returns-clause-quiet : goal.returns-clause-quiet
returns-clause-quiet g c = quiet_step c.disown.ensures.step tt
