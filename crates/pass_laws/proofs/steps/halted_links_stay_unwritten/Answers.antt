use Rattle.store_rule.proofs.HaltedLinks.{found_halted, found_no_link}
use Rattle.pass_laws.proofs.steps.halted_links_stay_unwritten.Goals as goal

pub returns-clause-halted : goal.returns-clause-halted
returns-clause-halted c start g v w n t r step le is had = found_halted g v w t r is n le step had

pub returns-clause-unwritten : goal.returns-clause-unwritten
returns-clause-unwritten c start g v w n t slot r step is had = found_no_link g v w t r is n slot step had
