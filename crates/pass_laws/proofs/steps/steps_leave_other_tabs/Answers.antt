use Rattle.store_rule.proofs.OtherTabs.{others_stay}
use Rattle.pass_laws.proofs.steps.steps_leave_other_tabs.Goals as goal

pub returns : goal.returns
returns c start g v w m n t st for = others_stay g v w m n t st for
