use Rattle.store_rule.proofs.AddingUp.{went_none, went_one, went_then}
use Rattle.pass_laws.proofs.steps.runs_add_up.Goals as goal

pub returns-clause-none : goal.returns-clause-none
returns-clause-none c start g v = went_none g v

pub returns-clause-one : goal.returns-clause-one
returns-clause-one c start g v w m n step after = went_one g v w m n step after

pub returns-clause-behind : goal.returns-clause-behind
returns-clause-behind c start g v u w earlier later first second = went_then g v u w earlier later first second
