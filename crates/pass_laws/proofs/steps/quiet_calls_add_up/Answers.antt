use Rattle.std.proofs.Common.{refl}
use Rattle.pass_laws.proofs.Counting.{quiet_counts, quiet_dooms}
use Rattle.store_rule.proofs.Quieting.{quiet_same, quiet_step, quiet_then}
use Rattle.pass_laws.proofs.steps.quiet_calls_add_up.Goals as goal

pub returns-clause-none : goal.returns-clause-none
returns-clause-none c start v = quiet_same v v refl

pub returns-clause-one : goal.returns-clause-one
returns-clause-one c start g v w m n step quiet = quiet_step step quiet

pub returns-clause-behind : goal.returns-clause-behind
returns-clause-behind c start v u w first second = quiet_then first second

pub returns-clause-counts : goal.returns-clause-counts
returns-clause-counts c start g v w m n a step is none = quiet_counts g v w m n step a is none

pub returns-clause-dooms : goal.returns-clause-dooms
returns-clause-dooms c start g v w m n a step is none was = quiet_dooms g v w m n step a is none was
