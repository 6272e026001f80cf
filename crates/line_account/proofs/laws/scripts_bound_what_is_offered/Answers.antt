use Rattle.line_account.proofs.Scripts.{offered_within, spent_within, version_within}
use Rattle.line_account.proofs.laws.scripts_bound_what_is_offered.Goals as goal

pub returns-clause-offered : goal.returns-clause-offered
returns-clause-offered c start lines crew h = offered_within lines crew h

pub returns-clause-versions : goal.returns-clause-versions
returns-clause-versions c start r lines crew a x closed h p = version_within r lines crew closed h a x p

pub returns-clause-spent : goal.returns-clause-spent
returns-clause-spent c start r lines crew n closed h p = spent_within r lines crew closed h n p
