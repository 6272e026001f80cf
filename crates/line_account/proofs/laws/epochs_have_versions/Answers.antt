use Rattle.line_account.proofs.Versions.{begun_stage, empty_of_old, stage_of_old, version_of_new, version_of_old}
use Rattle.line_account.proofs.laws.epochs_have_versions.Goals as goal

pub returns-clause-old : goal.returns-clause-old
returns-clause-old c start r crew a e closed p low = version_of_old r crew closed a e p low

pub returns-clause-new : goal.returns-clause-new
returns-clause-new c start r crew a e closed p high = version_of_new r crew closed a e p high

pub returns-clause-stage : goal.returns-clause-stage
returns-clause-stage c start r crew a e closed p low = stage_of_old r crew closed a e p low

pub returns-clause-empty : goal.returns-clause-empty
returns-clause-empty c start r crew a e closed p low none = empty_of_old r crew closed a e p low none

pub returns-clause-begun : goal.returns-clause-begun
returns-clause-begun c start r crew a e closed p high = begun_stage r crew closed a e p high
