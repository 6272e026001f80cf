use Rattle.line_account.proofs.Versions.{doom_from, doomed_line, purged_by}
use Rattle.line_account.proofs.Printing.{purged_stage, purged_told}
use Rattle.line_account.proofs.laws.doomed_entries_were_purged.Goals as goal

pub returns-clause-epoch : goal.returns-clause-epoch
returns-clause-epoch c start r crew a e closed p doom = purged_by r crew closed a e p doom

pub returns-clause-line : goal.returns-clause-line
returns-clause-line c start r crew a x closed p = doomed_line r crew closed a x p

pub returns-clause-purged : goal.returns-clause-purged
returns-clause-purged c start r crew e closed p = purged_told r crew closed e p

pub returns-clause-stage : goal.returns-clause-stage
returns-clause-stage c start r crew e closed p = purged_stage r crew closed e p

pub returns-clause-epoch_stage : goal.returns-clause-epoch_stage
returns-clause-epoch_stage c start r crew a e closed p doom = doom_from r crew closed a e p doom
