use Rattle.line_account.proofs.Versions.{halted_by, halted_line}
use Rattle.line_account.proofs.laws.halted_entries_were_given_up.Goals as goal

pub returns-clause-epoch : goal.returns-clause-epoch
returns-clause-epoch c start r crew a e closed p four = halted_by r crew closed a e p four

pub returns-clause-line : goal.returns-clause-line
returns-clause-line c start r crew a closed p = halted_line r crew closed a p
