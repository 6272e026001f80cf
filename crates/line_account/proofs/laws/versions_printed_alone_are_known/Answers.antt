use Rattle.line_account.proofs.Told.{alone_new, alone_old}
use Rattle.line_account.proofs.laws.versions_printed_alone_are_known.Goals as goal

pub returns-clause-old : goal.returns-clause-old
returns-clause-old c start r crew a x closed p low = alone_old r crew closed a x p low

pub returns-clause-new : goal.returns-clause-new
returns-clause-new c start r crew a x closed p high = alone_new r crew closed a x p high
