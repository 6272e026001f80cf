use Rattle.line_account.proofs.Printing.{another_comes}
use Rattle.line_account.proofs.laws.more_readers_come_from_others.Goals as goal

pub returns : goal.returns
returns c start r crew a closed p = another_comes r crew closed a p
