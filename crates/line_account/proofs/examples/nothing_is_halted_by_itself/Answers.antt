use Rattle.line_account.proofs.Alone.{none_halted}
use Rattle.line_account.proofs.examples.nothing_is_halted_by_itself.Goals as goal

pub returns : goal.returns
returns c start r w s url e closed is q m four = none_halted r w closed s url e is q m four
