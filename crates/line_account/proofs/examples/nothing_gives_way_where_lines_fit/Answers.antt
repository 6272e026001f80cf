use Rattle.line_account.proofs.Alone.{none_gone}
use Rattle.line_account.proofs.examples.nothing_gives_way_where_lines_fit.Goals as goal

pub returns : goal.returns
returns c start r w s url e closed fit is q m six = none_gone r w closed fit s url e is q m six
