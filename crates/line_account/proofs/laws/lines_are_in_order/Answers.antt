use Rattle.line_account.proofs.Known.{in_order}
use Rattle.line_account.proofs.laws.lines_are_in_order.Goals as goal

pub returns : goal.returns
returns c start r crew view_at have = in_order r crew have
