use Rattle.crashed_stores.proofs.Within.{within_left}
use Rattle.crashed_stores.proofs.laws.calls_under_way_leave_pieces.Goals as goal

pub returns : goal.returns
returns c ground s images rule left = within_left ground s images rule left
