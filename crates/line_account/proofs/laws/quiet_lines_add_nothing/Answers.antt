use Rattle.line_account.proofs.Quiet.{mark_adds, tab_adds}
use Rattle.line_account.proofs.laws.quiet_lines_add_nothing.Goals as goal

pub returns-clause-mark : goal.returns-clause-mark
returns-clause-mark c start r v w earlier s m idle = mark_adds r v w earlier s m idle

pub returns-clause-tab : goal.returns-clause-tab
returns-clause-tab c start r v w earlier s m idle = tab_adds r v w earlier s m idle
