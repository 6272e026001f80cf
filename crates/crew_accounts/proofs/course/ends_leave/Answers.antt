use Rattle.crew_accounts.proofs.LeavingTabs.{all_left}
use Rattle.crew_accounts.proofs.course.ends_leave.Goals as goal

pub returns : goal.returns
returns g c s told past served p q tracks left = all_left g.C.Cell.tells g.C.Cell.state g.O.Origin.offers s told past served p q tracks left
