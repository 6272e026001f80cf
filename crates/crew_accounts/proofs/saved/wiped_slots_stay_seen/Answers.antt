use Rattle.crew_accounts.proofs.SavedLines.{stay_wiped}
use Rattle.crew_accounts.proofs.saved.wiped_slots_stay_seen.Goals as goal

pub returns : goal.returns
returns g c s script w a x url epoch played among is wiped = stay_wiped g.C.Cell.tells g.C.Cell.state g.O.Origin.offers g.St.Station.faults s script w a x url epoch played among is wiped
