use Rattle.crew_accounts.proofs.SavedLines.{saved_offer, stay_known}
use Rattle.crew_accounts.proofs.saved.saved_entries_stay_known.Goals as goal

pub returns-clause-known : goal.returns-clause-known
returns-clause-known g c s script w a x url body version played among is stored = stay_known g.C.Cell.tells g.C.Cell.state g.O.Origin.offers g.St.Station.faults s script w a x url body version played among is stored

pub returns-clause-offered : goal.returns-clause-offered
returns-clause-offered g c s script w a x url body played among is = saved_offer g.C.Cell.tells g.C.Cell.state g.O.Origin.offers g.St.Station.faults s script w a x url body 0 played among is
