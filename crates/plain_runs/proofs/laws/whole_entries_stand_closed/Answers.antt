use Rattle.plain_runs.proofs.Standing.{whole_stands}
use Rattle.plain_runs.proofs.laws.whole_entries_stand_closed.Goals as goal

pub returns : goal.returns
returns g c s p plain views left closed a e lone first shows lt there whole = whole_stands g.C.Cell.tells g.C.Cell.state g.O.Origin.offers s p plain views left closed a e lone first shows lt there whole
