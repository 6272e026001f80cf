use Rattle.crew_accounts.proofs.Starting.{new_tracks}
use Rattle.crew_accounts.proofs.course.new_passes_track.Goals as goal

pub returns : goal.returns
returns g c s told past p h = new_tracks g.C.Cell.tells g.C.Cell.state g.O.Origin.offers s told past p h
