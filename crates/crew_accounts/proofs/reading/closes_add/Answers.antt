use Rattle.std.proofs.Common.{refl}
use Rattle.crew_accounts.proofs.Closing.{close_adds}
use Rattle.crew_accounts.proofs.reading.closes_add.Goals as goal

pub returns : goal.returns
returns g c s told past served worker number t p q a before after tracks takes serves =
    close_adds g.C.Cell.tells g.C.Cell.state g.O.Origin.offers s told past served worker number t p a q takes.asks tracks (serves.leaves t refl) serves.request
