use Rattle.std.proofs.Common.{refl}
use Rattle.crew_accounts.proofs.OpenLines.{open_adds}
use Rattle.crew_accounts.proofs.reading.opens_add.Goals as goal

pub returns : goal.returns
returns g c s told past served worker number t url p q a before after tracks takes serves fit =
    open_adds g.C.Cell.tells g.C.Cell.state g.O.Origin.offers s told past served worker number t url p q takes.asks.0 a tracks (serves.leaves t refl) fit serves.request
