use Rattle.std.proofs.Common.{refl}
use Rattle.crew_accounts.proofs.Purging.{wipe_adds}
use Rattle.crew_accounts.proofs.reading.wipes_add.Goals as goal

pub returns : goal.returns
returns g c s told past served worker number url p q a before after tracks takes serves fit =
    wipe_adds g.C.Cell.tells g.C.Cell.state g.O.Origin.offers s told past served worker number url p q a tracks (serves.leaves 7 refl) fit serves.request
