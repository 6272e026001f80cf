use Rattle.std.proofs.Common.{refl}
use Rattle.crew_accounts.proofs.BeginLines.{begin_adds}
use Rattle.crew_accounts.proofs.writing.begins_add.Goals as goal

pub returns : goal.returns
returns g c s told past served worker number t url body p q a before after tracks takes serves fit =
    begin_adds g.C.Cell.tells g.C.Cell.state g.O.Origin.offers s told past served worker number t url body p q takes.asks.0 a tracks (serves.leaves t refl) takes.asks.1 fit serves.request
