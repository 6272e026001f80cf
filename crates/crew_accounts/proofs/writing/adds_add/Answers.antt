use Rattle.std.proofs.Common.{refl}
use Rattle.crew_accounts.proofs.AddLines.{add_adds}
use Rattle.crew_accounts.proofs.writing.adds_add.Goals as goal

pub returns : goal.returns
returns g c s told past served worker number t asked p q a before after tracks takes serves =
    add_adds g.C.Cell.tells g.C.Cell.state g.O.Origin.offers s told past served worker number t asked p q takes.asks a tracks (serves.leaves t refl) serves.request
