use Rattle.std.proofs.Common.{refl}
use Rattle.crew_accounts.proofs.EndLines.{end_adds}
use Rattle.crew_accounts.proofs.writing.ends_add.Goals as goal

pub returns : goal.returns
returns g c s told past served worker number t p q a before after tracks takes serves =
    end_adds g.C.Cell.tells g.C.Cell.state g.O.Origin.offers s told past served worker number t p q takes.asks a tracks (serves.leaves t refl) serves.request
