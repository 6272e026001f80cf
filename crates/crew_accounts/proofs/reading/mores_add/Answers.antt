use Rattle.std.proofs.Common.{refl}
use Rattle.crew_accounts.proofs.MoreLines.{more_adds}
use Rattle.crew_accounts.proofs.reading.mores_add.Goals as goal

pub returns : goal.returns
returns g c s told past served worker number t p q a before after told_so tracks takes serves =
    more_adds g.C.Cell.tells g.C.Cell.state g.O.Origin.offers s told past served worker number t p q takes.asks
    record { front = c.bodies_are_given_from_the_front.ensures.front; whole = c.bodies_are_given_from_the_front.ensures.whole } told_so a tracks (serves.leaves t refl) serves.request
