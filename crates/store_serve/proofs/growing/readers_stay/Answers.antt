use Rattle.store_serve.proofs.StandingReaders.{stays}
use Rattle.store_serve.proofs.growing.readers_stay.Goals as goal

pub returns : goal.returns
returns g c s p q t e h own tab desk keeps = stays g.C.Cell.tells g.C.Cell.state g.O.Origin.offers s p q t e h own tab desk keeps
