use Rattle.store_serve.proofs.Entries.{same_entry}
use Rattle.store_serve.proofs.laws.tabs_write_one_entry.Goals as goal

pub returns : goal.returns
returns g c s p t e f h k = same_entry g.C.Cell.tells g.C.Cell.state g.O.Origin.offers s p t e f h k
