use Rattle.store_serve.proofs.Counts as counts
use Rattle.store_serve.proofs.showing.writers_see_their_slots.Goals as goal

pub returns-clause-began : goal.returns-clause-began
returns-clause-began g c s t offer version url durable p q h = counts.began g.C.Cell.tells g.C.Cell.state g.O.Origin.offers s t offer url durable p q version h

pub returns-clause-appended : goal.returns-clause-appended
returns-clause-appended g c s t count e bytes p q writes before h = counts.appended g.C.Cell.tells g.C.Cell.state g.O.Origin.offers s t e bytes p q count writes before h

pub returns-clause-added : goal.returns-clause-added
returns-clause-added g c s t total e p q writes before h = counts.added g.C.Cell.tells g.C.Cell.state g.O.Origin.offers s t e p q total writes before h
