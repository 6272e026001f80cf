use Rattle.store_serve.proofs.ServingDeeds as serving
use Rattle.store_serve.proofs.WriterDeeds.{entry_of}
use Rattle.store_serve.proofs.acting.serving_acts.Goals as goal

pub returns-clause-added : goal.returns-clause-added
returns-clause-added g c s t total e p q writes h = serving.added g.C.Cell.tells g.C.Cell.state g.O.Origin.offers s t e p q (entry_of g.C.Cell.tells g.C.Cell.state g.O.Origin.offers s t e writes) h

pub returns-clause-not_added : goal.returns-clause-not_added
returns-clause-not_added g c s t e why p q writes h = serving.not_added g.C.Cell.tells g.C.Cell.state g.O.Origin.offers s t e p q (entry_of g.C.Cell.tells g.C.Cell.state g.O.Origin.offers s t e writes) h

pub returns-clause-ended : goal.returns-clause-ended
returns-clause-ended g c s t e ended p q writes h = serving.ended g.C.Cell.tells g.C.Cell.state g.O.Origin.offers s t e p q (entry_of g.C.Cell.tells g.C.Cell.state g.O.Origin.offers s t e writes) h

pub returns-clause-not_ended : goal.returns-clause-not_ended
returns-clause-not_ended g c s t e why p q writes h = serving.not_ended g.C.Cell.tells g.C.Cell.state g.O.Origin.offers s t e p q why (entry_of g.C.Cell.tells g.C.Cell.state g.O.Origin.offers s t e writes) h

pub returns-clause-put : goal.returns-clause-put
returns-clause-put g c s t offer url durable ended p q h = serving.put g.C.Cell.tells g.C.Cell.state g.O.Origin.offers s t offer url durable p q h

pub returns-clause-not_put : goal.returns-clause-not_put
returns-clause-not_put g c s t offer url durable why p q h = serving.not_put g.C.Cell.tells g.C.Cell.state g.O.Origin.offers s t offer url durable p q why h

pub returns-clause-went : goal.returns-clause-went
returns-clause-went g c s t e bytes answer p q h = serving.went_on g.C.Cell.tells g.C.Cell.state g.O.Origin.offers s t h

pub returns-clause-got : goal.returns-clause-got
returns-clause-got g c s t url bytes got p q h = serving.got g.C.Cell.tells g.C.Cell.state g.O.Origin.offers s t url p q bytes got h

pub returns-clause-gave_some : goal.returns-clause-gave_some
returns-clause-gave_some g c s t e bytes p q h = serving.gave_some g.C.Cell.tells g.C.Cell.state g.O.Origin.offers s t h

pub returns-clause-stopped : goal.returns-clause-stopped
returns-clause-stopped g c s t url bytes p q h = serving.stopped g.C.Cell.tells g.C.Cell.state g.O.Origin.offers s t url p q bytes h
