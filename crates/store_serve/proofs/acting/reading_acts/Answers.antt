use Rattle.store_serve.proofs.ReaderDeeds as reader
use Rattle.store_serve.proofs.acting.reading_acts.Goals as goal

pub returns-clause-opened : goal.returns-clause-opened
returns-clause-opened g c k t version url v w h = reader.opened k t h

pub returns-clause-refused : goal.returns-clause-refused
returns-clause-refused g c k t url cause v w h = reader.refused k t url v cause w h

pub returns-clause-gave : goal.returns-clause-gave
returns-clause-gave g c s t e before after answer p q h = reader.gave g.C.Cell.tells g.C.Cell.state g.O.Origin.offers s t e p before after q answer h

pub returns-clause-parted : goal.returns-clause-parted
returns-clause-parted g c k t v w h = reader.parted k t v w h
