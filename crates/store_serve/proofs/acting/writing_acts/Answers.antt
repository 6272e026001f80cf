use Rattle.store_rule.specs.Passes.{basis}
use Rattle.store_serve.specs.Deeds.{name_of}
use Rattle.store_serve.proofs.WriterDeeds as writer
use Rattle.store_serve.proofs.acting.writing_acts.Goals as goal

pub returns-clause-began : goal.returns-clause-began
returns-clause-began g c s t offer version url durable p q h = writer.began g.C.Cell.tells g.C.Cell.state g.O.Origin.offers s t h

pub returns-clause-not_taken : goal.returns-clause-not_taken
returns-clause-not_taken g c k t a v w why h = writer.not_taken k t a v why w h

pub returns-clause-appended : goal.returns-clause-appended
returns-clause-appended g c s t count e bytes p q writes h = writer.appended g.C.Cell.tells g.C.Cell.state g.O.Origin.offers s t e (writer.entry_of g.C.Cell.tells g.C.Cell.state g.O.Origin.offers s t e writes) h

pub returns-clause-not_appended : goal.returns-clause-not_appended
returns-clause-not_appended g c s t e bytes why p q writes h = writer.not_appended g.C.Cell.tells g.C.Cell.state g.O.Origin.offers s t e (writer.entry_of g.C.Cell.tells g.C.Cell.state g.O.Origin.offers s t e writes) h

pub returns-clause-finished : goal.returns-clause-finished
returns-clause-finished g c s t e ended p q writes h = writer.finished g.C.Cell.tells g.C.Cell.state g.O.Origin.offers s t e (writer.entry_of g.C.Cell.tells g.C.Cell.state g.O.Origin.offers s t e writes) h

pub returns-clause-not_finished : goal.returns-clause-not_finished
returns-clause-not_finished g c s t e why p q writes h = writer.not_finished g.C.Cell.tells g.C.Cell.state g.O.Origin.offers s t e (writer.entry_of g.C.Cell.tells g.C.Cell.state g.O.Origin.offers s t e writes) h

pub returns-clause-halts : goal.returns-clause-halts
returns-clause-halts g c s t e p q writes h = writer.halts (basis g.C.Cell.tells g.C.Cell.state g.O.Origin.offers s) t (name_of (basis g.C.Cell.tells g.C.Cell.state g.O.Origin.offers s) e) (writer.entry_of g.C.Cell.tells g.C.Cell.state g.O.Origin.offers s t e writes) h
