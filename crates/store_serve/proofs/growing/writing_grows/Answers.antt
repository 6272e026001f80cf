use Rattle.store_serve.proofs.Writers as writer
use Rattle.store_serve.proofs.growing.writing_grows.Goals as goal

pub returns-clause-began : goal.returns-clause-began
returns-clause-began g c s t offer version url durable p q h = writer.began g.C.Cell.tells g.C.Cell.state g.O.Origin.offers s t h

pub returns-clause-not_taken : goal.returns-clause-not_taken
returns-clause-not_taken g c k t a v w why h = writer.not_taken k t a v why w h

pub returns-clause-appended : goal.returns-clause-appended
returns-clause-appended g c s t count e bytes p q h = writer.appended g.C.Cell.tells g.C.Cell.state g.O.Origin.offers s t e h

pub returns-clause-not_appended : goal.returns-clause-not_appended
returns-clause-not_appended g c s t e bytes why p q h = writer.not_appended g.C.Cell.tells g.C.Cell.state g.O.Origin.offers s t e h

pub returns-clause-finished : goal.returns-clause-finished
returns-clause-finished g c s t e ended p q h = writer.finished g.C.Cell.tells g.C.Cell.state g.O.Origin.offers s t e h

pub returns-clause-not_finished : goal.returns-clause-not_finished
returns-clause-not_finished g c s t e why p q h = writer.not_finished g.C.Cell.tells g.C.Cell.state g.O.Origin.offers s t e h

pub returns-clause-halts : goal.returns-clause-halts
returns-clause-halts g c k t v w h = writer.halts k t h
