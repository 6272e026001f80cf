use Rattle.rock_run.proofs.Asking.{asks, goes, lines_offered}
use Rattle.rock_run.proofs.asked.script_lines_may_be_asked.Goals as goal

pub returns-clause-asks : goal.returns-clause-asks
returns-clause-asks g c s lines line given found asked marks awaits = asks g.C.Cell.tells g.C.Cell.state g.O.Origin.offers s lines given line found asked marks awaits

pub returns-clause-goes : goal.returns-clause-goes
returns-clause-goes g c s lines line p url given found mine named = goes g.C.Cell.tells g.C.Cell.state g.O.Origin.offers s lines given line p url found mine named

pub returns-clause-takes : goal.returns-clause-takes
returns-clause-takes g c s lines line p given found asked mine marks awaits = record {
  asks = asks g.C.Cell.tells g.C.Cell.state g.O.Origin.offers s lines (lines_offered g.C.Cell.tells g.C.Cell.state g.O.Origin.offers s lines given) line found asked marks awaits;
  goes = λ url named. goes g.C.Cell.tells g.C.Cell.state g.O.Origin.offers s lines given line p url found mine named;
}
