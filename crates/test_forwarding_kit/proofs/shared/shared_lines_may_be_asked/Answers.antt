use Rattle.test_forwarding_kit.proofs.SharedLines.{goes, lines_offered}
use Rattle.test_forwarding_kit.proofs.shared.shared_lines_may_be_asked.Goals as goal

pub returns-clause-asks : goal.returns-clause-asks
returns-clause-asks g c s lines line given found asked marks awaits = c.script_lines_may_be_asked.ensures.asks s lines line
    (lines_offered g.C.Cell.tells g.C.Cell.state g.O.Origin.offers s lines given) found asked marks awaits

pub returns-clause-goes : goal.returns-clause-goes
returns-clause-goes g c s lines p url given = goes g.C.Cell.tells g.C.Cell.state g.O.Origin.offers s lines given p url

pub returns-clause-takes : goal.returns-clause-takes
returns-clause-takes g c s lines line p given found asked marks awaits = record {
  asks = c.script_lines_may_be_asked.ensures.asks s lines line
      (lines_offered g.C.Cell.tells g.C.Cell.state g.O.Origin.offers s lines given) found asked marks awaits;
  goes = λ url named. goes g.C.Cell.tells g.C.Cell.state g.O.Origin.offers s lines given p url;
}
