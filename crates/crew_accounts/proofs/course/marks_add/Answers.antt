use Rattle.crew_accounts.proofs.MarkLines.{met_adds, set_adds, unmet_adds}
use Rattle.crew_accounts.proofs.course.marks_add.Goals as goal

pub returns-clause-set : goal.returns-clause-set
returns-clause-set g c s told past served worker number mark p q tracks hands is = set_adds g.C.Cell.tells g.C.Cell.state g.O.Origin.offers s told past served worker number mark p q tracks hands is

pub returns-clause-met : goal.returns-clause-met
returns-clause-met g c s told past served worker number mark p m q sights tracks learns is notes again = met_adds g.C.Cell.tells g.C.Cell.state g.O.Origin.offers s told past served worker number mark p q m sights tracks learns is notes again

pub returns-clause-unmet : goal.returns-clause-unmet
returns-clause-unmet g c s told past served worker number mark p q tracks same = unmet_adds g.C.Cell.tells g.C.Cell.state g.O.Origin.offers s told past served worker number mark p q tracks same
