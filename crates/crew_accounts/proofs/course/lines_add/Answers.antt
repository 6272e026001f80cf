use Rattle.crew_accounts.proofs.AnyLine.{line_adds}
use Rattle.crew_accounts.proofs.course.lines_add.Goals as goal

pub returns : goal.returns
returns g c s told past served line p q a before after told_so tracks takes serves fit =
    line_adds g.C.Cell.tells g.C.Cell.state g.O.Origin.offers s told past served line p a q before after
    record { front = c.bodies_are_given_from_the_front.ensures.front; whole = c.bodies_are_given_from_the_front.ensures.whole } told_so tracks takes serves fit
