use Rattle.plain_runs.proofs.Served.{line_right}
use Rattle.plain_runs.proofs.line_laws.lone_lines_are_plain.Goals as goal

pub returns : goal.returns
returns g c s script line p q a before after plain told lone file sized takes served typed fair shows whole =
    line_right g.C.Cell.tells g.C.Cell.state g.O.Origin.offers s lone c.one_entry_at_a_slot.ensures
    record { writes = c.requests_keep_other_tabs.ensures.writes s; reads = c.requests_keep_other_tabs.ensures.reads s } told file
    record { front = c.bodies_are_given_from_the_front.ensures.front; whole = c.bodies_are_given_from_the_front.ensures.whole } sized
    script line p q a before after plain takes served typed fair shows whole
