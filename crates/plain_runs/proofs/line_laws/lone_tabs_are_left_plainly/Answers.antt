use Rattle.plain_runs.proofs.Served.{leaves_right}
use Rattle.plain_runs.proofs.line_laws.lone_tabs_are_left_plainly.Goals as goal

pub returns : goal.returns
returns g c s t p q plain lone below left shows =
    leaves_right g.C.Cell.tells g.C.Cell.state g.O.Origin.offers s lone c.one_entry_at_a_slot.ensures
    record { writes = c.requests_keep_other_tabs.ensures.writes s; reads = c.requests_keep_other_tabs.ensures.reads s }
    t p q plain below left shows
