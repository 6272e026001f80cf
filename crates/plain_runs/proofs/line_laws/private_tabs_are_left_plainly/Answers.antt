use Rattle.store_rule.specs.Passes.{basis, view}
use Rattle.plain_runs.proofs.LeavingLots.{leaves_lot}
use Rattle.plain_runs.proofs.LeftAnchors.{lot_left}
use Rattle.plain_runs.proofs.line_laws.private_tabs_are_left_plainly.Goals as goal

pub returns : goal.returns
returns g c s lot rename t p q plain theirs mine below left shows =
    leaves_lot g.C.Cell.tells g.C.Cell.state g.O.Origin.offers s c.one_entry_at_a_slot.ensures
    record { writes = c.requests_keep_other_tabs.ensures.writes s; reads = c.requests_keep_other_tabs.ensures.reads s }
    rename lot t p q plain below (lot_left (basis g.C.Cell.tells g.C.Cell.state g.O.Origin.offers s) lot (view p).pass theirs) mine left shows
