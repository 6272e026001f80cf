use Rattle.plain_runs.proofs.LeftAnchors.{lot_left}
use Rattle.plain_runs.proofs.OtherLines.{other_request}
use Rattle.plain_runs.proofs.line_laws.other_lines_leave_the_lot.Goals as goal
use Rattle.store_rule.specs.Passes.{basis, view}

pub returns : goal.returns
returns g c s rename lot line p q a before after plain fit left whole free away served shows =
    other_request g.C.Cell.tells g.C.Cell.state g.O.Origin.offers s c.one_entry_at_a_slot.ensures
    record { writes = c.requests_keep_other_tabs.ensures.writes s; reads = c.requests_keep_other_tabs.ensures.reads s }
    rename lot p q plain (lot_left (basis g.C.Cell.tells g.C.Cell.state g.O.Origin.offers s) lot (view p).pass left.anchors) shows left.counter fit
    line.number a line.request whole free away served.request served.leaves
