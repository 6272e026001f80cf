use Rattle.plain_runs.proofs.LotRuns.{private_run}
use Rattle.plain_runs.proofs.laws.private_runs_are_plain.Goals as goal

pub returns : goal.returns
returns g c slot anchors passes origin cells left s ps script accounts w a plain told slots over numbered run at none o some unspent alone fit =
    private_run g.C.Cell.tells g.C.Cell.state g.O.Origin.offers g.St.Station.faults slot anchors passes origin cells s ps over told g.met.C.Cell.as_wide slots
    c.one_winner_at_an_anchor.ensures.one c.opened_stores_hold_their_files.ensures
    record { writes = c.requests_keep_other_tabs.ensures.writes s; reads = c.requests_keep_other_tabs.ensures.reads s }
    c.faults_are_counted.ensures.rose c.one_entry_at_a_slot.ensures c.bodies_are_given_from_the_front.ensures.front c.bodies_are_given_from_the_front.ensures.whole script numbered plain o some
    w a (run.each w a at) none unspent c.placed_pieces_are_an_entry.ensures accounts at left run.closed alone fit
