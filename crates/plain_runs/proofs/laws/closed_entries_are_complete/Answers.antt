use Rattle.plain_runs.proofs.Closings.{closed_entry}
use Rattle.plain_runs.proofs.laws.closed_entries_are_complete.Goals as goal

pub returns : goal.returns
returns g c slot anchors passes origin cells left s ps views a url body told slots over closed lt stage response =
    closed_entry g.C.Cell.tells g.C.Cell.state g.O.Origin.offers slot anchors passes origin cells s ps over told g.met.C.Cell.as_wide slots
    c.one_winner_at_an_anchor.ensures.one c.placed_pieces_are_an_entry.ensures views left closed a lt stage url body response
