use Rattle.crew_accounts.proofs.Stores.{has_past, opened_as_kept}
use Rattle.crew_accounts.proofs.openings.opened_stores_have_runs.Goals as goal

pub returns-clause-past : goal.returns-clause-past
returns-clause-past g c slot anchors passes origin cells s ps small over =
    has_past g.C.Cell.tells g.C.Cell.state g.O.Origin.offers slot anchors passes origin cells s ps over
    c.one_entry_at_a_slot.ensures c.one_winner_at_an_anchor.ensures.one c.opened_stores_hold_their_files.ensures small

pub returns-clause-opening : goal.returns-clause-opening
returns-clause-opening g c slot anchors passes origin cells s ps over =
    opened_as_kept g.C.Cell.tells g.C.Cell.state g.O.Origin.offers slot anchors passes origin cells s ps over
