use Rattle.plain_runs.proofs.Opened.{opens, shows_opened}
use Rattle.plain_runs.proofs.laws.new_passes_show_plain_stores.Goals as goal

pub returns-clause-opens : goal.returns-clause-opens
returns-clause-opens g c slot anchors passes origin cells s ps told over =
    opens g.C.Cell.tells g.C.Cell.state g.O.Origin.offers slot anchors passes origin cells s ps over told

pub returns-clause-shows : goal.returns-clause-shows
returns-clause-shows g c slot anchors passes origin cells s ps p plain told slots over new o =
    shows_opened g.C.Cell.tells g.C.Cell.state g.O.Origin.offers slot anchors passes origin cells s ps over told g.met.C.Cell.as_wide slots
    c.one_winner_at_an_anchor.ensures.one p new plain o
