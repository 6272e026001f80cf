use Rattle.crashed_stores.proofs.Standing.{known_lasting, known_offer}
use Rattle.crashed_stores.proofs.laws.finished_entries_last.Goals as goal

pub returns-clause-lasting : goal.returns-clause-lasting
returns-clause-lasting g c ground views left entry v j closed at known version_is stage = known_lasting g.C.Cell.tells g.C.Cell.state ground views left closed entry v j at known version_is stage

pub returns-clause-offer : goal.returns-clause-offer
returns-clause-offer g c ground views left entry v j closed at known version_is = known_offer g.C.Cell.tells g.C.Cell.state ground views left closed entry v j at known version_is
