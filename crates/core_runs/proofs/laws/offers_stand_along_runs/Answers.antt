use Rattle.core_runs.proofs.laws.offers_stand_along_runs.Goals as goal
use Rattle.core_runs.proofs.Answering.{from_offers}
use Rattle.core_runs.proofs.Offered.{all_offers}

pub returns-clause-opened : goal.returns-clause-opened
returns-clause-opened c file offers anchors passes from new so = from_offers file offers anchors passes from new so

pub returns-clause-kept : goal.returns-clause-kept
returns-clause-kept c file offers steps cores from run first so st faithful i core at = all_offers file offers from steps cores run first so st faithful i core at
