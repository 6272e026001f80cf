use Rattle.core_model.proofs.laws.slots_have_one_spot.Goals as goal
use Rattle.core_model.proofs.OneSpot.{one_spot, unwritten}
use Rattle.core_model.proofs.Holders.{rest_held, unheld}

pub returns-clause-one : goal.returns-clause-one
returns-clause-one c start k s slot so lt = one_spot k s so.anchors.shaped so.slots slot lt

pub returns-clause-unwritten : goal.returns-clause-unwritten
returns-clause-unwritten c start k s slot spot so lt unwritten_there there = unwritten k s so.anchors.shaped so.slots slot lt spot unwritten_there there

pub returns-clause-unheld : goal.returns-clause-unheld
returns-clause-unheld c start k s slot spot so lt unheld_there there = unheld k s so slot spot lt unheld_there there

pub returns-clause-rests : goal.returns-clause-rests
returns-clause-rests c start k s slot i t so lt there = rest_held k s so slot i t lt there
