use Rattle.core_model.proofs.laws.chains_are_spelled_once.Goals as goal
use Rattle.core_model.proofs.SpelledOnce.{spelled_once}

pub returns : goal.returns
returns c from links slots others end other_end p q = spelled_once links from slots others end other_end p q
