use Rattle.core_model.proofs.laws.idle_stores_are_settled.Goals as goal
use Rattle.core_model.proofs.Settled.{settles}

pub returns : goal.returns
returns c start k s a so lt free = settles k s a so lt free
