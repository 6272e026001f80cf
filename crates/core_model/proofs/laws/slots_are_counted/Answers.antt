use Rattle.core_model.proofs.laws.slots_are_counted.Goals as goal
use Rattle.core_model.proofs.SlotsCounted.{slots_counted}

pub returns : goal.returns
returns c start k s so = slots_counted k s so.slots
