use Rattle.core_model.proofs.laws.steps_keep_sound.Goals as goal
use Rattle.core_model.proofs.AllKept.{keeps_sound}

pub returns : goal.returns
returns c start k s i v m so at may = keeps_sound k s i v m so at may
