use Rattle.core_model.proofs.laws.openings_are_sound.Goals as goal
use Rattle.core_model.proofs.Opened.{opens}

pub returns : goal.returns
returns c start k r s is opened = opens k r s is opened
