use Rattle.core_model.proofs.laws.deeds_are_of_passes.Goals as goal
use Rattle.core_model.proofs.StepsKeepTabs.{deeds_have_tabs}

pub returns : goal.returns
returns c start k s i v d so at done = deeds_have_tabs k s i v d so.shaped at done
