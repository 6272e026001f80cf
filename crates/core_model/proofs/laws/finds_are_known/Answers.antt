use Rattle.core_model.proofs.laws.finds_are_known.Goals as goal
use Rattle.core_model.proofs.Tells.{tells}

pub returns : goal.returns
returns c start k s i v m so at may = tells k s i v m so at may
