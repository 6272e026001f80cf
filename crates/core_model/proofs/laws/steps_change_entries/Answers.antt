use Rattle.core_model.proofs.laws.steps_change_entries.Goals as goal
use Rattle.core_model.proofs.Entries.{entry_after}

pub returns : goal.returns
returns c start k s i v m a so at may lt = entry_after k s i v m a so at may.pass may.allowed lt
