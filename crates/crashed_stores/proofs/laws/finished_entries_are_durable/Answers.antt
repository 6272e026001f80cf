use Rattle.crashed_stores.proofs.Finished.{finished_durable}
use Rattle.crashed_stores.proofs.laws.finished_entries_are_durable.Goals as goal

pub returns : goal.returns
returns c ground entry v s known seen rule version_is some_slot = finished_durable ground entry v s rule known seen version_is some_slot
