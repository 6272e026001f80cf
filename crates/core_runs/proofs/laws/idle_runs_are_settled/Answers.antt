use Rattle.core_model.proofs.Settled.{settles}
use Rattle.core_table.specs.Machine.{setting_of, state_of}
use Rattle.core_runs.proofs.Runs.{stays_sound}
use Rattle.core_runs.proofs.laws.idle_runs_are_settled.Goals as goal

pub returns : goal.returns
returns c steps cores from run first so i core at free a lt = settles (setting_of core) (state_of core) a (stays_sound steps cores from run first so i core at).anchors lt free
