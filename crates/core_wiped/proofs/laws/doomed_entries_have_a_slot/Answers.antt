use Rattle.core_wiped.proofs.Filled.{freed_some}
use Rattle.core_wiped.proofs.laws.doomed_entries_have_a_slot.Goals as goal

pub returns : goal.returns
returns g c k s log i t f so ws tab freeing whole doom = freed_some k s i t f so ws.filled tab freeing whole doom
