use Rattle.plain_laws.proofs.Running.{runs}
use Rattle.plain_laws.proofs.Fewer.{fewer_fit}
use Rattle.plain_laws.proofs.laws.fitting_scripts_have_room.Goals as goal

pub returns : goal.returns
returns c = record { room = runs; fewer = fewer_fit }
