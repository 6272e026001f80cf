use Rattle.core_room.proofs.Kept.{keeps_room}
use Rattle.core_room.proofs.laws.steps_keep_room.Goals as goal

pub returns : goal.returns
returns c start k s need chain i v m fit so room at may keeps = keeps_room k s need chain i v fit so room at m may keeps
