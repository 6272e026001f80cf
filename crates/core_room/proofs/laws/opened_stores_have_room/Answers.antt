use Rattle.core_room.proofs.Opened.{room_opened}
use Rattle.core_room.proofs.laws.opened_stores_have_room.Goals as goal

pub returns : goal.returns
returns c start k r s need chain is o kept = room_opened k r s is o need chain kept
