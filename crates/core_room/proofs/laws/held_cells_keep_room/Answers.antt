use Rattle.core_room.proofs.Renewed.{room_rewritten, room_wiped}
use Rattle.core_room.proofs.laws.held_cells_keep_room.Goals as goal

pub returns-clause-written : goal.returns-clause-written
returns-clause-written c start k s capacity i t v w old new room at may = room_rewritten k capacity s room i v at t w new may.writes

pub returns-clause-wiped : goal.returns-clause-wiped
returns-clause-wiped c start k s capacity i t v f old new room at may = room_wiped k capacity s room i v at t f new may.frees
