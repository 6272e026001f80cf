use Rattle.std.proofs.Common.{subst}
use Rattle.worker_shelf.specs.Shelves.{IsRoomFor}
use Rattle.worker_shelf.proofs.shelf.WorkerShelf.new.Goals as goal

pub with_room-requires-clause-room : goal.with_room-requires-clause-room
with_room-requires-clause-room g c = subst (λ slot. IsRoomFor slot c.in-Ok.room) c.slot_size.ensures c.in-Ok.ensures
