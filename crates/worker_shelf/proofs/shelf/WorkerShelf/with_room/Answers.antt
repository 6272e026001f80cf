use Rattle.worker_shelf.proofs.Newly.{new_shelf}
use Rattle.worker_shelf.proofs.shelf.WorkerShelf.with_room.Goals as goal

pub invariant_of-result : goal.invariant_of-result
invariant_of-result g c = new_shelf g.C.Cell.tells g.C.Cell.state g.O.Origin.offers c.args.store.now c.args.pass c.args.room.tabs.items c.args.room.piece.items c.requires.own c.requires.rest c.requires.cells c.requires.room.tabs c.requires.room.piece
