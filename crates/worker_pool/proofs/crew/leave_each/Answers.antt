use Rattle.std.proofs.Common.{◌<◌, ◌≤◌, length, get_or, arith}
use Rattle.worker_pool.proofs.Leaving.{left_more, all_left}
use Rattle.worker_pool.proofs.Places.{at_read}
use Rattle.worker_pool.proofs.crew.leave_each.Goals as goal

pub loop-shelf-preserved : goal.loop-shelf-preserved
loop-shelf-preserved g c =
    let lt : c.loop-shelf.shelf-index < length c.loop-shelf.shelves = omega arith in
    left_more g.H.Shelf c.loop-shelf.shelf-index c.args.shelves.now c.loop-shelf.shelves (get_or c.loop-shelf.shelves c.loop-shelf.shelf-index c.shelf-item.result) c.leave.new.shelf
    (at_read c.loop-shelf.shelves c.loop-shelf.shelf-index c.shelf-item.result lt) c.leave.ensures c.loop-shelf.invariant

pub returns : goal.returns
returns g c =
    let over : length c.loop-shelf.shelves ≤ c.loop-shelf.shelf-index = omega arith in
    all_left g.H.Shelf c.loop-shelf.shelf-index c.args.shelves.now c.loop-shelf.shelves over c.loop-shelf.invariant
