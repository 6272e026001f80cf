use Rattle.worker_pool.proofs.Leaving.{AreLeftTo}
use Rattle.worker_pool.proofs.crew.leave_each.Given as goal

abbrev pub invariant-loop-shelf : goal.invariant-loop-shelf
invariant-loop-shelf g l = AreLeftTo g.H.Shelf l.shelf-index l.initial.shelves l.shelves
