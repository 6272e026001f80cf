use Rattle.page_pool.specs.Seats.{IsSeatOf}
use Rattle.test_closings.proofs.taken.count_left.Given as goal

abbrev pub invariant-loop-left : goal.invariant-loop-left
invariant-loop-left l = IsSeatOf l.pool l.seat
