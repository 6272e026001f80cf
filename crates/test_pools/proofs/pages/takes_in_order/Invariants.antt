use Rattle.page_pool.specs.Seats.{IsSeatOf}
use Rattle.test_pools.proofs.pages.takes_in_order.Given as goal

abbrev pub invariant-loop-number : goal.invariant-loop-number
invariant-loop-number l = IsSeatOf l.pool l.seat
