use Rattle.page_pool.specs.Seats.{IsSeatOf}
use Rattle.test_pools.proofs.pages.fill_and_look.Given as goal

abbrev pub invariant-loop-turn : goal.invariant-loop-turn
invariant-loop-turn l = IsSeatOf l.pool l.seat
