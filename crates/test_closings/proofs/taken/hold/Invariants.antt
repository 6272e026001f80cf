use Rattle.std.specs.Prelude.{IsTrue}
use Rattle.page_pool.specs.Seats.{IsSeatOf, view}
use Rattle.test_closings.proofs.taken.hold.Given as goal

abbrev pub invariant-loop : goal.invariant-loop
invariant-loop l = record {
  own : IsSeatOf l.pool l.seat;
  alone : IsTrue (view l.seat).is_alone;
}
