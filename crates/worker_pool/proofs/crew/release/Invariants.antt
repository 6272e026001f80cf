use Rattle.std.proofs.Common.{◌≡◌, ◌+◌, vec_len, vec_capacity}
use Rattle.marks.specs.Seats.{view, IsSeatOf}
use Rattle.worker_pool.proofs.Hiring.{Released}
use Rattle.worker_pool.proofs.crew.release.Given as goal

abbrev pub invariant-loop : goal.invariant-loop
invariant-loop g l = record {
  released : Released l.fn.workers.items l.workers.items l.counter l.shelves.items l.answers.items l.is_whole (view l.seat);
  seat : IsSeatOf l.marks l.seat;
  count : vec_len l.workers + l.counter ≡ vec_len l.fn.workers;
  shelves : (vec_len l.shelves ≡ l.counter) × (vec_capacity l.shelves ≡ vec_capacity l.initial.shelves);
  answers : (vec_len l.answers ≡ l.counter) × (vec_capacity l.answers ≡ vec_capacity l.initial.answers);
}
