use Rattle.std.proofs.Common.{◌≡◌, vec_capacity}
use Rattle.worker_pool.proofs.Hiring.{AreHiredTo}
use Rattle.worker_pool.proofs.crew.hire.Given as goal

abbrev pub invariant-loop-place : goal.invariant-loop-place
invariant-loop-place g l = AreHiredTo l.place l.fn.shelves.items l.shelves.items l.fn.seats.items l.seats.items l.workers.items
    × (vec_capacity l.shelves ≡ vec_capacity l.initial.shelves) × (vec_capacity l.workers ≡ vec_capacity l.initial.workers)
