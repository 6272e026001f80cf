use Rattle.std.proofs.Common.{◌≡◌, ◌≤◌}
use Rattle.marks.specs.Seats.{view, IsSeatOf}
use Rattle.worker_pool.proofs.meeting.wait_for.Given as goal

abbrev pub invariant-loop : goal.invariant-loop
invariant-loop g l = IsSeatOf l.marks l.seat × (view l.seat ≡ view l.initial.seat) × (l.looks ≤ 1100)
