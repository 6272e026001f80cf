use Rattle.std.proofs.Common.{vec_capacity, ◌≡◌}
use Rattle.dir_set.proofs.Dealing.{Gathering}
use Rattle.dir_set.proofs.parts.gather.Given as goal

abbrev pub invariant-loop-worker : goal.invariant-loop-worker
invariant-loop-worker g l = record {
  gathering : Gathering l.dir l.initial.workers l.workers l.room.items l.worker;
  kept : vec_capacity l.room ≡ vec_capacity l.initial.room;
}
