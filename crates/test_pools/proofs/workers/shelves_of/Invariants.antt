use Rattle.std.proofs.Common.{◌≡◌, vec_len}
use Rattle.test_pools.proofs.workers.shelves_of.Given as goal

abbrev pub invariant-loop-room : goal.invariant-loop-room
invariant-loop-room l = vec_len l.shelves ≡ l.room-index
