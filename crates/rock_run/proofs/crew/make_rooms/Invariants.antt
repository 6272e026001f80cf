use Rattle.std.proofs.Common.{All, vec_capacity, ◌≡◌, ◌≤◌}
use Rattle.worker_shelf.specs.Shelves.{IsRoomFor}
use Rattle.rock_run.proofs.crew.make_rooms.Given as goal

abbrev pub invariant-loop : goal.invariant-loop
invariant-loop l = (l.rooms.len ≡ l.counter) × All (IsRoomFor l.slot) l.rooms.items × (l.count ≤ vec_capacity l.rooms)
