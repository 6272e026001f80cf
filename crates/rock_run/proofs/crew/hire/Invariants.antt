use Rattle.std.proofs.Common.{Contains, drop, map, take, vec_capacity, ◌≡◌}
use Rattle.rock_run.proofs.crew.hire.Given as goal

abbrev pub invariant-loop : goal.invariant-loop
invariant-loop g l = (l.passes.items ≡ drop l.counter l.fn.passes.items)
    × (l.stations.items ≡ drop l.counter l.fn.stations.items)
    × (l.rooms.items ≡ drop l.counter l.fn.rooms.items)
    × (map (λ shelf. shelf.pass) l.shelves.items ≡ take l.counter l.fn.passes.items)
    × (map (λ shelf. shelf.station) l.shelves.items ≡ take l.counter l.fn.stations.items)
    × ((shelf : _) → Contains l.shelves.items shelf → shelf.store ≡ l.store)
    × (l.shelves.len ≡ l.counter)
    × (vec_capacity l.shelves ≡ vec_capacity l.initial.shelves)
    × (vec_capacity l.passes ≡ vec_capacity l.initial.passes)
    × (vec_capacity l.stations ≡ vec_capacity l.initial.stations)
