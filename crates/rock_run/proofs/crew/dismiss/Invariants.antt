use Rattle.std.proofs.Common.{All, drop, map, take, vec_capacity, ◌≡◌}
use Rattle.rock_run.specs.Crews.{MayRest}
use Rattle.rock_run.proofs.crew.dismiss.Given as goal

abbrev pub invariant-loop : goal.invariant-loop
invariant-loop g l = (l.shelves.items ≡ drop l.counter l.fn.shelves.items)
    × (l.passes.items ≡ map (λ shelf. shelf.pass) (take l.counter l.fn.shelves.items))
    × (l.stations.items ≡ map (λ shelf. shelf.station) (take l.counter l.fn.shelves.items))
    × All (λ shelf. MayRest g.C.Cell.tells g.C.Cell.state g.O.Origin.offers shelf.store shelf.pass) (take l.counter l.fn.shelves.items)
    × (l.passes.len ≡ l.counter) × (l.stations.len ≡ l.counter)
    × (vec_capacity l.passes ≡ vec_capacity l.initial.passes)
    × (vec_capacity l.stations ≡ vec_capacity l.initial.stations)
