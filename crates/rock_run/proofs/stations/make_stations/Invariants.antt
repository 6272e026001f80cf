use Rattle.std.proofs.Common.{All, vec_capacity, ◌+◌, ◌≡◌}
use Rattle.rock_run.proofs.stations.make_stations.Given as goal

abbrev pub invariant-loop : goal.invariant-loop
invariant-loop g l = (g.V.Volume.files l.volume ≡ g.V.Volume.files l.initial.volume)
    × (g.V.Volume.made l.volume ≡ g.V.Volume.made l.initial.volume + l.stations.len)
    × (g.V.Volume.ended l.volume ≡ g.V.Volume.ended l.initial.volume)
    × (g.V.Volume.faults l.volume ≡ g.V.Volume.faults l.initial.volume)
    × (l.stations.len ≡ l.counter)
    × All (λ s. g.V.St.Station.faults s ≡ 0) l.stations.items
    × (vec_capacity l.stations ≡ vec_capacity l.initial.stations)
