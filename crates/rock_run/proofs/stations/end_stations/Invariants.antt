use Rattle.std.proofs.Common.{drop, map, take, ◌++◌, ◌≡◌}
use Rattle.rock_run.proofs.stations.end_stations.Given as goal

abbrev pub invariant-loop : goal.invariant-loop
invariant-loop g l = (l.stations.items ≡ drop l.counter l.fn.stations.items)
    × (g.V.Volume.ended l.volume ≡ g.V.Volume.ended l.initial.volume ++ map g.V.St.Station.faults (take l.counter l.fn.stations.items))
    × (g.V.Volume.files l.volume ≡ g.V.Volume.files l.initial.volume)
    × (g.V.Volume.made l.volume ≡ g.V.Volume.made l.initial.volume)
    × (g.V.Volume.faults l.volume ≡ g.V.Volume.faults l.initial.volume)
