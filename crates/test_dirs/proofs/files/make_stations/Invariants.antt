use Rattle.std.proofs.Common.{vec_capacity, ◌+◌, ◌≡◌}
use Rattle.test_dirs.proofs.files.make_stations.Given as goal

abbrev pub invariant-loop : goal.invariant-loop
invariant-loop g l = (g.V.Volume.files l.volume ≡ g.V.Volume.files l.initial.volume)
    × (g.V.Volume.made l.volume ≡ g.V.Volume.made l.initial.volume + l.stations.len)
    × (g.V.Volume.ended l.volume ≡ g.V.Volume.ended l.initial.volume)
    × (l.stations.len ≡ l.counter)
    × (vec_capacity l.stations ≡ vec_capacity l.initial.stations)
