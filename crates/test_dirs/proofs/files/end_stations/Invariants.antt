use Rattle.std.proofs.Common.{length, ◌+◌, ◌≡◌}
use Rattle.test_dirs.proofs.files.end_stations.Given as goal

abbrev pub invariant-loop : goal.invariant-loop
invariant-loop g l = (l.stations.len + l.counter ≡ l.fn.stations.len)
    × (length (g.V.Volume.ended l.volume) ≡ length (g.V.Volume.ended l.initial.volume) + l.counter)
    × (g.V.Volume.made l.volume ≡ g.V.Volume.made l.initial.volume)
