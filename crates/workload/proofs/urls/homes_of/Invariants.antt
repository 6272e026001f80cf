use Rattle.std.proofs.Common.{◌≡◌, map}
use Rattle.std.specs.List.{range_with_len}
use Rattle.workload.specs.Urls.{home_of}
use Rattle.workload.proofs.urls.homes_of.Given as goal

abbrev pub invariant-urls : goal.invariant-urls
invariant-urls l = l.homes.items ≡ map (home_of l.workers) (range_with_len 0 l.number)
