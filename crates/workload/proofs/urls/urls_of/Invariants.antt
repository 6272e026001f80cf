use Rattle.std.proofs.Common.{◌≡◌}
use Rattle.std.specs.Prelude.{◌==◌}
use Rattle.std.specs.List.{range_with_len, filter}
use Rattle.workload.specs.Urls.{home_of}
use Rattle.workload.proofs.urls.urls_of.Given as goal

abbrev pub invariant-urls : goal.invariant-urls
invariant-urls l = l.urls.items ≡ filter (λ n. home_of l.workers n == l.worker) (range_with_len 0 l.number)
