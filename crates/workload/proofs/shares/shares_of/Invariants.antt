use Rattle.std.proofs.Common.{◌≡◌, map}
use Rattle.std.specs.List.{range_with_len, filter}
use Rattle.workload.specs.Shares.{has_url, share_of}
use Rattle.workload.proofs.shares.shares_of.Given as goal

abbrev pub invariant-workers : goal.invariant-workers
invariant-workers l = l.shares.items ≡ filter has_url (map (share_of l.workers) (range_with_len 1 l.before))
