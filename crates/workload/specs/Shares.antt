-- The workers that have a URL, each with its URLs.
use Rattle.std.specs.Prelude.{ℕ, Bool, nat_lt, List, length, map, filter}
use Rattle.std.specs.List.{range_with_len}
use Rattle.workload.specs.declared.shares.Share.{Share}
use Rattle.workload.specs.Urls.{urls_of}

abbrev pub share_of : (workers worker : ℕ) → Share
share_of workers worker = record { worker = worker; urls = urls_of workers worker }

abbrev pub has_url : Share → Bool
has_url share = nat_lt 0 (length share.urls)

-- in order of the workers, from 1
unfoldable pub shares_of : ℕ → List Share
shares_of workers = filter has_url (map (share_of workers) (range_with_len 1 workers))
