-- The URLs of a benchmark, and the workers that they belong to.
use Rattle.std.specs.Prelude.{ℕ, ◌+◌, ◌*◌, ◌/◌, ◌==◌, List, ◌++◌, codes, decimal, filter}
use Rattle.std.specs.List.{range_with_len}
use Rattle.store_key.specs.Key.{key_of}
use Rattle.store_key.specs.Anchor.{anchor_of}

-- the URL of a number
unfoldable pub url_of : ℕ → List ℕ
url_of n = codes "http://bench/" ++ decimal n

-- the worker that it belongs to. There are 16 anchors for each worker: the first 16 for worker 1, and so on
unfoldable pub home_of : (workers n : ℕ) → ℕ
home_of workers n = 1 + anchor_of (key_of (url_of n)) (16 * workers) / 16

-- the numbers of a worker's URLs in order, among 64 for each worker
unfoldable pub urls_of : (workers worker : ℕ) → List ℕ
urls_of workers worker = filter (λ n. home_of workers n == worker) (range_with_len 0 (64 * workers))
