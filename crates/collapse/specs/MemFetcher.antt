-- What callers see of a fetcher over memory.
use Rattle.std.specs.Prelude.{List, drop, ◌-◌, ◌^◌, ◌≡◌, ℕ}
use Rattle.rock_io.specs.Plan.{schedule_of}
use Rattle.rock_io.specs.Plan as plan
use Rattle.collapse.specs.declared.mem_fetcher.MemFetcher.{MemFetcher}

-- the body that it has, whatever the URL and the offer
abbrev pub body_of : MemFetcher → (url : List ℕ) → (offer : ℕ) → List ℕ
body_of fetcher url offer = fetcher.bytes.items

-- how many fetches were started
abbrev pub starts_of : MemFetcher → ℕ
starts_of fetcher = fetcher.starts

-- the bytes of the present fetch that are still to come
abbrev pub left_of : MemFetcher → List ℕ
left_of fetcher = drop fetcher.at fetcher.bytes.items

-- the most bytes that a call gives
abbrev pub most_of : MemFetcher → ℕ
most_of fetcher = fetcher.most

-- the numbers of the calls that are listed to fail
abbrev pub listed_calls_of : MemFetcher → List ℕ
listed_calls_of fetcher = (schedule_of fetcher.plan).fail

-- how many calls were made
abbrev pub calls_of : MemFetcher → ℕ
calls_of fetcher = (schedule_of fetcher.plan).number

-- how many of them failed
abbrev pub faults_of : MemFetcher → ℕ
faults_of fetcher = plan.faults_of fetcher.plan

-- the next call is listed to fail
abbrev pub FailsNext : MemFetcher → Type 0
FailsNext fetcher = plan.FailsNext (schedule_of fetcher.plan)

-- its count of starts is at its end
abbrev pub IsSpent : MemFetcher → Type 0
IsSpent fetcher = fetcher.starts ≡ 2 ^ 64 - 1

-- what the fetcher was made with stays
abbrev pub SameSettings : MemFetcher → MemFetcher → Type 0
SameSettings old new = (most_of new ≡ most_of old) × (listed_calls_of new ≡ listed_calls_of old)
