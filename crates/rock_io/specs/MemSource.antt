-- What callers see of a source over bytes in memory.
use Rattle.std.specs.Prelude.{◌≡◌, ℕ, List, drop}
use Rattle.rock_io.specs.Plan.{schedule_of}
use Rattle.rock_io.specs.Plan as plan
use Rattle.rock_io.specs.declared.mem_source.MemSource.{MemSource}

-- the bytes that are still to come
abbrev pub left_of : MemSource → List ℕ
left_of source = drop source.at source.bytes.items

-- the most bytes that a call gives
abbrev pub most_of : MemSource → ℕ
most_of source = source.most

-- the numbers of the calls that are listed to fail
abbrev pub listed_calls_of : MemSource → List ℕ
listed_calls_of source = (schedule_of source.plan).fail

-- how many calls were made
abbrev pub calls_of : MemSource → ℕ
calls_of source = (schedule_of source.plan).number

-- how many of them failed
abbrev pub faults_of : MemSource → ℕ
faults_of source = plan.faults_of source.plan

-- the next call is listed to fail
abbrev pub FailsNext : MemSource → Type 0
FailsNext source = plan.FailsNext (schedule_of source.plan)

-- what the source was made with stays
abbrev pub SameSettings : MemSource → MemSource → Type 0
SameSettings old new = (most_of new ≡ most_of old) × (listed_calls_of new ≡ listed_calls_of old)
