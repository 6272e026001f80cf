-- What callers see of a sink over memory.
use Rattle.std.specs.Prelude.{◌≡◌, ℕ, List}
use Rattle.rock_io.specs.Plan.{schedule_of}
use Rattle.rock_io.specs.Plan as plan
use Rattle.rock_io.specs.declared.mem_sink.MemSink.{MemSink}

-- the bytes that were taken
abbrev pub taken_of : MemSink → List ℕ
taken_of sink = sink.bytes.items

-- how many more bytes there is room for
abbrev pub room_of : MemSink → ℕ
room_of sink = sink.room

-- the most bytes that a call takes
abbrev pub most_of : MemSink → ℕ
most_of sink = sink.most

-- the numbers of the calls that are listed to fail
abbrev pub listed_calls_of : MemSink → List ℕ
listed_calls_of sink = (schedule_of sink.plan).fail

-- how many calls were made
abbrev pub calls_of : MemSink → ℕ
calls_of sink = (schedule_of sink.plan).number

-- how many of them failed
abbrev pub faults_of : MemSink → ℕ
faults_of sink = plan.faults_of sink.plan

-- the next call is listed to fail
abbrev pub FailsNext : MemSink → Type 0
FailsNext sink = plan.FailsNext (schedule_of sink.plan)

-- what the sink was made with stays
abbrev pub SameSettings : MemSink → MemSink → Type 0
SameSettings old new = (most_of new ≡ most_of old) × (listed_calls_of new ≡ listed_calls_of old)
