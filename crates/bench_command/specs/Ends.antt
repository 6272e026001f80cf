-- When each status of a benchmark comes: by the numbers and the counts of faults, and by the files.
use Rattle.std.specs.Prelude.{Bool, IsTrue, List, ◌+◌, ◌<◌, ◌≡◌, ◌⊎◌, ℕ}
use Rattle.db_layout.specs.declared.layout.TheConstants.{HEADER_BYTES}
use Rattle.rock_disk.specs.File.{Files, IsThere}
use Rattle.rock_io.specs.Faults.{Rose}
use Rattle.rock_disk.specs.Counts.{Counts, NoStation}
use Rattle.rock_open.specs.Opening.{IsBeyond, IsPasses}
use Rattle.rock_run.specs.Device.{RunFailed}
use Rattle.rock_status.specs.declared.status.Status.{Status}
use Rattle.rock_status.specs.declared.status.Status.TheVariants.{BadGeometry, BadScript, DeviceFault, Done, Exists, Memory, Missing, SinkFault, Small, SourceFault, Usage}
use Rattle.bench_command.specs.Numbers.{AreBenchNumbers, IsRounds, anchors_for, slot_size}
use Rattle.bench_command.specs.Stations.{BenchFailed, NoneBehind}

-- The counts are those of the faults of the sink, and of the volume, before and after. Where a number or the name refuses the benchmark, no
-- station was made, and where opening refuses its file, that of the header area at most.
abbrev pub BenchEnds : (workers count : ℕ) → (sink sink_after : ℕ) → (before after : Counts) → Status → Type 0
BenchEnds workers count k k' before after Done = AreBenchNumbers workers count
BenchEnds workers count k k' before after Usage = ⊥
BenchEnds workers count k k' before after Memory = AreBenchNumbers workers count
BenchEnds workers count k k' before after SourceFault = ⊥
BenchEnds workers count k k' before after SinkFault = AreBenchNumbers workers count × Rose k k'
BenchEnds workers count k k' before after DeviceFault = AreBenchNumbers workers count × BenchFailed before after
BenchEnds workers count k k' before after (BadScript line cause) = ⊥
BenchEnds workers count k k' before after Missing = AreBenchNumbers workers count × NoneBehind before after
BenchEnds workers count k k' before after (Small bytes) = AreBenchNumbers workers count × (bytes < HEADER_BYTES + slot_size)
    × NoneBehind before after
BenchEnds workers count k k' before after (BadGeometry field) =
    ((field ≡ 3) × ¬ IsPasses workers × NoStation before after)
    ⊎ (((field ≡ 4) × IsPasses workers × ¬ IsRounds count × NoStation before after)
    ⊎ ((field ≡ 2) × AreBenchNumbers workers count × IsBeyond (anchors_for workers) × NoneBehind before after))
BenchEnds workers count k k' before after Exists = AreBenchNumbers workers count × NoStation before after

-- What each status says of the files. A file that was made is there, is long enough, and has slots for the anchors: so three refusals of
-- opening do not come.
abbrev pub BenchSays : Files → (name : List ℕ) → Status → Type 0
BenchSays files name Done = ¬ IsThere files name
BenchSays files name SinkFault = ¬ IsThere files name
BenchSays files name DeviceFault = ¬ IsThere files name
BenchSays files name Memory = ¬ IsThere files name
BenchSays files name Exists = IsThere files name
BenchSays files name Missing = ⊥
BenchSays files name (Small bytes) = ⊥
BenchSays files name (BadGeometry field) = ¬ (field ≡ 2)
BenchSays files name status = Unit {0}

-- How the run over its file ends, by the counts alone,
abbrev pub RunEnds : (workers : ℕ) → (sink sink_after : ℕ) → (before after : Counts) → Status → Type 0
RunEnds workers k k' before after Done = Unit {0}
RunEnds workers k k' before after Memory = Unit {0}
RunEnds workers k k' before after SinkFault = Rose k k'
RunEnds workers k k' before after DeviceFault = RunFailed before after
RunEnds workers k k' before after Missing = NoStation before after
RunEnds workers k k' before after (Small bytes) = (bytes < HEADER_BYTES + slot_size) × NoStation before after
RunEnds workers k k' before after (BadGeometry field) = (field ≡ 2) × IsBeyond (anchors_for workers) × NoStation before after
RunEnds workers k k' before after status = ⊥

-- and where the file has its slots: three refusals of opening do not come.
abbrev pub RunSays : Status → Type 0
RunSays Missing = ⊥
RunSays (Small bytes) = ⊥
RunSays (BadGeometry field) = ⊥
RunSays status = Unit {0}

-- where a number or the files refuse it, it is refused so, in this order
pub record IsBenchRefused (volume_tells : Bool) (files : Files) (name : List ℕ) (workers count : ℕ) (status : Status) : Type 0 where
  -- There are no workers, or too many.
  pub passes : ¬ IsPasses workers → status ≡ BadGeometry 3
  -- There are too many rounds.
  pub rounds : IsPasses workers → ¬ IsRounds count → status ≡ BadGeometry 4
  -- A file has the name.
  pub exists : IsTrue volume_tells → AreBenchNumbers workers count → IsThere files name → status ≡ Exists
