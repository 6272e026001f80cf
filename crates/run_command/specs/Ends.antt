-- When each status of a run comes, by the numbers and the counts of faults.
use Rattle.std.specs.Prelude.{All, List, None, Option, Some, ◌+◌, ◌<◌, ◌≡◌, ◌⊎◌, ℕ}
use Rattle.db_layout.specs.Layout.{IsSlotSize}
use Rattle.db_layout.specs.declared.layout.TheConstants.{HEADER_BYTES}
use Rattle.rock_io.specs.Faults.{Rose}
use Rattle.rock_disk.specs.Counts.{Counts, NoStation}
use Rattle.rock_open.specs.Opening.{IsBeyond, IsPasses}
use Rattle.rock_run.specs.Device.{HasEnded, RunFailed}
use Rattle.slot_finding.specs.Finding.{IsGiven, IsUnknown}
use Rattle.rock_status.specs.declared.status.Status.{Status}
use Rattle.rock_status.specs.declared.status.Status.TheVariants.{BadGeometry, BadScript, DeviceFault, Done, Exists, Memory, Missing}
use Rattle.rock_status.specs.declared.status.Status.TheVariants.{SinkFault, Small, SourceFault, Usage}

-- so few bytes are too few for the header area and a slot, of the size that is given or of one that slots may have
abbrev pub IsShort : (given : Option ℕ) → (bytes : ℕ) → Type 0
IsShort (Some slot) bytes = bytes < HEADER_BYTES + slot
IsShort None bytes = (slot : ℕ) × IsSlotSize slot × (bytes < HEADER_BYTES + slot)

-- how a run may be refused whose numbers are within their limits, by what was given, the anchors, and the counts of the volume, before and
-- after
abbrev pub FoundEnds : (given : Option ℕ) → (anchors : ℕ) → (before after : Counts) → Status → Type 0
FoundEnds given anchors before after Memory = Unit {0}
FoundEnds given anchors before after DeviceFault = RunFailed before after
FoundEnds given anchors before after Missing = NoStation before after
FoundEnds given anchors before after (Small bytes) = IsShort given bytes × NoStation before after
FoundEnds given anchors before after (BadGeometry field) = (IsUnknown given field ⊎ ((field ≡ 2) × IsBeyond anchors))
    × NoStation before after
FoundEnds given anchors before after status = ⊥

-- The counts are those of the faults of the source, of the faults of the sink, and of the volume, before and after. Where the script was
-- not read, or a number or the file refuses the run, no station was made.
abbrev pub RunEnds : (given : Option ℕ) → (anchors workers : ℕ) → (source source_after sink sink_after : ℕ) → (before after : Counts)
    → Status → Type 0
RunEnds given anchors workers s s' k k' before after Done = IsGiven given × IsPasses workers
RunEnds given anchors workers s s' k k' before after Usage = ⊥
RunEnds given anchors workers s s' k k' before after Memory = Unit {0}
RunEnds given anchors workers s s' k k' before after SourceFault = Rose s s' × NoStation before after
RunEnds given anchors workers s s' k k' before after SinkFault = IsGiven given × IsPasses workers × Rose k k'
RunEnds given anchors workers s s' k k' before after DeviceFault = IsGiven given × IsPasses workers × RunFailed before after
RunEnds given anchors workers s s' k k' before after (BadScript line cause) = NoStation before after
RunEnds given anchors workers s s' k k' before after Missing = IsGiven given × IsPasses workers × NoStation before after
RunEnds given anchors workers s s' k k' before after (Small bytes) = IsGiven given × IsPasses workers × IsShort given bytes
    × NoStation before after
RunEnds given anchors workers s s' k k' before after (BadGeometry field) =
    ((field ≡ 1) × ¬ IsGiven given × NoStation before after)
    ⊎ (((field ≡ 3) × IsGiven given × ¬ IsPasses workers × NoStation before after)
    ⊎ (IsGiven given × IsPasses workers × FoundEnds given anchors before after (BadGeometry field)))
RunEnds given anchors workers s s' k k' before after Exists = ⊥

-- no count of the source, the sink and the volume rose, and each station that was made was ended with none
pub record NoFault (source source_after sink sink_after : ℕ) (before after : Counts) : Type 0 where
  -- of the source
  pub source_none : ¬ Rose source source_after
  -- of the sink
  pub sink_none : ¬ Rose sink sink_after
  -- of the volume
  pub volume_none : ¬ Rose before.faults after.faults
  -- of the stations
  pub stations_none : (rebuild : ℕ) (workers : List ℕ) → HasEnded rebuild workers before after
      → (rebuild ≡ 0) × All (λ count. count ≡ 0) workers

-- how a run ends that nothing refuses and no fault meets
abbrev pub RunsOrLacksMemory : Status → Type 0
RunsOrLacksMemory status = (status ≡ Done) ⊎ (status ≡ Memory)
