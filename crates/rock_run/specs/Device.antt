-- What a run makes of the counts of a volume: of its faults, of the stations that it made, and of the faults with which they were ended.
use Rattle.std.specs.Prelude.{List, length, ◌+◌, ◌++◌, ◌<◌, ◌∷◌, ◌≡◌, ◌⊎◌, ℕ}
use Rattle.db_layout.specs.Layout.{IsSlotSize}
use Rattle.db_layout.specs.declared.layout.TheConstants.{HEADER_BYTES}
use Rattle.rock_io.specs.Faults.{Rose}
use Rattle.rock_open.specs.declared.fault.OpenStoreFault.{OpenStoreFault}
use Rattle.rock_open.specs.declared.fault.OpenStoreFault.TheVariants.{BadGeometry, Failed, Memory, Missing, Small}
use Rattle.rock_disk.specs.Counts.{Counts, NoStation}
use Rattle.rock_open.specs.Opening.{IsBeyond, IsPasses}

-- Stations were made, that of the rebuild and then those of workers, and each was ended, in that order and with these counts of faults.
pub record HasEnded (rebuild : ℕ) (workers : List ℕ) (before after : Counts) : Type 0 where
  pub made : after.made ≡ before.made + 1 + length workers
  pub ended : after.ended ≡ before.ended ++ rebuild ∷ workers

-- each station that was made was ended
abbrev pub RunEnded : Counts → Counts → Type 0
RunEnded before after = NoStation before after ⊎ ((rebuild : ℕ) × (workers : List ℕ) × HasEnded rebuild workers before after)

-- the volume failed, or the station of the rebuild
abbrev pub RunFailed : Counts → Counts → Type 0
RunFailed before after = Rose before.faults after.faults
    ⊎ ((rebuild : ℕ) × (workers : List ℕ) × HasEnded rebuild workers before after × (0 < rebuild))

-- the volume's count of faults is as it was, and the rebuild's station, if it was made, was ended with none
pub record RunUnfailed (before after : Counts) : Type 0 where
  pub faults : after.faults ≡ before.faults
  pub station : (rebuild : ℕ) (workers : List ℕ) → HasEnded rebuild workers before after → rebuild ≡ 0

-- how a run may be refused whose slot size and workers are within their limits, by numbers and counts
abbrev pub StartingEnds : (slot anchors : ℕ) → (before after : Counts) → OpenStoreFault → Type 0
StartingEnds slot anchors before after (BadGeometry field) = (field ≡ 2) × IsBeyond anchors × NoStation before after
StartingEnds slot anchors before after Missing = NoStation before after
StartingEnds slot anchors before after (Small bytes) = (bytes < HEADER_BYTES + slot) × NoStation before after
StartingEnds slot anchors before after Failed = RunFailed before after
StartingEnds slot anchors before after Memory = Unit {0}

-- and any run
abbrev pub RunEnds : (slot anchors workers : ℕ) → (before after : Counts) → OpenStoreFault → Type 0
RunEnds slot anchors workers before after (BadGeometry field) =
    ((field ≡ 1) × ¬ IsSlotSize slot × NoStation before after)
    ⊎ (((field ≡ 3) × IsSlotSize slot × ¬ IsPasses workers × NoStation before after)
    ⊎ ((field ≡ 2) × IsSlotSize slot × IsPasses workers × IsBeyond anchors × NoStation before after))
RunEnds slot anchors workers before after fault = IsSlotSize slot × IsPasses workers × StartingEnds slot anchors before after fault

-- how serving may be refused in a store that is open
abbrev pub ServingEnds : (before after : ℕ) → OpenStoreFault → Type 0
ServingEnds before after (BadGeometry field) = ⊥
ServingEnds before after Missing = ⊥
ServingEnds before after (Small bytes) = ⊥
ServingEnds before after Failed = Rose before after
ServingEnds before after Memory = Unit {0}
