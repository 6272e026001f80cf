-- What `create` answers, and why, and what it leaves of the files.
use Rattle.std.specs.Prelude.{◌≡◌, ◌≢◌, ◌⊎◌, ◌<◌, ◌+◌, ◌*◌, ◌++◌, ℕ, ◌≤◌, List, Bool, IsTrue}
use Rattle.std.specs.FinMap.{insert}
use Rattle.rock_disk.specs.File.{Files, IsThere, cut, zeros}
use Rattle.rock_disk.specs.Cell.{CellState}
use Rattle.rock_disk.specs.Counts.{Counts, HasFailed, NoStation, OneStation}
use Rattle.rock_disk.specs.Created.{IsCreated, IsMaybeCreated}
use Rattle.db_layout.specs.Geometry.{header_of}
use Rattle.db_layout.specs.Layout.{IsSlotSize, file_size}
use Rattle.db_layout.specs.declared.layout.TheConstants.{HEADER_BYTES, MOST_SLOTS}
use Rattle.file_commands.specs.Recording.{HoldsEither, geometry_of, with_header}
use Rattle.rock_status.specs.declared.status.Status.{Status}
use Rattle.rock_status.specs.declared.status.Status.TheVariants.{Done, Usage, Memory, SourceFault, SinkFault, DeviceFault, BadScript, Missing, Small, BadGeometry, Exists}

-- the numbers of slots that a file may be made with
pub record IsSlotCount (slots : ℕ) : Type 0 where
  pub from : 1 ≤ slots
  pub to : slots ≤ MOST_SLOTS

-- a file of such slots may be made
pub record IsGeometry (slot slots : ℕ) : Type 0 where
  pub size : IsSlotSize slot
  pub count : IsSlotCount slots

-- When each status comes: by the numbers, and by the counts of the volume. A file that was made may be gone, or shorter, when it
-- is opened for its header area.
abbrev pub CreateEnds : (slot slots : ℕ) → (before after : Counts) → Status → Type 0
CreateEnds slot slots before after Done = IsGeometry slot slots
CreateEnds slot slots before after Usage = ⊥
CreateEnds slot slots before after Memory = IsGeometry slot slots
CreateEnds slot slots before after SourceFault = ⊥
CreateEnds slot slots before after SinkFault = ⊥
CreateEnds slot slots before after DeviceFault = IsGeometry slot slots × HasFailed before after
CreateEnds slot slots before after (BadScript line cause) = ⊥
CreateEnds slot slots before after Missing = IsGeometry slot slots
CreateEnds slot slots before after (Small bytes) = IsGeometry slot slots × (bytes < HEADER_BYTES + slot)
CreateEnds slot slots before after (BadGeometry field) = ((field ≡ 1) × ¬ IsSlotSize slot)
    ⊎ ((field ≡ 4) × IsSlotSize slot × ¬ IsSlotCount slots)
CreateEnds slot slots before after Exists = IsGeometry slot slots

-- When each status comes, by the files. A file that was made is there, and long enough: so two refusals of opening do not come.
abbrev pub CreateSays : Files → List ℕ → Status → Type 0
CreateSays files name Done = ¬ IsThere files name
CreateSays files name Exists = IsThere files name
CreateSays files name Missing = ⊥
CreateSays files name (Small bytes) = ⊥
CreateSays files name status = Unit {0}

-- where the slot size, the number of slots or the map refuses the command, it is refused so, in this order
pub record IsCreateRefused (tells : Bool) (files : Files) (name : List ℕ) (slot slots : ℕ) (status : Status) : Type 0 where
  -- Slots may not have the size that was given.
  pub size : ¬ IsSlotSize slot → status ≡ BadGeometry 1
  -- A file may not have as many slots.
  pub count : IsSlotSize slot → ¬ IsSlotCount slots → status ≡ BadGeometry 4
  -- A file has the name.
  pub exists : IsTrue tells → IsGeometry slot slots → IsThere files name → status ≡ Exists

-- the bytes of a new file: its header area records its slots, and these are zeros
abbrev pub made_bytes : (slot slots : ℕ) → List ℕ
made_bytes slot slots = header_of (geometry_of slot slots) ++ zeros (slots * slot)

-- a file of these bytes was put in, cut into its slots, and a crash leaves these bytes alone
abbrev pub IsMade : (slot slots : ℕ) → List ℕ → Files → Files → Type 0
IsMade slot slots name before after = after ≡ insert before name (cut slot (made_bytes slot slots))

-- a file of zeros was put in, of the same length, and a crash leaves these alone. It may be cut into its slots
abbrev pub IsBlank : (slot slots : ℕ) → List ℕ → Files → Files → Type 0
IsBlank slot slots name before after = IsCreated before after name (file_size slots slot)
    ⊎ (after ≡ insert before name (cut slot (zeros (file_size slots slot))))

-- A file of so many slots was put in, each of zeros. Its header area is zeros or records them, and a crash leaves one of these two.
pub record IsHalfMade (slot slots : ℕ) (name : List ℕ) (before after : Files) : Type 0 where
  pub header : CellState
  pub either : HoldsEither (zeros HEADER_BYTES) (header_of (geometry_of slot slots)) header
  pub is : after ≡ insert before name (with_header slot (zeros (file_size slots slot)) header)

-- What each status leaves: at `Done` one file more, whose header area records its slots; at want of memory the files as they were, or one
-- more, of zeros; at a fault of the disk nothing but this file is another. Of a file that was gone or shorter when it was opened nothing is
-- said. At each other status all is as it was.
abbrev pub CreateLeaves : Bool → (slot slots : ℕ) → List ℕ → Files → Files → Status → Type 0
CreateLeaves tells slot slots name before after Done = IsTrue tells → IsMade slot slots name before after
CreateLeaves tells slot slots name before after DeviceFault = IsTrue tells → IsMaybeCreated before after name
CreateLeaves tells slot slots name before after Memory = IsTrue tells → (after ≡ before) ⊎ IsBlank slot slots name before after
CreateLeaves tells slot slots name before after Missing = Unit {0}
CreateLeaves tells slot slots name before after (Small bytes) = Unit {0}
CreateLeaves tells slot slots name before after status = after ≡ before

-- how many stations were made: at `Done` the one of the header area, which met no fault, and at each other status but a fault of the disk
-- none
pub record CreateStations (before after : Counts) (status : Status) : Type 0 where
  -- the one of the header area
  pub done : status ≡ Done → OneStation 0 before after
  -- no station
  pub none : status ≢ Done → status ≢ DeviceFault → NoStation before after

-- neither the numbers nor the map refuse the command
pub record MayCreate (files : Files) (name : List ℕ) (slot slots : ℕ) : Type 0 where
  -- a file may have as many slots of this size
  pub geometry : IsGeometry slot slots
  -- no file has the name
  pub free : ¬ IsThere files name
