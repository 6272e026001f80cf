-- What `migrate` prints, and what it leaves of the files. When each status comes is said as of a report.
use Rattle.std.specs.Prelude.{◌≡◌, ◌≢◌, ◌⊎◌, ◌++◌, List, None, Some, codes, decimal, ℕ}
use Rattle.std.specs.FinMap.{get}
use Rattle.db_layout.specs.declared.geometry.Geometry.{Geometry}
use Rattle.rock_disk.specs.File.{Files, HasSlots, IsKept}
use Rattle.slot_finding.specs.Finding.{FileRecords, Fits}
use Rattle.file_commands.specs.Recording.{IsRecorded, MayBeRecorded, geometry_of}
use Rattle.rock_status.specs.declared.status.Status.{Status}
use Rattle.rock_status.specs.declared.status.Status.TheVariants.{DeviceFault, Done, SinkFault}

-- the line that is printed
abbrev pub migrated_line : (slots : ℕ) → List ℕ
migrated_line slots = codes "MIGRATED slots=" ++ decimal slots ++ codes "\n"

-- the text is the line of the number of slots that the file of this name has
abbrev pub IsMigratedText : Files → (name : List ℕ) → (slot : ℕ) → (text : List ℕ) → Type 0
IsMigratedText files name slot text = (slots : ℕ) × HasSlots files name slot slots × (text ≡ migrated_line slots)

-- the header area of the file of this name records some slots, or it records none
abbrev pub IsMarkedFile : Files → (name : List ℕ) → Type 0
IsMarkedFile files name = (geometry : Geometry) × (bytes : ℕ) × FileRecords files name (Some geometry) bytes

abbrev pub IsUnmarkedFile : Files → (name : List ℕ) → Type 0
IsUnmarkedFile files name = (bytes : ℕ) × FileRecords files name None bytes

-- it records the slots that the file has, and they are of this size
pub record RecordsItself (slot : ℕ) (files : Files) (name : List ℕ) : Type 0 where
  pub geometry : Geometry
  pub bytes : ℕ
  pub file : FileRecords files name (Some geometry) bytes
  pub fits : Fits geometry bytes
  pub size : geometry.slot ≡ slot

-- the file was not marked, and its header area records its slots then: a crash leaves these bytes alone
pub record IsMigrated (slot : ℕ) (name : List ℕ) (before after : Files) : Type 0 where
  pub slots : ℕ
  pub has : HasSlots before name slot slots
  pub unmarked : IsUnmarkedFile before name
  pub recorded : IsRecorded (geometry_of slot slots) name before after

-- The file was not marked, and its header area may have been written: it holds what it held, or the record, and a crash leaves one of the
-- two. The slots are as opening cuts them, and a crash leaves what they hold.
pub record MayBeMigrated (slot : ℕ) (name : List ℕ) (before after : Files) : Type 0 where
  pub slots : ℕ
  pub has : HasSlots before name slot slots
  pub unmarked : IsUnmarkedFile before name
  pub left : MayBeRecorded (geometry_of slot slots) name before after

-- What is left of the files by each status.
pub record MigrateLeaves (slot : ℕ) (name : List ℕ) (before after : Files) (status : Status) : Type 0 where
  -- the other files are as they were
  pub others : (other : List ℕ) → other ≢ name → get after other ≡ get before other
  -- the file is as it was, or as opening cuts it, or its header area may have been written
  pub file : IsKept slot name before after ⊎ MayBeMigrated slot name before after
  -- at `Done`, and where the line alone was not printed, the header area records the slots: it did so before, or it was written
  pub done : (status ≡ Done) ⊎ (status ≡ SinkFault)
      → (RecordsItself slot before name × (after ≡ before)) ⊎ IsMigrated slot name before after
  -- where it was not begun, the file is as it was, or as opening cuts it
  pub refused : status ≢ Done → status ≢ SinkFault → status ≢ DeviceFault → IsKept slot name before after
