-- When each status of a run comes, by the script and the files.
use Rattle.std.specs.Prelude.{Bool, IsTrue, List, None, Option, ◌≡◌, ◌⊎◌, ℕ}
use Rattle.std.specs.FinMap.{get}
use Rattle.rock_disk.specs.File.{Files}
use Rattle.rock_disk.specs.Opened.{IsSmall}
use Rattle.rock_disk.specs.Counts.{Counts, NoStation}
use Rattle.rock_open.specs.Opening.{HasSlots, IsAnchors, IsPasses}
use Rattle.rock_status.specs.declared.status.Status.{Status}
use Rattle.rock_status.specs.declared.status.Status.TheVariants.{BadGeometry, BadScript, DeviceFault, Done, Memory, Missing, SinkFault}
use Rattle.rock_status.specs.declared.status.Status.TheVariants.{Small, SourceFault, Usage}
use Rattle.script_text.specs.Script.{GivesBadLine, GivesScript, IsBadScript, IsScript}
use Rattle.script_text.specs.declared.line.Line.{Line}
use Rattle.slot_finding.specs.Faults.{OrFailed}
use Rattle.slot_finding.specs.Finding.{FieldSays, IsGiven, IsTooSmall, RecordsMisfit, RecordsOther, TellsNoSlot, WithSlot}

-- the file of this name has slots, and this number of anchors fits them
abbrev pub Fits : Files → (name : List ℕ) → (slot anchors : ℕ) → Type 0
Fits files name slot anchors = (slots : ℕ) × HasSlots files name slot slots × IsAnchors anchors slots

-- it has slots, and they do not
abbrev pub IsUnfit : Files → (name : List ℕ) → (slot anchors : ℕ) → Type 0
IsUnfit files name slot anchors = (slots : ℕ) × HasSlots files name slot slots × ¬ IsAnchors anchors slots

-- what each status says of the file, which has a slot size by itself and by what was given, or has none
abbrev pub FileSays : Files → (name : List ℕ) → (given : Option ℕ) → (anchors : ℕ) → Status → Type 0
FileSays files name given anchors Done = WithSlot files name given (λ slot. Fits files name slot anchors)
FileSays files name given anchors SinkFault = WithSlot files name given (λ slot. Fits files name slot anchors)
FileSays files name given anchors Missing = get files name ≡ None
FileSays files name given anchors (Small bytes) = IsTooSmall files name given bytes
FileSays files name given anchors (BadGeometry field) = FieldSays (λ slot. IsUnfit files name slot anchors) files name given field
FileSays files name given anchors status = Unit {0}

-- Where the file refuses a run whose numbers are within their limits, it is refused so, in this order. The look at the header area and the
-- opening may meet a fault or want of memory before what they are to find. No station is made.
pub record IsFileRefused (tells : Bool) (files : Files) (name : List ℕ) (given : Option ℕ) (anchor_count : ℕ) (before after : Counts)
    (status : Status) : Type 0 where
  -- There is no file of the name.
  pub missing : IsTrue tells → get files name ≡ None → status ≡ Missing
  -- The file is shorter than its header area.
  pub small : (bytes : ℕ) → IsTrue tells → IsSmall files name 0 bytes → status ≡ Small bytes
  -- The header area records what the file is not.
  pub wrong : IsTrue tells → RecordsMisfit files name → OrFailed (BadGeometry 6) status × NoStation before after
  -- It records another slot size than the one that was given.
  pub differs : IsTrue tells → RecordsOther files name given → OrFailed (BadGeometry 5) status × NoStation before after
  -- It records nothing, and no slot size was given.
  pub unknown : IsTrue tells → TellsNoSlot files name given → OrFailed (BadGeometry 7) status × NoStation before after
  -- It is too short for one slot.
  pub short : (bytes : ℕ) → IsTrue tells → WithSlot files name given (λ slot. IsSmall files name slot bytes)
      → OrFailed (Small bytes) status × NoStation before after
  -- Its slots do not allow so many anchors.
  pub anchors : IsTrue tells → WithSlot files name given (λ slot. IsUnfit files name slot anchor_count)
      → OrFailed (BadGeometry 2) status × NoStation before after

-- the source gave a script to its end
abbrev pub WasRead : Bool → (workers : ℕ) → (before after : List ℕ) → Type 0
WasRead tells workers before after = (lines : List Line) × GivesScript tells workers before after lines

-- What each status says of the script, of which the source had these bytes before and has these after, and, where the volume tells its
-- files, of the file. Unless reading it was cut short, the script was read to its end.
abbrev pub RunSays : (source_tells volume_tells : Bool) → (workers : ℕ) → (text left : List ℕ) → Files → (name : List ℕ)
    → (given : Option ℕ) → (anchors : ℕ) → Status → Type 0
RunSays source_tells volume_tells workers text left files name given anchors (BadScript line cause) =
    GivesBadLine source_tells workers text line cause
RunSays source_tells volume_tells workers text left files name given anchors Usage = Unit {0}
RunSays source_tells volume_tells workers text left files name given anchors SourceFault = Unit {0}
RunSays source_tells volume_tells workers text left files name given anchors Memory = Unit {0}
RunSays source_tells volume_tells workers text left files name given anchors status = WasRead source_tells workers text left
    × (IsTrue volume_tells → FileSays files name given anchors status)

-- the status is this one, unless a fault of the source or want of memory came before it. Reading the script may meet both
abbrev pub OrUnread : Status → Status → Type 0
OrUnread due status = (status ≡ due) ⊎ ((status ≡ SourceFault) ⊎ (status ≡ Memory))

-- and unless a fault of the disk came before it
abbrev pub OrCutShort : Status → Status → Type 0
OrCutShort due status = OrUnread due status ⊎ (status ≡ DeviceFault)

-- the source tells a script
pub record TellsScript (source_tells : Bool) (workers : ℕ) (text : List ℕ) : Type 0 where
  -- it tells what it has
  pub told : IsTrue source_tells
  -- these are the lines
  pub lines : List Line
  -- of its script
  pub is : IsScript workers text lines

-- Where the script, a number or the file refuses the run, it is refused so, in this order. The look at the header area and the opening may
-- meet a fault or want of memory before what they are to find; no station is made then.
pub record IsRunRefused (source_tells volume_tells : Bool) (text : List ℕ) (files : Files) (name : List ℕ) (given : Option ℕ)
    (anchor_count worker_count : ℕ) (before after : Counts) (status : Status) : Type 0 where
  -- A line of the script is bad, and it is the first.
  pub script : (line cause : ℕ) → IsTrue source_tells → IsBadScript worker_count text line cause → OrUnread (BadScript line cause) status
  -- A slot size was given that slots may not have.
  pub slot : TellsScript source_tells worker_count text → ¬ IsGiven given → OrUnread (BadGeometry 1) status
  -- There are no workers, or too many.
  pub workers : TellsScript source_tells worker_count text → IsGiven given → ¬ IsPasses worker_count → OrUnread (BadGeometry 3) status
  -- There is no file of the name.
  pub missing : TellsScript source_tells worker_count text → IsTrue volume_tells → IsGiven given → IsPasses worker_count
      → get files name ≡ None → OrUnread Missing status
  -- The file is shorter than its header area.
  pub small : (bytes : ℕ) → TellsScript source_tells worker_count text → IsTrue volume_tells → IsGiven given → IsPasses worker_count
      → IsSmall files name 0 bytes → OrUnread (Small bytes) status
  -- The header area records what the file is not.
  pub wrong : TellsScript source_tells worker_count text → IsTrue volume_tells → IsGiven given → IsPasses worker_count
      → RecordsMisfit files name → OrCutShort (BadGeometry 6) status × NoStation before after
  -- It records another slot size than the one that was given.
  pub differs : TellsScript source_tells worker_count text → IsTrue volume_tells → IsGiven given → IsPasses worker_count
      → RecordsOther files name given → OrCutShort (BadGeometry 5) status × NoStation before after
  -- It records nothing, and no slot size was given.
  pub unknown : TellsScript source_tells worker_count text → IsTrue volume_tells → IsPasses worker_count → TellsNoSlot files name given
      → OrCutShort (BadGeometry 7) status × NoStation before after
  -- It is too short for one slot.
  pub short : (bytes : ℕ) → TellsScript source_tells worker_count text → IsTrue volume_tells → IsGiven given → IsPasses worker_count
      → WithSlot files name given (λ slot. IsSmall files name slot bytes)
      → OrCutShort (Small bytes) status × NoStation before after
  -- Its slots do not allow so many anchors.
  pub anchors : TellsScript source_tells worker_count text → IsTrue volume_tells → IsGiven given → IsPasses worker_count
      → WithSlot files name given (λ slot. IsUnfit files name slot anchor_count)
      → OrCutShort (BadGeometry 2) status × NoStation before after

-- neither the script nor a number nor the file refuses the run
pub record MayRun (text : List ℕ) (files : Files) (name : List ℕ) (given : Option ℕ) (anchors workers : ℕ) : Type 0 where
  -- these are the lines
  pub lines : List Line
  -- of the script
  pub script : IsScript workers text lines
  -- the slot size is one that slots may have, where one was given
  pub sized : IsGiven given
  -- there may be as many workers
  pub passes : IsPasses workers
  -- the file has slots for the anchors
  pub fit : WithSlot files name given (λ slot. Fits files name slot anchors)
