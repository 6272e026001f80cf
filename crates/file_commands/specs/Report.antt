-- What a command that reads a whole file answers, and why.
use Rattle.std.specs.Prelude.{◌≡◌, ◌⊎◌, ℕ, List, ◌++◌, Option, Some, None, IsTrue, Bool}
use Rattle.std.specs.FinMap.{get}
use Rattle.rock_io.specs.Faults.{Rose}
use Rattle.rock_io.specs.Sink.{TakesPrefix}
pub use Rattle.rebuild_model.specs.Keeping.{IsAnchors}
pub use Rattle.rock_disk.specs.File.{HasSlots}
use Rattle.rock_disk.specs.Counts.{Counts, HasFailed}
use Rattle.rock_disk.specs.File.{File, Files, bytes_of}
use Rattle.rock_disk.specs.Opened.{IsSmall}
use Rattle.slot_finding.specs.Faults.{OrFailed}
use Rattle.slot_finding.specs.Finding.{FieldSays, IsGiven, IsKeptFor, IsTooSmall, IsUnknown, RecordsMisfit, RecordsOther, TellsNoSlot, WithSlot}
use Rattle.std.specs.List.{flat_map}
use Rattle.file_commands.specs.Listing.{images_of, Lists, line_of_found}
use Rattle.file_commands.specs.Summary.{Sums, line_of_tally}
use Rattle.file_commands.specs.declared.report.Report.{Report}
use Rattle.file_commands.specs.declared.report.Report.TheVariants as report
use Rattle.file_commands.specs.declared.report.Reading.{Reading}
use Rattle.file_commands.specs.declared.report.Reading.TheVariants as reading
use Rattle.rock_status.specs.declared.status.Status.{Status}
use Rattle.rock_status.specs.declared.status.Status.TheVariants.{Done, Usage, Memory, SourceFault, SinkFault, DeviceFault, BadScript, Missing, Small, BadGeometry, Exists}

-- what a command may ask of the number of slots: nothing, or that its number of anchors is from 1 to that
abbrev pub AnyCount : ℕ → Type 0
AnyCount slots = Unit {0}

-- the numbers of slots that a file may have for a report
abbrev pub Fits : Report → ℕ → Type 0
Fits report.Listing = AnyCount
Fits (report.Summary anchors) = IsAnchors anchors

-- what a report says of slots of a size, by their images
abbrev pub Prints : Report → ℕ → List (List ℕ) → List ℕ → Type 0
Prints report.Listing slot = Lists slot
Prints (report.Summary anchors) slot = Sums anchors slot

-- the text that is printed of what was read
abbrev pub text_of : Reading → List ℕ
text_of (reading.Entries listed) = flat_map line_of_found listed.found
text_of (reading.Sums tally) = line_of_tally tally

-- the text is this of the file of this name, by the images of its slots
pub record OfFile (Prints : List (List ℕ) → List ℕ → Type 0) (files : Files) (name : List ℕ) (slot : ℕ) (text : List ℕ) : Type 0 where
  pub was : File
  pub there : get files name ≡ Some was
  pub told : Prints (images_of slot (bytes_of was)) text

-- and by the slot size that the file and what was given have
abbrev pub OfFileFor : (Prints : ℕ → List (List ℕ) → List ℕ → Type 0) → Files → List ℕ → (given : Option ℕ) → (text : List ℕ) → Type 0
OfFileFor Prints files name given text = WithSlot files name given (λ slot. OfFile (Prints slot) files name slot text)

-- it has as many as the command asks for
abbrev pub IsFit : (ℕ → Type 0) → Files → List ℕ → ℕ → Type 0
IsFit Fits files name slot = (slots : ℕ) × HasSlots files name slot slots × Fits slots

-- how an opened file may be refused, by the number of its slots and the counts of the volume
abbrev pub OpenedEnds : (Fits : ℕ → Type 0) (slots : ℕ) → (before after : Counts) → Status → Type 0
OpenedEnds Fits slots before after Memory = Unit {0}
OpenedEnds Fits slots before after DeviceFault = HasFailed before after
OpenedEnds Fits slots before after (BadGeometry field) = (field ≡ 2) × ¬ Fits slots
OpenedEnds Fits slots before after status = ⊥

-- how a file may be refused that is to be read by its slot size, by the same
abbrev pub ReadEnds : (Fits : ℕ → Type 0) → (before after : Counts) → Status → Type 0
ReadEnds Fits before after Memory = Unit {0}
ReadEnds Fits before after DeviceFault = HasFailed before after
ReadEnds Fits before after Missing = Unit {0}
ReadEnds Fits before after (Small bytes) = Unit {0}
ReadEnds Fits before after (BadGeometry field) = (field ≡ 2) × ((slots : ℕ) × ¬ Fits slots)
ReadEnds Fits before after status = ⊥

-- it has another number of slots than the command asks for
abbrev pub IsUnfit : (ℕ → Type 0) → Files → List ℕ → ℕ → Type 0
IsUnfit Fits files name slot = (slots : ℕ) × HasSlots files name slot slots × ¬ Fits slots

-- when it is refused so, by the files
abbrev pub ReadSays : (ℕ → Type 0) → Files → List ℕ → ℕ → Status → Type 0
ReadSays Fits files name slot Missing = get files name ≡ None
ReadSays Fits files name slot (Small bytes) = IsSmall files name slot bytes
ReadSays Fits files name slot (BadGeometry field) = field ≡ 2 → IsUnfit Fits files name slot
ReadSays Fits files name slot status = Unit {0}

-- how a file may be refused whose slot size is to be found, by what was given, by the number of its slots, and by the counts of the volume
abbrev pub FoundEnds : (Fits : ℕ → Type 0) (given : Option ℕ) → (before after : Counts) → Status → Type 0
FoundEnds Fits given before after Memory = Unit {0}
FoundEnds Fits given before after DeviceFault = HasFailed before after
FoundEnds Fits given before after Missing = Unit {0}
FoundEnds Fits given before after (Small bytes) = Unit {0}
FoundEnds Fits given before after (BadGeometry field) = IsUnknown given field ⊎ ((field ≡ 2) × ((slots : ℕ) × ¬ Fits slots))
FoundEnds Fits given before after status = ⊥

-- when each status comes: by what was given, by the sink's count of faults, and by the counts of the volume
abbrev pub ReportEnds : (Fits : ℕ → Type 0) (given : Option ℕ) → (sink_before sink_after : ℕ) → (before after : Counts) → Status → Type 0
ReportEnds Fits given s s' before after Done = IsGiven given
ReportEnds Fits given s s' before after Usage = ⊥
ReportEnds Fits given s s' before after Memory = IsGiven given
ReportEnds Fits given s s' before after SourceFault = ⊥
ReportEnds Fits given s s' before after SinkFault = IsGiven given × Rose s s'
ReportEnds Fits given s s' before after DeviceFault = IsGiven given × HasFailed before after
ReportEnds Fits given s s' before after (BadScript line cause) = ⊥
ReportEnds Fits given s s' before after Missing = IsGiven given
ReportEnds Fits given s s' before after (Small bytes) = IsGiven given
ReportEnds Fits given s s' before after (BadGeometry field) = ((field ≡ 1) × ¬ IsGiven given)
    ⊎ (IsGiven given × (IsUnknown given field ⊎ ((field ≡ 2) × ((slots : ℕ) × ¬ Fits slots))))
ReportEnds Fits given s s' before after Exists = ⊥

-- when each status comes, by the files, of which one has a slot size by itself and by what was given, or has none
abbrev pub ReportSays : (ℕ → Type 0) → Files → List ℕ → Option ℕ → Status → Type 0
ReportSays Fits files name given Missing = get files name ≡ None
ReportSays Fits files name given (Small bytes) = IsTooSmall files name given bytes
ReportSays Fits files name given (BadGeometry field) = FieldSays (IsUnfit Fits files name) files name given field
ReportSays Fits files name given Done = WithSlot files name given (IsFit Fits files name)
ReportSays Fits files name given SinkFault = WithSlot files name given (IsFit Fits files name)
ReportSays Fits files name given status = Unit {0}

-- Where what was given, the map, the length, the header area or the number of slots refuses the command, it is refused so. The look at the
-- header area and the opening may meet a fault or want of memory before what they are to find.
pub record IsRefused (tells : Bool) (Fits : ℕ → Type 0) (files : Files) (name : List ℕ) (given : Option ℕ) (status : Status) : Type 0 where
  -- A slot size was given that slots may not have.
  pub geometry : ¬ IsGiven given → status ≡ BadGeometry 1
  -- There is no file of the name.
  pub missing : IsTrue tells → IsGiven given → get files name ≡ None → status ≡ Missing
  -- The file is shorter than its header area.
  pub small : (bytes : ℕ) → IsTrue tells → IsGiven given → IsSmall files name 0 bytes → status ≡ Small bytes
  -- The header area records what the file is not.
  pub wrong : IsTrue tells → IsGiven given → RecordsMisfit files name → OrFailed (BadGeometry 6) status
  -- It records another slot size than the one that was given.
  pub differs : IsTrue tells → IsGiven given → RecordsOther files name given → OrFailed (BadGeometry 5) status
  -- It records nothing, and no slot size was given.
  pub unknown : IsTrue tells → TellsNoSlot files name given → OrFailed (BadGeometry 7) status
  -- The file is too short for one slot.
  pub short : (bytes : ℕ) → IsTrue tells → IsGiven given → WithSlot files name given (λ slot. IsSmall files name slot bytes)
      → OrFailed (Small bytes) status
  -- The command does not fit its number of slots.
  pub unfit : IsTrue tells → IsGiven given → WithSlot files name given (IsUnfit Fits files name) → OrFailed (BadGeometry 2) status

-- how printing ends, by the sink's count
abbrev pub PrintEnds : (sink_before sink_after : ℕ) → Status → Type 0
PrintEnds s s' Done = Unit {0}
PrintEnds s s' Memory = Unit {0}
PrintEnds s s' SinkFault = Rose s s'
PrintEnds s s' status = ⊥

-- what was printed: at `Done` the text, at a fault of the sink a prefix of it, and else nothing
abbrev pub ReportPrints : (List ℕ → Type 0) → List ℕ → List ℕ → Status → Type 0
ReportPrints IsText before after Done = (text : List ℕ) × IsText text × (after ≡ before ++ text)
ReportPrints IsText before after SinkFault = (text : List ℕ) × IsText text × TakesPrefix before after text
ReportPrints IsText before after status = after ≡ before

-- neither what was given nor the map nor the length nor the header area nor the number of slots refuses the command
pub record MayReport (Fits : ℕ → Type 0) (files : Files) (name : List ℕ) (given : Option ℕ) : Type 0 where
  -- the slot size is one that slots may have, where one was given
  pub sized : IsGiven given
  -- the command fits the slots of the file
  pub fit : WithSlot files name given (IsFit Fits files name)

-- no fault comes: the sink's count of faults did not rise, and neither the volume failed nor its station
pub record NoFault (sink sink_after : ℕ) (before after : Counts) : Type 0 where
  -- none of the sink
  pub sink_none : ¬ Rose sink sink_after
  -- none of the volume or its station
  pub device_none : ¬ HasFailed before after

-- how a command ends that nothing refuses and no fault meets
abbrev pub ReportsOrLacksMemory : Status → Type 0
ReportsOrLacksMemory status = (status ≡ Done) ⊎ (status ≡ Memory)

-- All that is said of a report of the file of this name for what was given: how it ended, what it printed, and what it left of the files.
pub record IsReport (tells sink_tells : Bool) (Fits : ℕ → Type 0) (Shows : ℕ → List (List ℕ) → List ℕ → Type 0) (files files_after : Files)
    (name : List ℕ) (given : Option ℕ) (sink sink_after : ℕ) (before after : Counts) (taken taken_after : List ℕ)
    (status : Status) : Type 0 where
  -- How it ended, by the counts.
  pub ends : ReportEnds Fits given sink sink_after before after status
  -- What its status says of the file.
  pub says : IsTrue tells → ReportSays Fits files name given status
  -- What refuses it.
  pub refused : IsRefused tells Fits files name given status
  -- What it printed.
  pub prints : IsTrue sink_tells → ReportPrints (λ text. IsTrue tells → OfFileFor Shows files name given text) taken taken_after status
  -- What it left of the files.
  pub kept : IsTrue tells → IsKeptFor name given files files_after
