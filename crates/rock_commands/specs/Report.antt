-- What `list` and `check` do.
use Rattle.std.specs.Prelude.{IsTrue, List, None, Option, Some, ◌≡◌, ℕ}
use Rattle.rock_io.specs.Faults.{Rose}
use Rattle.rock_disk.specs.Counts.{NoStation}
use Rattle.rock_disk.specs.File.{HaveSameBytes}
use Rattle.file_commands.specs.Listing.{Lists}
use Rattle.file_commands.specs.Report.{AnyCount, IsAnchors, IsReport, IsUnfit, MayReport, NoFault, OfFileFor, ReportsOrLacksMemory}
use Rattle.file_commands.specs.Report.{IsRefused, ReportEnds, ReportPrints, ReportSays}
use Rattle.file_commands.specs.Summary.{Sums}
use Rattle.rock_status.specs.declared.status.Status.{Status}
use Rattle.rock_status.specs.declared.status.Status.TheVariants.{DeviceFault}
use Rattle.slot_finding.specs.Finding.{FindsSlot, IsKeptFor, WithSlot}
use Rattle.rock_commands.specs.World.{Tells, World}

-- A report of the file of this name was to be made, for the slot size that was given. The command asks for a number of slots that fits, and
-- shows a text of slots of a size, by their images.
pub record ReportDoes (Fits : ℕ → Type 0) (Shows : ℕ → List (List ℕ) → List ℕ → Type 0) (tells : Tells) (name : List ℕ) (given : Option ℕ)
    (before after : World) (status : Status) : Type 0 where
  -- When each status comes: by what was given, and by the counts of faults,
  pub ends : ReportEnds Fits given before.sink_faults after.sink_faults before.counts after.counts status
  -- and by the files.
  pub says : IsTrue tells.volume → ReportSays Fits before.files name given status
  -- Where what was given or the file refuses the command, it is refused so,
  pub refused : IsRefused tells.volume Fits before.files name given status
  -- and where nothing refuses it and no fault comes, it is done, unless memory runs out.
  pub complete : IsTrue tells.volume → MayReport Fits before.files name given
      → NoFault before.sink_faults after.sink_faults before.counts after.counts → ReportsOrLacksMemory status
  -- What was printed.
  pub prints : IsTrue tells.sink
      → ReportPrints (λ text. IsTrue tells.volume → OfFileFor Shows before.files name given text) before.taken after.taken status
  -- The file is as it was, or as opening cuts it, and the other files are as they were:
  pub kept : IsTrue tells.volume → IsKeptFor name given before.files after.files
  -- each has the bytes that it had.
  pub bytes : IsTrue tells.volume → HaveSameBytes before.files after.files
  -- For a word `-` and a file whose header area records its slots, all of this is so with the size that is recorded.
  pub recorded : (slot : ℕ) → given ≡ None → IsTrue tells.volume → FindsSlot before.files name None slot
      → IsReport tells.volume tells.sink Fits Shows before.files after.files name (Some slot) before.sink_faults after.sink_faults
      before.counts after.counts before.taken after.taken status
  -- The number of slots is judged before they are read: where it does not fit, no station is made, and a fault of the disk is one of the
  -- volume.
  pub early : IsTrue tells.volume → WithSlot before.files name given (IsUnfit Fits before.files name)
      → NoStation before.counts after.counts × (status ≡ DeviceFault → Rose before.counts.faults after.counts.faults)

-- `list` asks for no number of slots, and shows the lines of the complete entries.
abbrev pub ListDoes : (tells : Tells) (name : List ℕ) (given : Option ℕ) → (before after : World) → Status → Type 0
ListDoes tells name given before after status = ReportDoes AnyCount Lists tells name given before after status

-- `check` asks for as many slots as anchors, or more, and shows the line of a rebuild.
abbrev pub CheckDoes : (tells : Tells) (name : List ℕ) (given : Option ℕ) (anchors : ℕ) → (before after : World) → Status → Type 0
CheckDoes tells name given anchors before after status = ReportDoes (IsAnchors anchors) (Sums anchors) tells name given before after status
