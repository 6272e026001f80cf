-- What `migrate` does.
use Rattle.std.specs.Prelude.{IsTrue, List, Some, ◌≡◌, ℕ}
use Rattle.rock_io.specs.Faults.{Rose}
use Rattle.rock_disk.specs.Counts.{NoStation}
use Rattle.file_commands.specs.Migrate.{IsMarkedFile, IsMigratedText, MigrateLeaves}
use Rattle.file_commands.specs.Report.{AnyCount, IsRefused, MayReport, NoFault, ReportEnds, ReportPrints, ReportSays, ReportsOrLacksMemory}
use Rattle.rock_status.specs.declared.status.Status.{Status}
use Rattle.rock_status.specs.declared.status.Status.TheVariants.{DeviceFault}
use Rattle.rock_commands.specs.World.{Tells, World}

-- The header area of the file of this name was to record its slots, which have this size.
pub record MigrateDoes (tells : Tells) (name : List ℕ) (slot : ℕ) (before after : World) (status : Status) : Type 0 where
  -- When each status comes, as for `list`: by the size, and by the counts of faults,
  pub ends : ReportEnds AnyCount (Some slot) before.sink_faults after.sink_faults before.counts after.counts status
  -- and by the files.
  pub says : IsTrue tells.volume → ReportSays AnyCount before.files name (Some slot) status
  -- Where the size or the file refuses the command, it is refused so,
  pub refused : IsRefused tells.volume AnyCount before.files name (Some slot) status
  -- and where nothing refuses it and no fault comes, it is done, unless memory runs out.
  pub complete : IsTrue tells.volume → MayReport AnyCount before.files name (Some slot)
      → NoFault before.sink_faults after.sink_faults before.counts after.counts → ReportsOrLacksMemory status
  -- What was printed.
  pub prints : IsTrue tells.sink
      → ReportPrints (λ text. IsTrue tells.volume → IsMigratedText before.files name slot text) before.taken after.taken status
  -- Its slots and the other files stay. A crash leaves the header area of before, or the record: also where it comes within the write or
  -- the sync, by what a station promises of each.
  pub leaves : IsTrue tells.volume → MigrateLeaves slot name before.files after.files status
  -- A file that is marked is left alone: nothing is written, and no station is made.
  pub marked : IsTrue tells.volume → IsMarkedFile before.files name
      → (after.files ≡ before.files) × NoStation before.counts after.counts
      × (status ≡ DeviceFault → Rose before.counts.faults after.counts.faults)
