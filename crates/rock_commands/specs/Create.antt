-- What `create` does.
use Rattle.std.specs.Prelude.{IsTrue, List, ◌≡◌, ℕ}
use Rattle.rock_disk.specs.Counts.{HasFailed}
use Rattle.file_commands.specs.Create.{CreateEnds, CreateLeaves, CreateSays, CreateStations, IsCreateRefused, IsHalfMade, MayCreate}
use Rattle.file_commands.specs.Report.{ReportsOrLacksMemory}
use Rattle.rock_status.specs.declared.status.Status.{Status}
use Rattle.rock_commands.specs.World.{Tells, World}

-- A file of this name was to be made, of so many slots of this size.
pub record CreateDoes (tells : Tells) (name : List ℕ) (slot slots : ℕ) (before after : World) (status : Status) : Type 0 where
  -- When each status comes: by the numbers, and by the counts of faults,
  pub ends : CreateEnds slot slots before.counts after.counts status
  -- and by the files.
  pub says : IsTrue tells.volume → CreateSays before.files name status
  -- Where a number or the name refuses the command, it is refused so,
  pub refused : IsCreateRefused tells.volume before.files name slot slots status
  -- and where nothing refuses it and no fault comes, it is done, unless memory runs out.
  pub complete : IsTrue tells.volume → MayCreate before.files name slot slots → ¬ HasFailed before.counts after.counts
      → ReportsOrLacksMemory status
  -- It prints nothing.
  pub untouched : (after.taken ≡ before.taken) × (after.sink_faults ≡ before.sink_faults)
  -- What is left of the files.
  pub leaves : CreateLeaves tells.volume slot slots name before.files after.files status
  -- Where the station of the header area was made, the file is there with its slots.
  pub whole : IsTrue tells.volume → (after.counts.made ≡ before.counts.made → ⊥) → IsHalfMade slot slots name before.files after.files
  -- How many stations were made: at `Done` that of the header area.
  pub stations : CreateStations before.counts after.counts status
