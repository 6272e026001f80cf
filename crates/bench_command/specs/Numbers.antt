-- The numbers of a benchmark: its slots have 512 bytes, and for each worker there are 64 slots and 16 anchors.
use Rattle.std.specs.Prelude.{Bool, List, ◌*◌, ◌≤◌, ℕ}
use Rattle.file_commands.specs.Create.{CreateLeaves}
use Rattle.rock_disk.specs.File.{Files, IsThere}
use Rattle.rock_open.specs.Opening.{IsPasses}
use Rattle.rock_status.specs.declared.status.Status.TheVariants.{Done}

abbrev pub slot_size : ℕ
slot_size = 512

abbrev pub slots_for : (workers : ℕ) → ℕ
slots_for workers = 64 * workers

abbrev pub anchors_for : (workers : ℕ) → ℕ
anchors_for workers = 16 * workers

-- as many rounds as a benchmark may have
abbrev pub IsRounds : (count : ℕ) → Type 0
IsRounds count = count ≤ 10000

-- its numbers are within their limits
pub record AreBenchNumbers (workers count : ℕ) : Type 0 where
  -- there may be as many workers
  pub passes : IsPasses workers
  -- and as many rounds
  pub rounds : IsRounds count

-- neither the numbers nor the files refuse it
pub record MayBench (files : Files) (name : List ℕ) (workers count : ℕ) : Type 0 where
  -- its numbers are within their limits
  pub numbers : AreBenchNumbers workers count
  -- no file has the name
  pub free : ¬ IsThere files name

-- its file was made as `create` makes one
abbrev pub IsMade : (volume_tells : Bool) → (before after : Files) → (name : List ℕ) → (workers : ℕ) → Type 0
IsMade volume_tells before after name workers = CreateLeaves volume_tells slot_size (slots_for workers) name before after Done
