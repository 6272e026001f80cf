-- A run over a file whose slot size is found first.
use Rattle.std.specs.Prelude.{Bool, List, Option, ◌⊎◌, ℕ}
use Rattle.rock_disk.specs.Cell.{CellState}
use Rattle.rock_disk.specs.File.{Files}
use Rattle.rock_disk.specs.Counts.{Counts}
use Rattle.rock_run.specs.Runs.{HasClosed, HasRun}
use Rattle.rock_status.specs.declared.status.Status.{Status}
use Rattle.rock_status.specs.declared.status.Status.TheVariants.{DeviceFault, Memory}
use Rattle.script_text.specs.declared.answer.Answer.{Answer}
use Rattle.script_text.specs.declared.line.Line.{Line}
use Rattle.run_command.specs.Slots.{IsSlotOf}

-- these lines were run over the file by its slot size, and answered so
pub record HasRunFor {C St : Type 0} (volume_tells tells : Bool) (state : C → CellState) (files files_after : Files) (name : List ℕ)
    (given : Option ℕ) (anchors workers : ℕ) (lines : List Line) (faults : St → ℕ) (answers : List (List (ℕ × Answer)))
    (before after : Counts) : Type 0 where
  pub slot : ℕ
  pub sized : IsSlotOf volume_tells files name given slot
  pub ran : HasRun volume_tells tells state files files_after name slot anchors workers lines faults answers before after

-- the file was opened as a store for these lines by its slot size, and the cells are back as the store left them
pub record HasClosedFor {C : Type 0} (volume_tells tells : Bool) (state : C → CellState) (files files_after : Files) (name : List ℕ)
    (given : Option ℕ) (anchors workers : ℕ) (lines : List Line) : Type 0 where
  pub slot : ℕ
  pub sized : IsSlotOf volume_tells files name given slot
  pub closed : HasClosed volume_tells tells state files files_after name slot anchors workers lines

-- What a refusal leaves of the files: they are kept, but at a fault of the disk or want of memory the store may have been open, and was
-- closed then.
abbrev pub FoundLeaves : (Kept Closed : Type 0) → Status → Type 0
FoundLeaves Kept Closed DeviceFault = Kept ⊎ Closed
FoundLeaves Kept Closed Memory = Kept ⊎ Closed
FoundLeaves Kept Closed status = Kept
