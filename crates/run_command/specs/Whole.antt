-- All that is said of a run.
use Rattle.std.specs.Prelude.{Bool, IsTrue, List, Option, ℕ}
use Rattle.rock_disk.specs.File.{Files}
use Rattle.rock_disk.specs.Counts.{Counts}
use Rattle.rock_status.specs.declared.status.Status.{Status}
use Rattle.run_command.specs.Ends.{RunEnds}
use Rattle.run_command.specs.Leaves.{RunLeaves}
use Rattle.run_command.specs.Prints.{IsRunText, RunPrints}
use Rattle.run_command.specs.Says.{IsRunRefused, RunSays}

-- How a run over the file of this name for what was given ended, what it printed, and what it left of the files.
pub record IsRunFor (source_tells volume_tells sink_tells : Bool) (script script_after : List ℕ) (files files_after : Files) (name : List ℕ)
    (given : Option ℕ) (anchors workers : ℕ) (source source_after sink sink_after : ℕ) (before after : Counts)
    (taken taken_after : List ℕ) (status : Status) : Type 0 where
  -- When the status comes, by the numbers and the counts of faults,
  pub ends : RunEnds given anchors workers source source_after sink sink_after before after status
  -- and by the script and the files.
  pub says : RunSays source_tells volume_tells workers script script_after files name given anchors status
  -- Where the script, a number or the file refuses the run, it is refused so.
  pub refused : IsRunRefused source_tells volume_tells script files name given anchors workers before after status
  -- What was printed.
  pub prints : IsTrue sink_tells
      → RunPrints (IsRunText source_tells volume_tells script script_after files files_after name given anchors workers before after)
      taken taken_after status
  -- What is left of the files.
  pub leaves : RunLeaves source_tells volume_tells script script_after files files_after name given anchors workers before after status
