-- What `run` does.
use Rattle.std.specs.Prelude.{IsTrue, List, None, Option, Some, ◌≡◌, ℕ}
use Rattle.rock_run.specs.Device.{RunEnded, RunUnfailed}
use Rattle.rock_status.specs.declared.status.Status.{Status}
use Rattle.rock_status.specs.declared.status.Status.TheVariants.{DeviceFault, Done}
use Rattle.run_command.specs.Ends.{NoFault, RunEnds, RunsOrLacksMemory}
use Rattle.run_command.specs.Leaves.{RunLeaves}
use Rattle.run_command.specs.Plain.{NoneFailedServing, PrintsPlainly}
use Rattle.run_command.specs.Prints.{IsRunText, RunPrints}
use Rattle.run_command.specs.Says.{IsRunRefused, MayRun, RunSays}
use Rattle.run_command.specs.Whole.{IsRunFor}
use Rattle.script_text.specs.Script.{IsTakenFrom}
use Rattle.slot_finding.specs.Finding.{FindsSlot}
use Rattle.rock_commands.specs.World.{Tells, World}

-- A script was to be run over the file of this name, for the slot size that was given, by a store with so many anchors and so many workers.
pub record RunDoes (tells : Tells) (name : List ℕ) (given : Option ℕ) (anchors workers : ℕ)
    (before after : World) (status : Status) : Type 0 where
  -- When each status comes: by the numbers, and by the counts of faults,
  pub ends : RunEnds given anchors workers before.source_faults after.source_faults before.sink_faults after.sink_faults
      before.counts after.counts status
  -- and by the script and the files.
  pub says : RunSays tells.source tells.volume workers before.left after.left before.files name given anchors status
  -- Where the script, a number or the file refuses the run, it is refused so,
  pub refused : IsRunRefused tells.source tells.volume before.left before.files name given anchors workers before.counts after.counts status
  -- and where nothing refuses it and no fault comes, it is done, unless memory runs out.
  pub complete : IsTrue tells.source → IsTrue tells.volume → MayRun before.left before.files name given anchors workers
      → NoFault before.source_faults after.source_faults before.sink_faults after.sink_faults before.counts after.counts
      → RunsOrLacksMemory status
  -- What was printed. The answers are explained by what the workers did.
  pub prints : IsTrue tells.sink
      → RunPrints (IsRunText tells.source tells.volume before.left after.left before.files after.files name given anchors workers
      before.counts after.counts) before.taken after.taken status
  -- What is left of the files. At the end of a run the file is back. A rebuild of it keeps each entry that stood closed and not doomed; of
  -- all that a crash may leave of the file it keeps those that the file had before and those of `save` lines. None of that has an entry
  -- of a new version that a `wipe` line was answered WIPED with.
  pub leaves : RunLeaves tells.source tells.volume before.left after.left before.files after.files name given anchors workers
      before.counts after.counts status
  -- For a word `-` and a file whose header area records its slots, all of this is so with the size that is recorded.
  pub recorded : (slot : ℕ) → given ≡ None → IsTrue tells.volume → FindsSlot before.files name None slot
      → IsRunFor tells.source tells.volume tells.sink before.left after.left before.files after.files name (Some slot) anchors workers
      before.source_faults after.source_faults before.sink_faults after.sink_faults
      before.counts after.counts before.taken after.taken status
  -- With one worker whose station met no fault, it prints what a plain store answers that is opened on the file, and the file that is
  -- given back has each entry that is whole in what the script leaves of that store; a crash leaves those of them that the file had before
  -- and those that a `save` line stored. No thread and no lock is in the plain store, which `plain_model` defines.
  pub plain : workers ≡ 1 → IsTrue tells.source → IsTrue tells.volume → IsTrue tells.sink → status ≡ Done
      → NoneFailedServing before.counts after.counts
      → PrintsPlainly before.left before.files after.files name given anchors before.taken after.taken
  -- Its stations are that of the rebuild and those of the workers: each that was made was ended.
  pub stations : RunEnded before.counts after.counts
  -- What is left of the script is what was not read of it.
  pub script : IsTakenFrom tells.source before.left after.left
  -- At any status but that of a fault of the disk the volume's count is as it was, and the station of the rebuild was ended with none. A
  -- fault of a worker's station is a line of the answers, and no status.
  pub unfailed : (status ≡ DeviceFault → ⊥) → RunUnfailed before.counts after.counts
