-- What a benchmark leaves of the files.
use Rattle.std.specs.Prelude.{Bool, IsTrue, List, ◌≡◌, ◌⊎◌, ℕ}
use Rattle.file_commands.specs.Create.{CreateLeaves}
use Rattle.rock_disk.specs.File.{Files, IsKept}
use Rattle.rock_disk.specs.Counts.{Counts}
use Rattle.run_rules.specs.Left.{IsGivenBack}
use Rattle.run_rules.specs.Served.{WasServed}
use Rattle.rock_status.specs.declared.status.Status.{Status}
use Rattle.rock_status.specs.declared.status.Status.TheVariants.{BadGeometry, DeviceFault, Done, Memory, Missing, SinkFault, Small}
use Rattle.script_text.specs.declared.answer.Answer.{Answer}
use Rattle.script_text.specs.declared.line.Line.{Line}
use Rattle.bench_command.specs.Numbers.{IsMade, anchors_for, slot_size, slots_for}
use Rattle.bench_command.specs.Stations.{made_counts}

module _ (volume_tells : Bool) where
  module _ (before after : Files) (name : List ℕ) (workers : ℕ) (lines : List Line) where
    -- The file is as it was, or as opening cuts it, and the others are as they were.
    abbrev pub RunKept : Type 0
    RunKept = IsTrue volume_tells → IsKept slot_size name before after

    -- The file was opened as a store for the lines, and was given back, however many of them were served.
    abbrev pub RunClosed : Type 0
    RunClosed = IsTrue volume_tells → IsGivenBack before after name slot_size lines

    -- All lines were served, with these counts of the volume before and after, and answered so.
    pub record RunServed (counted counted_after : Counts) : Type 0 where
      -- The answers, a list for each worker.
      pub answers : List (List (ℕ × Answer))
      -- The lines were served over the file, and answered so.
      pub served : WasServed volume_tells before after name slot_size (anchors_for workers) workers lines answers counted counted_after

    -- What running the lines over the file leaves.
    abbrev pub RunLeaves : (counted counted_after : Counts) → Status → Type 0
    RunLeaves counted counted_after Done = RunServed counted counted_after
    RunLeaves counted counted_after SinkFault = RunServed counted counted_after
    RunLeaves counted counted_after DeviceFault = RunKept ⊎ RunClosed
    RunLeaves counted counted_after Memory = RunKept ⊎ RunClosed
    RunLeaves counted counted_after status = RunKept

  module _ (before after : Files) (name : List ℕ) (workers : ℕ) (lines : List Line) (counted counted_after : Counts) where
    -- The file was made, and the run left this of it.
    pub record LeavesMade (status : Status) : Type 0 where
      -- The files as they were once the new one was made.
      pub middle : Files
      -- It was made as `create` makes one.
      pub made : IsMade volume_tells before middle name workers
      -- This is what the run left of it.
      pub left : RunLeaves middle after name workers lines (made_counts counted) counted_after status

    -- What each status leaves. A fault of the disk, or want of memory, may come before the file was made.
    abbrev pub BenchLeaves : Status → Type 0
    BenchLeaves Done = LeavesMade Done
    BenchLeaves SinkFault = LeavesMade SinkFault
    BenchLeaves DeviceFault = CreateLeaves volume_tells slot_size (slots_for workers) name before after DeviceFault ⊎ LeavesMade DeviceFault
    BenchLeaves Memory = CreateLeaves volume_tells slot_size (slots_for workers) name before after Memory ⊎ LeavesMade Memory
    BenchLeaves Missing = LeavesMade Missing
    BenchLeaves (Small bytes) = LeavesMade (Small bytes)
    BenchLeaves (BadGeometry field) = (after ≡ before) ⊎ ((field ≡ 2) × LeavesMade (BadGeometry field))
    BenchLeaves status = after ≡ before
