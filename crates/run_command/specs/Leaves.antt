-- What a run leaves of the files.
use Rattle.std.specs.Prelude.{Bool, IsTrue, List, Option, ◌≡◌, ◌⊎◌, ℕ}
use Rattle.rock_disk.specs.File.{Files}
use Rattle.rock_disk.specs.Counts.{Counts}
use Rattle.run_rules.specs.Left.{IsGivenBack}
use Rattle.rock_status.specs.declared.status.Status.{Status}
use Rattle.rock_status.specs.declared.status.Status.TheVariants.{BadGeometry, BadScript, DeviceFault, Done, Exists, Memory, Missing}
use Rattle.rock_status.specs.declared.status.Status.TheVariants.{SinkFault, Small, SourceFault, Usage}
use Rattle.script_text.specs.Script.{GivesScript}
use Rattle.script_text.specs.declared.line.Line.{Line}
use Rattle.slot_finding.specs.Finding.{IsKeptFor}
use Rattle.run_command.specs.Finished.{IsFinishedRun}
use Rattle.run_command.specs.Slots.{IsSlotOf}

-- Where the volume tells its files, the file is as it was, or as opening cuts it by its slot size, and the others are as they were.
abbrev pub LeavesKept : (volume_tells : Bool) → Files → Files → (name : List ℕ) → (given : Option ℕ) → Type 0
LeavesKept volume_tells before after name given = IsTrue volume_tells → IsKeptFor name given before after

module _ (source_tells volume_tells : Bool) (script script_after : List ℕ) (files files_after : Files) (name : List ℕ) (given : Option ℕ)
    (anchors workers : ℕ) where
  -- The file was opened as a store for the lines of the script, and was given back, however many of the lines were served.
  pub record LeavesClosed : Type 0 where
    -- The script was read to its end, and has these lines.
    pub lines : List Line
    -- The source gave them.
    pub read : GivesScript source_tells workers script script_after lines
    -- The slots of the file have this size.
    pub slot : ℕ
    -- It was given, or the file tells it.
    pub sized : IsSlotOf volume_tells files name given slot
    -- The file is back. What a crash leaves of it has responses of the file and of the script alone.
    pub file : IsTrue volume_tells → IsGivenBack files files_after name slot lines

  -- What each status leaves, by the counts of the volume before and after. At the end of a run the file has also the entries that stood
  -- closed. Lines may have been served before a fault of the disk or want of memory.
  abbrev pub RunLeaves : (before after : Counts) → Status → Type 0
  RunLeaves before after Done =
      IsFinishedRun source_tells volume_tells script script_after files files_after name given anchors workers before after
  RunLeaves before after SinkFault =
      IsFinishedRun source_tells volume_tells script script_after files files_after name given anchors workers before after
  RunLeaves before after DeviceFault = LeavesKept volume_tells files files_after name given ⊎ LeavesClosed
  RunLeaves before after Memory = LeavesKept volume_tells files files_after name given ⊎ LeavesClosed
  RunLeaves before after Missing = LeavesKept volume_tells files files_after name given
  RunLeaves before after (Small bytes) = LeavesKept volume_tells files files_after name given
  RunLeaves before after (BadGeometry field) = LeavesKept volume_tells files files_after name given
  RunLeaves before after (BadScript line cause) = files_after ≡ files
  RunLeaves before after SourceFault = files_after ≡ files
  RunLeaves before after Usage = files_after ≡ files
  RunLeaves before after Exists = files_after ≡ files
