-- What a run prints.
use Rattle.std.specs.Prelude.{Bool, List, Option, ◌++◌, ◌≡◌, ◌⊎◌, ℕ}
use Rattle.answer_text.specs.Text.{text_of}
use Rattle.rock_disk.specs.File.{Files}
use Rattle.rock_io.specs.Faults.{Rose}
use Rattle.rock_io.specs.Sink.{TakesPrefix}
use Rattle.rock_disk.specs.Counts.{Counts}
use Rattle.rock_status.specs.declared.status.Status.{Status}
use Rattle.rock_status.specs.declared.status.Status.TheVariants.{Done, Memory, SinkFault}
use Rattle.run_command.specs.Finished.{IsFinishedRun}

-- The text is what a run prints: that of the answers which workers gave to the lines of its script.
pub record IsRunText (source_tells volume_tells : Bool) (script script_after : List ℕ) (files files_after : Files) (name : List ℕ)
    (given : Option ℕ) (anchors workers : ℕ) (before after : Counts) (text : List ℕ) : Type 0 where
  -- The script was served over the file.
  pub run : IsFinishedRun source_tells volume_tells script script_after files files_after name given anchors workers before after
  -- The text is that of the answers.
  pub is : text ≡ text_of run.answers

-- What was printed behind what the sink had taken: at `Done` the text, at a fault of the sink a first part of it, at want of memory
-- nothing or such a part, and else nothing.
abbrev pub RunPrints : (IsText : List ℕ → Type 0) → (taken taken_after : List ℕ) → Status → Type 0
RunPrints IsText taken taken_after Done = (text : List ℕ) × IsText text × (taken_after ≡ taken ++ text)
RunPrints IsText taken taken_after SinkFault = (text : List ℕ) × IsText text × TakesPrefix taken taken_after text
RunPrints IsText taken taken_after Memory = (taken_after ≡ taken) ⊎ ((text : List ℕ) × IsText text × TakesPrefix taken taken_after text)
RunPrints IsText taken taken_after status = taken_after ≡ taken

-- how printing ends, by the sink's count
abbrev pub PrintEnds : (sink sink_after : ℕ) → Status → Type 0
PrintEnds k k' Done = Unit {0}
PrintEnds k k' Memory = Unit {0}
PrintEnds k k' SinkFault = Rose k k'
PrintEnds k k' status = ⊥
