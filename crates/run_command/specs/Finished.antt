-- A run that came to its end.
use Rattle.std.specs.Prelude.{Bool, List, Option, ℕ}
use Rattle.rock_disk.specs.File.{Files}
use Rattle.rock_disk.specs.Counts.{Counts}
use Rattle.run_rules.specs.Served.{WasServed}
use Rattle.script_text.specs.Script.{GivesScript}
use Rattle.script_text.specs.declared.answer.Answer.{Answer}
use Rattle.script_text.specs.declared.line.Line.{Line}
use Rattle.run_command.specs.Slots.{IsSlotOf}

-- The run of a script over a file came to its end. The source had these bytes of the script before, and has these after.
pub record IsFinishedRun (source_tells volume_tells : Bool) (script script_after : List ℕ) (files files_after : Files) (name : List ℕ)
    (given : Option ℕ) (anchors workers : ℕ) (before after : Counts) : Type 0 where
  -- The script was read to its end, and has these lines.
  pub lines : List Line
  -- The source gave them.
  pub read : GivesScript source_tells workers script script_after lines
  -- The slots of the file have this size.
  pub slot : ℕ
  -- It was given, or the file tells it.
  pub sized : IsSlotOf volume_tells files name given slot
  -- The lines were served over the file, and answered so.
  pub answers : List (List (ℕ × Answer))
  -- This was so, and what was left of the file is said with it.
  pub served : WasServed volume_tells files files_after name slot anchors workers lines answers before after
