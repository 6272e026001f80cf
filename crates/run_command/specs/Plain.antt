-- What a run of one worker prints that meets no fault.
use Rattle.std.specs.Prelude.{List, Option, ◌++◌, ◌≡◌, ℕ}
use Rattle.answer_text.specs.Text.{text_of}
use Rattle.rock_disk.specs.File.{Files}
use Rattle.run_rules.specs.Plain.{IsAnsweredPlainly}
pub use Rattle.run_rules.specs.Plain.{NoneFailedServing}
use Rattle.script_text.specs.Script.{IsScript}
use Rattle.script_text.specs.declared.answer.Answer.{Answer}
use Rattle.script_text.specs.declared.line.Line.{Line}
use Rattle.slot_finding.specs.Finding.{FindsSlot}

-- This is the text of a script for one worker, and what was printed is the text of the answers of a plain store to it.
pub record PrintsPlainly (script : List ℕ) (files files_after : Files) (name : List ℕ) (given : Option ℕ) (anchors : ℕ)
    (taken taken_after : List ℕ) : Type 0 where
  -- The slots of the file have this size.
  pub slot : ℕ
  -- It was given, or the file tells it.
  pub found : FindsSlot files name given slot
  -- The script has these lines.
  pub lines : List Line
  -- They are lines for one worker.
  pub read : IsScript 1 script lines
  -- A plain store that is opened on the file answers them so, and the file that was given back has its entries.
  pub answers : List (List (ℕ × Answer))
  -- This is so of these answers.
  pub answered : IsAnsweredPlainly files files_after name slot anchors lines answers
  -- The text of the answers was printed.
  pub printed : taken_after ≡ taken ++ text_of answers
