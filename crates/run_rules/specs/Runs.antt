-- What a run over a file prints, by the rules of lines, by its file and by its script.
use Rattle.std.specs.Prelude.{Bool, IsTrue, List, Some, [], count_by, length, map, min, take, ◌+◌, ◌++◌, ◌-◌, ◌∷◌, ◌^◌, ◌↔◌, ◌≡◌, ◌≤◌, ℕ}
use Rattle.std.specs.FinMap.{get}
use mathlib.Core.Option.{some}
use lib.ListN.{get_elem?}
use Rattle.rock_disk.specs.File.{File, Files, bytes_of, slots_cut}
use Rattle.entry_cut.specs.Content.{room_of}
use Rattle.lock_word.specs.Words.{version_of}
use Rattle.script_text.specs.declared.answer.Answer.{Answer}
use Rattle.script_text.specs.declared.line.Line.{Line}
use Rattle.script_text.specs.declared.request.Request.TheVariants.{Await}
use Rattle.line_account.specs.Answers.{Run}
use Rattle.line_account.specs.Closing.{ShownIn, Worker}
use Rattle.line_account.specs.Lines.{Served}
use Rattle.line_account.specs.Scripts.{ServesScript}
use Rattle.line_account.specs.Rules.{KeepsRules}
use Rattle.rock_disk.specs.Counts.{Counts}
use Rattle.worker_pool.specs.Courses.{lines_of}
use Rattle.store_serve.specs.Answers.{is_fault}
use Rattle.worker_shelf.specs.Playing.{answer_to_await}
use Rattle.rock_run.specs.Device.{HasEnded}
use Rattle.run_rules.specs.Fitting.{FitsInto}
use Rattle.run_rules.specs.Openings.{BeganWithFile}
use Rattle.lock_word.specs.declared.stage.Stage.TheVariants.{Empty}
use Rattle.line_account.specs.EpochNames.{IsAtStage, IsUndoomed}
use Rattle.line_account.specs.ScriptOrder.{◌then◌}

-- the file of this name has slots with these images
pub record HasImages (files : Files) (name : List ℕ) (slot : ℕ) (images : List (List ℕ)) : Type 0 where
  -- a file
  pub was : File
  -- of this name
  pub there : get files name ≡ Some was
  -- the images are what its slots hold
  pub images_are : images ≡ map (λ c. c.now) (slots_cut slot (bytes_of was))

-- the numbers and the answers of the lines that a worker served, the first one first
abbrev pub printed_by : List Served → List (ℕ × Answer)
printed_by [] = []
printed_by (earlier then s) = printed_by earlier ++ (s.asked.number, s.answer) ∷ []

-- how many of these answers are FAULT
abbrev pub faults_in : List (ℕ × Answer) → ℕ
faults_in answers = count_by (λ x. is_fault x.1) answers

module _ (script : List Line) (answers : List (List (ℕ × Answer))) where
  -- Each `await` is answered MET where an earlier line of the script sets its mark, and UNMET elsewhere. The worker numbered j from 0 on
  -- has the number j + 1 in the script.
  abbrev pub AreMet : Type 0
  AreMet = (j k place mark number : ℕ) (line : Line) (answer : Answer) (mine : List (ℕ × Answer)) → get_elem? answers j ≡ some mine
      → get_elem? (lines_of (j + 1) script) k ≡ some (place, line) → get_elem? mine k ≡ some (number, answer) → line.request ≡ Await mark
      → answer ≡ answer_to_await (take place script) mark

-- A worker has at most as many FAULT answers as the count with which its station was ended. A count at its greatest value no longer rises.
abbrev pub AreCounted : List (List (ℕ × Answer)) → (stations : List ℕ) → Type 0
AreCounted answers stations = (j count : ℕ) (mine : List (ℕ × Answer)) → get_elem? answers j ≡ some mine → get_elem? stations j ≡ some count
    → min (faults_in mine) (2 ^ 64 - 1) ≤ count

-- The lines that a run printed are explained by what its workers did, `crew`, in a run of a store that was opened over the file. Where the
-- volume does not tell its files, the images are those of some file.
pub record IsExplained (tells : Bool) (files : Files) (name : List ℕ) (slot anchors workers : ℕ) (script : List Line)
    (answers : List (List (ℕ × Answer))) (before after : Counts) : Type 0 where
  -- what the store was opened over
  pub run : Run (List ℕ)
  -- what each worker served, in order of the workers
  pub crew : List Worker
  -- the images of the slots of the file
  pub images : List (List ℕ)
  -- the store was opened over the file
  pub file : IsTrue tells → HasImages files name slot images
  -- where the volume tells its files, the run tells of bytes
  pub tells_are : IsTrue tells → IsTrue run.tells
  -- a slot has this room
  pub room_is : run.room ≡ room_of slot
  -- there are as many slots as images
  pub slots_are : run.setting.slots ≡ length images
  -- and as many anchors as the store was given
  pub anchors_are : run.setting.anchors ≡ anchors
  -- each anchor had what a rebuild of the file keeps there
  pub began : BeganWithFile run slot anchors images
  -- the run fits exactly where the script fits into the file
  pub fits_is : IsTrue run.fits ↔ FitsInto slot anchors images script
  -- there is one answer for each line of the script, workers in order, and the lines of each in order
  pub count : length crew ≡ workers
  -- the lines of each worker are its lines of the script, in their order
  pub serves : ServesScript script crew
  -- what is printed are their numbers and their answers
  pub printed : map (λ w. printed_by w.served) crew ≡ answers
  -- each `await` is answered by the script
  pub met : AreMet script answers
  -- the stations of the workers were ended, in their order, behind that of the rebuild, and each FAULT was counted
  pub stations : List ℕ
  pub many : length stations ≡ workers  -- one station for each worker
  -- these are the counts with which they were ended
  pub ended : HasEnded 0 stations before after
  -- no worker has more FAULT answers than its station counted faults
  pub faults : AreCounted answers stations
  -- the lines keep all rules
  pub rules : KeepsRules run script crew
  -- an epoch of version 0 is at EMPTY and not doomed, since no entry of a file has this version, and no line begins it
  pub zero : (a e : ℕ) → ShownIn run crew a e → version_of e ≡ 0 → IsAtStage Empty e × IsUndoomed e
