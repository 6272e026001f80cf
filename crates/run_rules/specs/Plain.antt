-- What one worker is answered that runs a script alone over a file, by the plain store.
use Rattle.std.specs.Prelude.{All, List, Some, [], length, map, ◌+◌, ◌<◌, ◌∷◌, ◌≡◌, ℕ}
use Rattle.std.specs.FinMap.{get}
use Rattle.std.specs.List.{zip}
use mathlib.Core.Option.{some}
use lib.ListN.{get_elem?}
use Rattle.lock_word.specs.Words.{word_number}
use Rattle.rock_disk.specs.Cell.{CellState}
use Rattle.rock_disk.specs.Crash.{IsCrashImage}
use Rattle.rock_disk.specs.File.{Files}
use Rattle.rock_disk.specs.File.File.{Home}
use Rattle.script_text.specs.declared.answer.Answer.{Answer}
use Rattle.script_text.specs.declared.line.Line.{Line}
use Rattle.plain_model.specs.declared.store.Plain.{Plain}
use Rattle.plain_model.specs.Opening.{IsOpened}
use Rattle.plain_model.specs.Serving.{answers_of, left_by, lines_for}
use Rattle.plain_model.specs.Store.{word_at}
use Rattle.rock_disk.specs.Counts.{Counts}
use Rattle.rock_run.specs.Device.{HasEnded}
use Rattle.plain_runs.specs.Ends.{HoldsWhole}
use Rattle.plain_runs.specs.Runs.{setting_over}
use Rattle.run_rules.specs.Runs.{HasImages}
use Rattle.run_rules.specs.Standing.{KeepsWhole, WasKept}

-- each line has the number behind its place
abbrev pub AreInOrder : List Line → Type 0
AreInOrder lines = (k : ℕ) (line : Line) → get_elem? lines k ≡ some line → line.number ≡ k + 1

-- lines with these answers, by their numbers
abbrev pub numbered : List Line → List Answer → List (ℕ × Answer)
numbered lines given = zip (map (λ line. line.number) lines) given

-- the file of this name is in, and a read of its cells gives these images
pub record HasCells (files : Files) (name : List ℕ) (images : List (List ℕ)) : Type 0 where
  -- its header area
  pub header : CellState
  -- the cells of its slots
  pub cells : List CellState
  -- the bytes behind them
  pub rest : List ℕ
  -- the file has these
  pub there : get files name ≡ Some (Home header cells rest)
  -- and reads of the cells give the images
  pub images_are : images ≡ map (λ c. c.now) cells

-- the stations of workers were ended with no fault
abbrev pub NoneFailedServing : Counts → Counts → Type 0
NoneFailedServing before after = (workers : List ℕ) → HasEnded 0 workers before after → All (λ count. count ≡ 0) workers

-- What the lines leave of a plain store that is opened on a file with so many slots.
abbrev pub left_of : (slot anchors slots : ℕ) → List Line → Plain → Plain
left_of slot anchors slots script plain = left_by (setting_over slot anchors slots) script 1 plain

-- The worker was answered as by a plain store, and the file that was given back has the entries of that.
pub record IsAnsweredPlainly (files left : Files) (name : List ℕ) (slot anchors : ℕ) (script : List Line)
    (answers : List (List (ℕ × Answer))) : Type 0 where
  -- The store is opened on the file.
  pub images : List (List ℕ)
  -- These are the images of the file's slots.
  pub file : HasImages files name slot images
  -- This is the store
  pub plain : Plain
  -- that is opened on them.
  pub opened : IsOpened slot images anchors plain
  -- It has these answers to the lines, each with the line's number.
  pub answered : answers
      ≡ numbered (lines_for 1 script) (answers_of (setting_over slot anchors (length images)) script 1 plain) ∷ []
  -- The file that was given back has each entry that is whole in what the lines leave of the store.
  pub back : List (List ℕ)
  -- The file is back, and a read of its cells gives these images.
  pub given_back : HasCells left name back
  -- Each entry that is whole is complete in them.
  pub entries : HoldsWhole slot anchors back (left_of slot anchors (length images) script plain)
  -- A rebuild of it keeps each of them that is not doomed,
  pub kept : KeepsWhole slot anchors back (left_of slot anchors (length images) script plain) (λ e. Unit {0})
  -- and so does one of all that a crash may leave of it, of those that the file had at the opening or a `save` line stored.
  pub lasting : (crashed : List (List ℕ)) → IsCrashImage given_back.cells crashed
      → KeepsWhole slot anchors crashed (left_of slot anchors (length images) script plain) (WasKept (length images) script)

-- The last words of the anchors are those of what the lines leave of that store: its versions, its stages and its dooms. So the
-- entries that were closed then, and not doomed, are the plain store's.
abbrev pub EndedPlainly : {files left : Files} {name : List ℕ} {slot anchors : ℕ} {script : List Line} {answers : List (List (ℕ × Answer))}
    → (last : ℕ → ℕ) → IsAnsweredPlainly files left name slot anchors script answers → Type 0
EndedPlainly {slot = slot} {anchors = anchors} {script = script} last plainly = let slots = length plainly.images in
    (a : ℕ) → a < anchors
    → last a ≡ word_number (word_at (setting_over slot anchors slots) (left_of slot anchors slots script plainly.plain) a)
