-- A script that was served to its end over a file: what its lines were answered, and what it left of the file.
use Rattle.std.specs.Prelude.{Bool, IsTrue, List, ◌≡◌, ℕ}
use Rattle.rock_disk.specs.File.{Files}
use Rattle.script_text.specs.declared.answer.Answer.{Answer}
use Rattle.script_text.specs.declared.line.Line.{Line}
use Rattle.rock_disk.specs.Counts.{Counts}
use Rattle.run_rules.specs.Last.{AreLastWords}
use Rattle.run_rules.specs.Plain.{EndedPlainly, IsAnsweredPlainly, NoneFailedServing}
use Rattle.run_rules.specs.Private.{AreAnsweredAlone}
use Rattle.run_rules.specs.Printed.{AreKeysOfWinners, AreResponses}
use Rattle.run_rules.specs.Runs.{IsExplained}
use Rattle.run_rules.specs.Standing.{LeavesStanding}

-- Workers served all lines of a script over a file, and were answered so. Of the files something is said where the volume tells them.
pub record WasServed (tells : Bool) (before after : Files) (name : List ℕ) (slot anchors workers : ℕ) (script : List Line)
    (answers : List (List (ℕ × Answer))) (counts_before counts_after : Counts) : Type 0 where
  -- The answers are explained by what the workers did.
  pub explained : IsExplained tells before name slot anchors workers script answers counts_before counts_after
  -- Each HIT is byte for byte one stored response under its URL, of the file or of a line of the script, and what a reader was given of
  -- one that grows are the first bytes of one.
  pub responses : IsTrue tells → AreResponses explained.run slot anchors explained.images script explained.crew
  -- Keys that are printed and found of versions of the opening are those of the file's winners.
  pub keys : AreKeysOfWinners explained.run slot anchors explained.images script explained.crew
  -- So are the words at which the anchors stood at last.
  pub last : ℕ → ℕ
  -- They are explained by the same workers.
  pub last_words : AreLastWords explained.run explained.crew last
  -- The file was given back. It has the entries that stood closed in these words, and a crash leaves those of them that last.
  pub left : IsTrue tells → LeavesStanding before after name slot anchors script answers last
  -- With one worker whose station met no fault the answers, the entries and the words are those of a plain store.
  pub plain : workers ≡ 1 → IsTrue tells → NoneFailedServing counts_before counts_after
      → (plainly : IsAnsweredPlainly before after name slot anchors script answers) × EndedPlainly last plainly
  -- So are, with any number of workers, the answers to a worker that is alone at its anchors and whose station met no fault, and the
  -- entries and the words there, but for the numbers of versions, where the script fits into the file.
  pub private : IsTrue tells → AreAnsweredAlone before after name slot anchors workers script answers counts_before counts_after last
