-- What a worker is answered to its private lines, and what these leave, by a plain store that is opened on the file.
use Rattle.std.specs.Prelude.{Bool, List, count_by, length, map, not, ◌&&◌, ◌+◌, ◌==◌, ◌≡◌, ◌≤◌, ℕ}
use Rattle.std.specs.List.{list_all}
use mathlib.Core.Option.{some}
use lib.ListN.{get_elem?}
use Rattle.rock_disk.specs.Counts.{Counts}
use Rattle.rock_disk.specs.File.{Files}
use Rattle.script_text.specs.Requests.{offers_body}
use Rattle.script_text.specs.declared.answer.Answer.{Answer}
use Rattle.script_text.specs.declared.line.Line.{Line}
use Rattle.plain_model.specs.declared.store.Plain.{Plain}
use Rattle.plain_model.specs.Opening.{IsOpened}
use Rattle.plain_model.specs.Serving.{lines_for}
use Rattle.plain_model.specs.declared.store.Setting.{Setting}
use Rattle.plain_laws.specs.Private.{is_private_anchor, names_only}
use Rattle.plain_runs.specs.Alone.{AreTabsApart}
use Rattle.plain_runs.specs.PrivateRuns.{IsPrivateRun}
use Rattle.plain_runs.specs.Runs.{setting_over}
use Rattle.rock_run.specs.Device.{HasEnded}
use Rattle.run_rules.specs.Fitting.{FitsInto}
use Rattle.run_rules.specs.Plain.{HasCells}
use Rattle.run_rules.specs.Runs.{HasImages}

-- A plain store that is opened on the file, with these images of its slots, into which the script fits.
pub record OpensWithRoom (files : Files) (name : List ℕ) (slot anchors : ℕ) (script : List Line) (images : List (List ℕ)) (plain : Plain)
    : Type 0 where
  -- the file has these images
  pub file : HasImages files name slot images
  -- the plain store is opened on them
  pub opened : IsOpened slot images anchors plain
  -- the slots suffice for the script
  pub slots : FitsInto slot anchors images script
  -- and so do the versions: each line that offers a body may begin one
  pub versions : plain.counter + count_by (λ line. offers_body line.request) script ≤ 4294901760

-- only lines of this worker name a URL of the anchor, and one of them does
abbrev pub is_own_anchor : Setting → List Line → (worker anchor : ℕ) → Bool
is_own_anchor s script worker anchor = is_private_anchor s script worker anchor
    && not (list_all (λ line. names_only s (λ a. not (a == anchor)) line.request) script)

-- The worker with this number was given these answers, with the numbers of its lines. Where the script fits, and each of its tabs is
-- opened at private anchors alone or at others alone, those to its private lines are those of the plain store to these lines by
-- themselves, but for the numbers of versions. Of what these lines leave of that, its tabs left, each whole entry at a private anchor
-- stands in the images of the file that was given back, and each anchor that the worker alone names had its word at last, with the
-- same numbers.
abbrev pub IsAnsweredAlone : Files → (name : List ℕ) → (slot anchors : ℕ) → List Line → (worker : ℕ) → List (ℕ × Answer) → (last : ℕ → ℕ)
    → (back : List (List ℕ)) → Type 0
IsAnsweredAlone files name slot anchors script worker mine last back = (images : List (List ℕ)) (plain : Plain)
    → OpensWithRoom files name slot anchors script images plain
    → AreTabsApart (setting_over slot anchors (length images)) script worker
    → IsPrivateRun slot (setting_over slot anchors (length images)) script worker plain (map (λ x. x.1) mine)
    (is_private_anchor (setting_over slot anchors (length images)) script worker)
    (is_own_anchor (setting_over slot anchors (length images)) script worker) last back

-- There is a plain store that is opened on the file, and each worker whose station was ended with no fault is answered so.
pub record AreAnsweredAlone (files left : Files) (name : List ℕ) (slot anchors workers : ℕ) (script : List Line)
    (answers : List (List (ℕ × Answer))) (before after : Counts) (last : ℕ → ℕ) : Type 0 where
  -- The store is opened on the file.
  pub images : List (List ℕ)
  -- These are the images of the file's slots.
  pub file : HasImages files name slot images
  -- This is the store
  pub plain : Plain
  -- that is opened on them.
  pub opened : IsOpened slot images anchors plain
  -- A file was given back.
  pub back : List (List ℕ)
  -- A read of its cells gives these images.
  pub given_back : HasCells left name back
  -- Each worker has a list of answers.
  pub many : length answers ≡ workers
  -- The worker numbered j from 0 on has the number j + 1 in the script. It has one answer for each of its lines,
  pub counted : (j : ℕ) (mine : List (ℕ × Answer)) → get_elem? answers j ≡ some mine → length mine ≡ length (lines_for (j + 1) script)
  -- and where its station was ended with no fault, it is answered so.
  pub each : (stations : List ℕ) → HasEnded 0 stations before after → (j : ℕ) (mine : List (ℕ × Answer)) → get_elem? answers j ≡ some mine
      → get_elem? stations j ≡ some 0 → IsAnsweredAlone files name slot anchors script (j + 1) mine last back
