-- How much PART gives of a body that grows.
use Rattle.std.specs.Prelude.{List, Some, ◌≡◌, ℕ}
use Rattle.lock_word.specs.Words.{epoch_number, version_of}
use Rattle.lock_word.specs.declared.epoch.Epoch.{Epoch}
use Rattle.script_text.specs.declared.answer.Answer.TheVariants as answer
use Rattle.script_text.specs.declared.request.Request.TheVariants.{Add, More}
use Rattle.core_model.specs.declared.view.View.{View}
use Rattle.script_text.specs.Requests.{url_in}
use Rattle.line_account.specs.Lines.{Served, reading, writing}
use Rattle.line_account.specs.Answers.{Reads, Run, slots_after}
use Rattle.line_account.specs.Courses.{Begins, Course, Leaves, Stage, lines_in}
use Rattle.line_account.specs.Closing.{Worker}
use Rattle.line_account.specs.ScriptOrder.{◌then◌}

-- the course of a worker, from its view at the beginning to the one at its end
pub record IsCourseOf {X : Type 0} (r : Run X) (w : Worker) (start : View X) (stages : List (Stage X)) (end : View X) : Type 0 where
  pub begins : Begins r start
  pub last : View X
  pub course : Course r start stages last
  pub leaves : Leaves r last (lines_in stages) end
  pub lines : lines_in stages ≡ w.served

-- a line printed PART of the version x
pub record PrintsPart (s : Served) (x : ℕ) : Type 0 where
  -- with this epoch
  pub epoch : Epoch
  -- and these bytes
  pub bytes : List ℕ
  -- it printed PART
  pub printed : s.answer ≡ answer.Part epoch bytes
  -- and the epoch is of the version
  pub version_is : version_of (epoch_number epoch) ≡ x

-- A line printed ADDED. What its tab writes was begun by a line that drew the version x, under this URL, and this number of slots of its
-- content is published then.
pub record AddsTo {X : Type 0} (r : Run X) (earlier : List Served) (s : Served) (x : ℕ) (url : List ℕ) (slots : ℕ) : Type 0 where
  -- on this tab
  pub tab : ℕ
  -- so many bytes
  pub asked : ℕ
  -- were to be added
  pub request : s.asked.request ≡ Add tab asked
  -- of which so many
  pub count : ℕ
  -- were
  pub printed : s.answer ≡ answer.Added count
  -- the line
  pub first : Served
  -- that began what the tab writes
  pub begun_is : writing tab earlier ≡ Some first
  -- under the URL
  pub named : url_in first.asked.request ≡ Some url
  -- drew the version
  pub drew : first.drew ≡ Some x
  -- so many slots are published then
  pub slots_are : slots ≡ slots_after r.room url tab (earlier then s)

-- a line read on a tab that was opened by a line which printed OPEN with the version x
pub record GivesOf (earlier : List Served) (s : Served) (tab x : ℕ) : Type 0 where
  -- the line reads on, on the tab
  pub request : s.asked.request ≡ More tab
  -- and was answered as a line that read
  pub reads : Reads s.answer
  -- the line
  pub first : Served
  -- that opened what the tab reads
  pub opened_is : reading tab earlier ≡ Some first
  -- printed OPEN with the version
  pub printed : first.answer ≡ answer.Opened x
