-- The courses of workers, and where a line stands among those that its worker served.
use Rattle.std.specs.Prelude.{Contains, List, ◌≡◌, ℕ}
use mathlib.Core.Option.{some}
use lib.ListN.{get_elem?}
use Rattle.script_text.specs.declared.answer.Answer.TheVariants.{Met}
use Rattle.script_text.specs.declared.request.Request.TheVariants.{Await, Mark}
use Rattle.core_model.specs.declared.view.View.{View}
use Rattle.line_account.specs.Answers.{Run}
use Rattle.line_account.specs.Closing.{Worker}
use Rattle.line_account.specs.Courses.{Stage}
use Rattle.line_account.specs.Lines.{Served}
use Rattle.line_account.specs.Order.{HandsOver}
use Rattle.line_account.specs.Parts.{IsCourseOf}
use Rattle.line_account.specs.ScriptOrder.{◌followed_by◌, ◌then◌}

-- a worker came to its end, with this view, along a course
pub record HasCourse {X : Type 0} (r : Run X) (w : Worker) (end : View X) : Type 0 where
  pub start : View X
  pub stages : List (Stage X)
  pub is : IsCourseOf r w start stages end

-- Each worker did so, with its view. Where one met a mark that the same or another worker set, this hands over what its setter knew.
pub record HaveCourses {X : Type 0} (r : Run X) (crew : List Worker) (view_at : ℕ → View X) : Type 0 where
  pub course : (j : ℕ) (w : Worker) → get_elem? crew j ≡ some w → HasCourse r w (view_at j)
  pub meets : (j l : ℕ) (w u : Worker) (setter : get_elem? crew j ≡ some w) (other : get_elem? crew l ≡ some u) (m n : Stage X) (mark : ℕ)
      → Contains (course j w setter).stages m → Contains (course l u other).stages n
      → m.served.asked.request ≡ Mark mark → n.served.asked.request ≡ Await mark → n.served.answer ≡ Met → HandsOver m n

-- the line is among these, with those before it
pub record IsAmong (served : List Served) (line : Served) (earlier : List Served) : Type 0 where
  -- the lines behind it
  pub later : List Served
  -- these are all of the lines
  pub split : served ≡ earlier then line followed_by later

-- One of these lines met a mark. The worker of the crew that set this had served the other lines before it did so.
pub record HasMet (crew : List Worker) (served marked : List Served) : Type 0 where
  -- the number of the mark
  pub mark : ℕ
  -- the line that met it
  pub met : Served
  -- the lines before that line
  pub between : List Served
  -- it is one of these
  pub awaits : IsAmong served met between
  -- it asked for the mark
  pub asked : met.asked.request ≡ Await mark
  -- and was answered MET
  pub meets : met.answer ≡ Met
  -- the number of another worker, or of the same
  pub j : ℕ
  -- that worker
  pub worker : Worker
  -- which has this number
  pub at : get_elem? crew j ≡ some worker
  -- its line that set the mark
  pub setter : Served
  -- with these lines before it
  pub sets : IsAmong worker.served setter marked
  -- it asked to set the mark
  pub set : setter.asked.request ≡ Mark mark

-- A worker that had served these lines knew of the line s, which has `earlier` before it: s is one of them, or the worker had met a mark
-- whose setter knew of s when it set it.
pub data KnewOf (crew : List Worker) : List Served → Served → List Served → Type 0 where
  own : {served earlier : List Served} {s : Served} → IsAmong served s earlier → KnewOf crew served s earlier
  told : {served marked earlier : List Served} {s : Served} → HasMet crew served marked → KnewOf crew marked s earlier
      → KnewOf crew served s earlier
