-- The courses that the accounts of workers have, and their closing.
use Rattle.std.specs.Prelude.{Contains, List, length, map, take, ◌+◌, ◌≡◌, ℕ}
use mathlib.Core.Option.{some}
use lib.ListN.{get_elem?}
use Rattle.script_text.specs.declared.answer.Answer.{Answer}
use Rattle.script_text.specs.declared.answer.Answer.TheVariants.{Met}
use Rattle.script_text.specs.declared.line.Line.{Line}
use Rattle.script_text.specs.declared.request.Request.TheVariants.{Await, Mark}
use Rattle.core_model.specs.declared.view.View.{View}
use Rattle.line_account.specs.Answers.{Run}
use Rattle.line_account.specs.Closing.{Closed, Worker}
use Rattle.line_account.specs.Courses.{Stage, lines_in}
use Rattle.line_account.specs.Order.{HandsOver}
use Rattle.line_account.specs.Parts.{IsCourseOf}
use Rattle.line_account.specs.Scripts.{ServesScript}
use Rattle.store_rule.specs.Passes.{view}
use Rattle.worker_pool.specs.Courses.{lines_of}
use Rattle.worker_pool.specs.Running.{Account}
use Rattle.worker_shelf.specs.Shelves.{OnShelf}
use Rattle.crew_accounts.specs.Courses.{in_order}
use Rattle.worker_shelf.specs.Playing.{answer_to_await}

-- the course of a worker: the view with which it began, the lines that it served, and the view at the end
pub record Played (X : Type 0) : Type 0 where
  pub start : View X
  pub stages : List (Stage X)
  pub end : View X

-- the worker of a course, and all workers
abbrev pub worker_of : {X : Type 0} → Played X → Worker
worker_of c = record { served = lines_in c.stages }

abbrev pub crew_of : {X : Type 0} → List (Played X) → List Worker
crew_of courses = map worker_of courses

module _ {C O St : Type 0} (r : Run (List ℕ)) (script : List Line) where
  -- It is the course of what the worker with the pass w did, from its first view on to the last one, with the same lines and answers in the
  -- same order. An `await` among them is answered by the script.
  pub record IsCourseFor (w : ℕ) (a : Account (OnShelf C O St)) (c : Played (List ℕ)) : Type 0 where
    pub starts : c.start ≡ view a.start.pass
    pub ends : c.end ≡ view a.end.pass
    pub number : c.end.pass ≡ w
    pub is : IsCourseOf r (worker_of c) c.start c.stages c.end
    pub last : is.last ≡ view a.last.pass
    pub lines : in_order c.stages ≡ map (λ x. (x.line, x.answer)) a.stages
    pub awaits : (k place mark : ℕ) (line : Line) (answer : Answer) → get_elem? (lines_of (w + 1) script) k ≡ some (place, line)
        → get_elem? (in_order c.stages) k ≡ some (line, answer)
        → line.request ≡ Await mark → answer ≡ answer_to_await (take place script) mark

  -- Each account has its course. The accounts are closed, the lines are those of the script, and where a line met a mark that a line of the
  -- same or of another worker set, this hands over what its worker knew.
  pub record HasClosing (accounts : List (Account (OnShelf C O St))) : Type 0 where
    pub courses : List (Played (List ℕ))
    pub count : length courses ≡ length accounts
    pub each : (w : ℕ) (a : Account (OnShelf C O St)) (c : Played (List ℕ)) → get_elem? accounts w ≡ some a → get_elem? courses w ≡ some c
        → IsCourseFor w a c
    pub closed : Closed r (crew_of courses)
    -- each worker at the view with which its course ended
    pub views : (w : ℕ) (c : Played (List ℕ)) → get_elem? courses w ≡ some c → closed.view_at w ≡ c.end
    pub serves : ServesScript script (crew_of courses)
    pub meets : (c d : Played (List ℕ)) (m n : Stage (List ℕ)) (mark : ℕ) → Contains courses c → Contains courses d → Contains c.stages m
        → Contains d.stages n
        → m.served.asked.request ≡ Mark mark → n.served.asked.request ≡ Await mark → n.served.answer ≡ Met → HandsOver m n
