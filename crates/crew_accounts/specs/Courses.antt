-- The course of a worker on a shelf.
use Rattle.std.specs.Prelude.{Bool, List, [], map, ◌++◌, ◌∷◌, ◌≡◌, ℕ}
use Rattle.rock_disk.specs.Cell.{CellState}
use Rattle.script_text.specs.declared.answer.Answer.{Answer}
use Rattle.script_text.specs.declared.line.Line.{Line}
use Rattle.core_model.specs.declared.view.View.{View}
use Rattle.line_account.specs.Courses.{Course, Stage as Told, lines_in}
use Rattle.store_rule.specs.declared.store.Store.{Store}
use Rattle.store_rule.specs.Ground.{Offers}
use Rattle.store_rule.specs.Passes.{basis, view}
use Rattle.worker_pool.specs.Courses.{Stage}
use Rattle.worker_shelf.specs.Shelves.{OnShelf}
use Rattle.crew_accounts.specs.Runs.{Past, run_of}
use Rattle.crew_accounts.specs.Tracks.{Tracks}
use Rattle.line_account.specs.ScriptOrder.{◌then◌}

-- the lines of an account with their answers, the first one first
abbrev pub in_order : {X : Type 0} → List (Told X) → List (Line × Answer)
in_order [] = []
in_order (earlier then x) = in_order earlier ++ (x.served.asked, x.served.answer) ∷ []

-- the lines of an account with their answers, each between the views before it and after it
abbrev pub with_views : {X : Type 0} → List (Told X) → List (View X × Line × Answer × View X)
with_views [] = []
with_views (earlier then x) = with_views earlier ++ (x.before, x.served.asked, x.served.answer, x.after) ∷ []

-- a stage of a worker on a shelf, in the same words
abbrev pub stage_shown : {C O St : Type 0} → Stage (OnShelf C O St) → View (List ℕ) × Line × Answer × View (List ℕ)
stage_shown x = (view x.before.pass, x.line, x.answer, view x.after.pass)

module _ {C O St : Type 0} (tells : Bool) (state : C → CellState) (offers : O → Offers) (s : Store C O) (told : Bool) (past : Past) where
  -- The account of a worker that served these lines has a course of the same lines and answers, from what its pass knew at the start to
  -- what it knows at the end. The pass is of the same store still, and tracks the lines.
  pub record HasCourse (start end : OnShelf C O St) (stages : List (Stage (OnShelf C O St))) : Type 0 where
    pub course : List (Told (List ℕ))
    pub is : Course (run_of (basis tells state offers s) told past) (view start.pass) course (view end.pass)
    pub lines : in_order course ≡ map (λ x. (x.line, x.answer)) stages
    pub views : with_views course ≡ map stage_shown stages  -- each between what the pass knew before it and after it
    pub store : end.store ≡ s
    pub tracks : Tracks tells state offers s told past (lines_in course) end.pass
