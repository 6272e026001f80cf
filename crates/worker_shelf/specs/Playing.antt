-- What a worker does on its shelf: it serves its lines one after the other, sets marks and meets those of others, and leaves its tabs.
use Rattle.std.specs.Prelude.{Bool, Contains, List, cond, count_by, map, take, ◌+◌, ◌≡◌, ◌⊎◌, ℕ}
use Rattle.std.specs.List.{list_any}
use Rattle.rock_disk.specs.Cell.{CellState}
use Rattle.script_text.specs.declared.answer.Answer.{Answer}
use Rattle.script_text.specs.declared.answer.Answer.TheVariants as answer
use Rattle.script_text.specs.declared.answer.Answer.TheVariants.{Met, Unmet}
use Rattle.script_text.specs.declared.line.Line.{Line}
use Rattle.script_text.specs.declared.request.Request.{Request}
use Rattle.script_text.specs.declared.request.Request.TheVariants.{Await, Mark}
use Rattle.core_model.specs.declared.view.Sight.{Sight}
use Rattle.store_rule.specs.declared.store.Note.{Note}
use Rattle.store_rule.specs.declared.store.Store.{Store}
use Rattle.store_rule.specs.Ground.{Offers}
use Rattle.store_rule.specs.Passes.{IsNewOf, view}
use Rattle.worker_pool.specs.Courses.{IsServed, Linked, Stage, lines_of, sets}
use Rattle.worker_pool.specs.Running.{Account}
use Rattle.store_serve.specs.Answers.{is_fault}
use Rattle.store_serve.specs.Serving.{Takes}
use Rattle.worker_shelf.specs.Shelves.{Learned, Left, Noted, OnShelf, Went}

-- the answer to `await`, by whether an earlier line of the script sets the mark
abbrev pub answer_to_await : (earlier : List Line) (mark : ℕ) → Answer
answer_to_await earlier mark = cond (list_any (sets mark) earlier) Met Unmet

module _ {C O St : Type 0} where
  -- Where a worker met a mark that the other one set, its pass knows after that all that the other's pass knew before it set the mark.
  abbrev pub TellsAtMarks : (setter other : Account (OnShelf C O St)) → Type 0
  TellsAtMarks setter other = (m n : Stage (OnShelf C O St)) (mark : ℕ) → Contains setter.stages m → Contains other.stages n → m.line.request ≡ Mark mark → n.line.request ≡ Await mark
      → n.answer ≡ Met → (x : Sight) → Contains (view m.before.pass).seen x → Contains (view n.after.pass).seen x

  -- how many of a worker's answers tell a fault of its station
  abbrev pub fault_answers : Account (OnShelf C O St) → ℕ
  fault_answers a = count_by (λ x. is_fault x.answer) a.stages

module _ {C O St : Type 0} (tells : Bool) (state : C → CellState) (offers : O → Offers) (faults : St → ℕ) where
  -- a shelf made a note
  pub record Notes (before after : OnShelf C O St) : Type 0 where
    pub note : Note C
    pub noted : Noted tells state offers before note after

  -- it learned one, and made another
  pub record Meets (before after : OnShelf C O St) : Type 0 where
    pub note : Note C
    pub learned : OnShelf C O St
    pub learns : Learned tells state offers before note learned
    pub again : Note C
    pub notes : Noted tells state offers learned again after

  -- what a shelf makes of a line with this request: it notes something at a mark that it sets, learns something at one that it meets, and
  -- serves all else
  abbrev pub StepOn : Request → (before : OnShelf C O St) → Line → Answer → (after : OnShelf C O St) → Type 0
  StepOn (Mark mark) before line a after = (a ≡ answer.Marked) × Notes before after
  StepOn (Await mark) before line a after = ((a ≡ answer.Met) × Meets before after) ⊎ ((a ≡ answer.Unmet) × (after ≡ before))
  StepOn _ before line a after = Went tells state offers faults before line a after

  abbrev pub IsStep : Stage (OnShelf C O St) → Type 0
  IsStep x = StepOn x.line.request x.before x.line x.answer x.after

module _ {C O St : Type 0} (tells : Bool) (state : C → CellState) (offers : O → Offers) (faults : St → ℕ) where
  -- A worker's lines follow one another, each is a step of its shelf, and after the last one it left all tabs.
  pub record HasSteps (a : Account (OnShelf C O St)) : Type 0 where
    pub linked : Linked a.start a.stages a.last
    pub steps : (x : Stage (OnShelf C O St)) → Contains a.stages x → IsStep tells state offers faults x
    pub left : Left tells state offers a.last a.end

  module _ (s : Store C O) (script : List Line) where
    -- The worker with the pass w, from 0 on, whose number in the script is w + 1, began on a new pass of the store, and served its lines,
    -- each once and in their order. At the start the pass takes each of them that is served, and `await` is answered by the script.
    pub record IsPlayed (w : ℕ) (a : Account (OnShelf C O St)) : Type 0 where
      pub store : a.start.store ≡ s
      pub fresh : IsNewOf tells state offers s a.start.pass
      pub number : (view a.start.pass).pass ≡ w
      pub each : map (λ x. (x.place, x.line)) a.stages ≡ lines_of (w + 1) script
      pub has_steps : HasSteps a
      pub takes : (line : Line) → Contains script line → line.worker ≡ w + 1 → IsServed line.request → Takes tells state offers s a.start.pass line
      pub awaits : (x : Stage (OnShelf C O St)) → Contains a.stages x → (mark : ℕ) → x.line.request ≡ Await mark → x.answer ≡ answer_to_await (take x.place script) mark
