-- What run_workers says of its shelves, where these are those of workers of a store, as accounts.
use Rattle.std.proofs.Common.{Bool, Contains, List, cond, false, inl, inr, subst, true, ◌+◌, ◌≡◌, ◌⊎◌, ℕ, take}
use Rattle.std.specs.List.{list_any}
use Rattle.rock_disk.specs.Cell.{CellState}
use Rattle.script_text.specs.declared.answer.Answer.{Answer}
use Rattle.script_text.specs.declared.answer.Answer.TheVariants.{Met, Unmet}
use Rattle.script_text.specs.declared.line.Line.{Line}
use Rattle.script_text.specs.declared.request.Request.{Request}
use Rattle.script_text.specs.declared.request.Request.TheVariants.{Await, Mark}
use Rattle.script_text.specs.declared.shelf.Shelf.{Ghosts}
use Rattle.store_rule.specs.declared.store.Note.{Note}
use Rattle.store_rule.specs.declared.store.Store.{Store}
use Rattle.store_rule.specs.Ground.{Offers}
use Rattle.store_rule.specs.Passes.{IsNewOf, view}
use Rattle.worker_pool.specs.Courses.{Awaited, IsServed, Meeting, Noting, StepOf, sets}
use Rattle.worker_pool.specs.Running.{Account, IsWhole}
use Rattle.worker_shelf.specs.Taking.{Takes}
use Rattle.worker_shelf.specs.Shelves.{Learned, Left, Noted, OnShelf, Went}
use Rattle.worker_shelf.specs.Playing.{IsPlayed, Meets, Notes, StepOn}

module _ {C O St N : Type 0} (tells : Bool) (state : C → CellState) (offers : O → Offers) (faults : St → ℕ) (g : Ghosts (OnShelf C O St) N) (note_of : N → Note C)
    (went : (b : OnShelf C O St) (line : Line) (a : Answer) (c : OnShelf C O St) → g.went b line a c → Went tells state offers faults b line a c)
    (noted : (b : OnShelf C O St) (n : N) (c : OnShelf C O St) → g.noted b n c → Noted tells state offers b (note_of n) c)
    (learned : (b : OnShelf C O St) (n : N) (c : OnShelf C O St) → g.learned b n c → Learned tells state offers b (note_of n) c)
    (left : (b c : OnShelf C O St) → g.left b c → Left tells state offers b c) where
  notes : (b c : OnShelf C O St) → Noting g b c → Notes tells state offers faults b c
  notes b c h = record { note = note_of h.note; noted = noted b h.note c h.step }

  meets : (b c : OnShelf C O St) → Meeting g b c → Meets tells state offers faults b c
  meets b c h = record { note = note_of h.note; learned = h.learned; learns = learned b h.note h.learned h.learns; again = note_of h.again; notes = noted h.learned h.again c h.notes }

  awaited : (is_set : Bool) (b : OnShelf C O St) (a : Answer) (c : OnShelf C O St) → Awaited g is_set b a c → ((a ≡ Met) × Meets tells state offers faults b c) ⊎ ((a ≡ Unmet) × (c ≡ b))
  awaited true b a c h = inl (h.0, meets b c h.1)
  awaited false b a c h = inr h

  step_on : (request : Request) (earlier : List Line) (line : Line) (b : OnShelf C O St) (a : Answer) (c : OnShelf C O St) → StepOf g request earlier line b a c → StepOn tells state offers faults request b line a c
  step_on (Mark mark) earlier line b a c h = (h.0, notes b c h.1)
  step_on (Await mark) earlier line b a c h = awaited (list_any (sets mark) earlier) b a c h
  step_on _ earlier line b a c h = went b line a c h

  answer_is : (is_set : Bool) (b : OnShelf C O St) (a : Answer) (c : OnShelf C O St) → Awaited g is_set b a c → a ≡ cond is_set Met Unmet
  answer_is true b a c h = h.0
  answer_is false b a c h = h.0

  module _ (s : Store C O) (lines : List Line) where
    pub played : (w : ℕ) (a : Account (OnShelf C O St)) → IsWhole g lines (w + 1) a → a.start.store ≡ s → IsNewOf tells state offers s a.start.pass → (view a.start.pass).pass ≡ w
        → ((line : Line) → Contains lines line → line.worker ≡ w + 1 → IsServed line.request → Takes tells state offers s a.start.pass line) → IsPlayed tells state offers faults s lines w a
    played w a whole store fresh number takes = record {
      store = store;
      fresh = fresh;
      number = number;
      each = whole.course.each;
      has_steps = record {
        linked = whole.course.linked;
        steps = λ x among. step_on x.line.request (take x.place lines) x.line x.before x.answer x.after (whole.course.steps x among);
        left = left a.last a.end whole.left;
      };
      takes = takes;
      awaits = λ x among mark is. answer_is (list_any (sets mark) (take x.place lines)) x.before x.answer x.after
          (subst (λ (r : Request). StepOf g r (take x.place lines) x.line x.before x.answer x.after) is (whole.course.steps x among));
    }
