-- A line that a worker served on a shelf adds to its account what it should.
use Rattle.std.proofs.Common.{Bool, IsTrue, List, ap, inl, inr, subst, sym, ◌≡◌, ◌∙◌, ◌⊎◌, ℕ}
use Rattle.rock_disk.specs.Cell.{CellState}
use Rattle.script_text.specs.declared.answer.Answer.{Answer}
use Rattle.script_text.specs.declared.answer.Answer.TheVariants as answer
use Rattle.script_text.specs.declared.line.Line.{Line}
use Rattle.script_text.specs.declared.request.Request.{Request}
use Rattle.script_text.specs.declared.request.Request.TheVariants.{Await, Mark}
use Rattle.core_model.specs.declared.view.Sight.{Sight}
use Rattle.line_account.specs.Lines.{Served}
use Rattle.store_rule.specs.declared.store.Note.{Note}
use Rattle.store_rule.specs.declared.store.Pass.{Pass}
use Rattle.store_rule.specs.declared.store.Store.{Store}
use Rattle.store_rule.specs.Ground.{Offers}
use Rattle.store_rule.specs.Notes.{learning, noting}
use Rattle.store_rule.specs.Passes.{Keeps, basis, note_seen, view}
use Rattle.worker_pool.specs.Courses.{IsServed, Stage}
use Rattle.store_serve.specs.Serving.{Serves, Takes}
use Rattle.worker_shelf.specs.Shelves.{Noted, OnShelf, Went}
use Rattle.worker_shelf.specs.Typed.{IsTyped}
use Rattle.crew_accounts.specs.Lines.{AddsLine, line_with}
use Rattle.crew_accounts.specs.Runs.{IsTold, Past}
use Rattle.crew_accounts.specs.Tracks.{Tracks}
use Rattle.worker_shelf.specs.Playing.{Meets, Notes, StepOn}

-- the pass takes the line, where it is served
abbrev pub MayServe : {C O St : Type 0} → Bool → (C → CellState) → (O → Offers) → Store C O → Stage (OnShelf C O St) → Type 0
MayServe tells state offers s x = IsServed x.line.request → Takes tells state offers s x.before.pass x.line

module _ {C O St : Type 0} (tells : Bool) (state : C → CellState) (offers : O → Offers) (faults : St → ℕ) (s : Store C O) (told : Bool) (past : Past) where
  -- what the laws of lines say, as they are used here
  pub record Laws : Type 0 where
    pub line : (served : List Served) (line : Line) (p q : Pass C) (a : Answer) (before after : ℕ) → (IsTrue told → IsTold (basis tells state offers s) told past tells) → Tracks tells state offers s told past served p → Takes tells state offers s p line
        → Serves tells state offers s line p a q before after → IsTyped a
        → AddsLine tells state offers s told past served line p a q
    pub set : (served : List Served) (worker number mark : ℕ) (p q : Pass C) → Tracks tells state offers s told past served p → Keeps tells state offers s p q → view q ≡ noting (view p)
        → AddsLine tells state offers s told past served (line_with worker number (Mark mark)) p answer.Marked q
    pub met : (served : List Served) (worker number mark : ℕ) (p m q : Pass C) (sights : List Sight) → Tracks tells state offers s told past served p → Keeps tells state offers s p m → view m ≡ learning (view p) sights
        → Keeps tells state offers s m q → view q ≡ noting (view m) → AddsLine tells state offers s told past served (line_with worker number (Await mark)) p answer.Met q
    pub unmet : (served : List Served) (worker number mark : ℕ) (p q : Pass C) → Tracks tells state offers s told past served p → q ≡ p
        → AddsLine tells state offers s told past served (line_with worker number (Await mark)) p answer.Unmet q

  -- the shelf is on the same store behind a line, which adds what it should
  pub record Goes (served : List Served) (x : Stage (OnShelf C O St)) : Type 0 where
    pub store : x.after.store ≡ s
    pub adds : AddsLine tells state offers s told past served x.line x.before.pass x.answer x.after.pass

  module _ (laws : Laws) (is_told : IsTrue told → IsTold (basis tells state offers s) told past tells) (served : List Served) (x : Stage (OnShelf C O St))
      (store : x.before.store ≡ s) (tracks : Tracks tells state offers s told past served x.before.pass) (takes : MayServe tells state offers s x) where
    served_one : Went tells state offers faults x.before x.line x.answer x.after → Takes tells state offers s x.before.pass x.line → Goes served x
    served_one h may = record {
      store = h.store ∙ store;
      adds = laws.line served x.line x.before.pass x.after.pass x.answer (faults x.before.station) (faults x.after.station) is_told tracks may
          (subst (λ (z : Store C O). Serves tells state offers z x.line x.before.pass x.answer x.after.pass (faults x.before.station) (faults x.after.station)) store h.serves) h.typed;
    }

    -- a line is its worker, its number and its request
    as_line : (request : Request) → x.line.request ≡ request → line_with x.line.worker x.line.number request ≡ x.line
    as_line request is = λ i. record { worker = x.line.worker; number = x.line.number; request = sym is i }

    noted_of : (before after : OnShelf C O St) (note : Note C) → before.store ≡ s → Noted tells state offers before note after → Keeps tells state offers s before.pass after.pass
    noted_of before after note same h = subst (λ (z : Store C O). Keeps tells state offers z before.pass after.pass) same h.keeps

    set_one : (mark : ℕ) → x.line.request ≡ Mark mark → (x.answer ≡ answer.Marked) × Notes tells state offers faults x.before x.after → Goes served x
    set_one mark is h = let n = h.1.noted in record {
      store = n.store ∙ store;
      adds = subst (λ (a : Answer). AddsLine tells state offers s told past served x.line x.before.pass a x.after.pass) (sym h.0)
          (subst (λ (l : Line). AddsLine tells state offers s told past served l x.before.pass answer.Marked x.after.pass) (as_line (Mark mark) is)
          (laws.set served x.line.worker x.line.number mark x.before.pass x.after.pass tracks (noted_of x.before x.after h.1.note store n) n.view_is));
    }

    met_one : (mark : ℕ) → x.line.request ≡ Await mark → ((x.answer ≡ answer.Met) × Meets tells state offers faults x.before x.after) ⊎ ((x.answer ≡ answer.Unmet) × (x.after ≡ x.before)) → Goes served x
    met_one mark is (inl h) = let m = h.1 in let l = m.learns in let n = m.notes in record {
      store = n.store ∙ l.store ∙ store;
      adds = subst (λ (a : Answer). AddsLine tells state offers s told past served x.line x.before.pass a x.after.pass) (sym h.0)
          (subst (λ (z : Line). AddsLine tells state offers s told past served z x.before.pass answer.Met x.after.pass) (as_line (Await mark) is)
          (laws.met served x.line.worker x.line.number mark x.before.pass m.learned.pass x.after.pass (note_seen m.note) tracks
          (subst (λ (z : Store C O). Keeps tells state offers z x.before.pass m.learned.pass) store l.keeps) l.view_is (noted_of m.learned x.after m.again (l.store ∙ store) n) n.view_is));
    }
    met_one mark is (inr h) = record {
      store = ap OnShelf.store h.1 ∙ store;
      adds = subst (λ (a : Answer). AddsLine tells state offers s told past served x.line x.before.pass a x.after.pass) (sym h.0)
          (subst (λ (z : Line). AddsLine tells state offers s told past served z x.before.pass answer.Unmet x.after.pass) (as_line (Await mark) is)
          (laws.unmet served x.line.worker x.line.number mark x.before.pass x.after.pass tracks (ap OnShelf.pass h.1)));
    }

    asked : (request : Request) → x.line.request ≡ request → IsServed request → IsServed x.line.request
    asked request is served = subst IsServed (sym is) served

    pub goes : (request : Request) → x.line.request ≡ request → StepOn tells state offers faults request x.before x.line x.answer x.after → Goes served x
    goes (Mark mark) is step = set_one mark is step
    goes (Await mark) is step = met_one mark is step
    goes request is step = served_one step (takes (asked request is tt))
