-- The courses of all workers, and their closing.
use Rattle.std.proofs.Common.{Bool, Contains, List, [], ap, false, length, map, refl, subst, sym, true, ◌+◌, ◌∙◌, ◌∷◌, ◌≡◌, ℕ}
use Rattle.std.specs.Prelude.{◌==◌, get_or}
use Rattle.std.specs.List.{filter}
use mathlib.Core.Option.{some}
use lib.ListN.{get_elem?}
use Rattle.rock_disk.specs.Cell.{CellState}
use Rattle.script_text.specs.declared.answer.Answer.TheVariants.{Met}
use Rattle.script_text.specs.declared.line.Line.{Line}
use Rattle.script_text.specs.declared.request.Request.TheVariants.{Await, Mark}
use Rattle.store_key.specs.Key.{key_of}
use Rattle.swap_meta.specs.Meta.{meta_bytes}
use Rattle.core_model.specs.CellMoves.{spent}
use Rattle.core_model.specs.Opening.{new_view}
use Rattle.core_model.specs.Tabs.{IsPass}
use Rattle.core_model.specs.declared.view.View.{View}
use Rattle.core_model.proofs.Lists.{at_length, at_or}
use Rattle.line_account.specs.Accounts.{Account as AccountOf}
use Rattle.line_account.specs.Answers.{Run}
use Rattle.line_account.specs.Closing.{Closed, Worker}
use Rattle.line_account.specs.Courses.{Begins, Course, Leaves, Stage as Told, lines_in}
use Rattle.line_account.specs.Lines.{Served}
use Rattle.line_account.specs.Order.{HandsOver}
use Rattle.line_account.specs.Scripts.{ServesScript, in_order as lines_of_served}
use Rattle.store_rule.specs.declared.store.Store.{Store}
use Rattle.store_rule.specs.Ground.{Offers}
use Rattle.store_rule.specs.Passes.{IsNewOf, basis, view}
use Rattle.store_rule.proofs.Passing.{pass_of}
use Rattle.worker_pool.specs.Courses.{IsServed, Linked, Stage}
use Rattle.worker_pool.specs.Running.{Account}
use Rattle.store_serve.specs.Serving.{Takes}
use Rattle.worker_shelf.specs.Shelves.{Left, OnShelf}
use Rattle.crew_accounts.specs.Runs.{Past, run_of}
use Rattle.crew_accounts.specs.Courses.{HasCourse, stage_shown, with_views}
use Rattle.worker_shelf.specs.Playing.{IsPlayed, IsStep}
use Rattle.crew_accounts.specs.Closings.{HasClosing, IsCourseFor, Played, crew_of, worker_of}
use Rattle.crew_accounts.specs.Playing.{HasRun}
use Rattle.crew_accounts.proofs.Halted.{halted_short}
use Rattle.crew_accounts.proofs.CrewLists.{Beside, as_many, beside, each_of, image, image_at, place_of, there}
use Rattle.crew_accounts.proofs.MarksMet.{awaited, hands_over}
use Rattle.crew_accounts.proofs.ScriptLines.{in_script, script_lines}
use Rattle.crew_accounts.proofs.Taking.{still_takes}

-- no line takes another pass
pass_kept : {X : Type 0} (r : Run X) (start end : View X) (stages : List (Told X)) → Course r start stages end → end.pass ≡ start.pass
pass_kept r start end [] course = ap View.pass course
pass_kept r start end (x ∷ earlier) course = ap View.pass course.0 ∙ course.1.keeps.pass ∙ pass_kept r start x.before earlier course.2

module _ {C O St : Type 0} (tells : Bool) (state : C → CellState) (offers : O → Offers) (faults : St → ℕ) (s : Store C O) (script : List Line) (told : Bool) (past : Past) where
  abbrev run : Run (List ℕ)
  run = run_of (basis tells state offers s) told past

  -- what other laws say, as they are used here
  pub record Laws : Type 0 where
    pub course : (start end : OnShelf C O St) (stages : List (Stage (OnShelf C O St))) → start.store ≡ s → IsNewOf tells state offers s start.pass → Linked start stages end
        → ((x : Stage (OnShelf C O St)) → Contains stages x → IsStep tells state offers faults x)
        → ((x : Stage (OnShelf C O St)) → Contains stages x → IsServed x.line.request → Takes tells state offers s x.before.pass x.line) → HasCourse tells state offers s told past start end stages
    pub leaves : (start end last : OnShelf C O St) (stages : List (Stage (OnShelf C O St))) → (h : HasCourse tells state offers s told past start end stages) → Left tells state offers end last
        → Leaves run (view end.pass) (lines_in h.course) (view last.pass)
    pub opened : (pass : ℕ) → Begins run (new_view run.setting pass)
    pub grows : (start end : View (List ℕ)) (stages : List (Told (List ℕ))) → Begins run start → Course run start stages end → AccountOf run end (lines_in stages) false
    pub ends : (v w : View (List ℕ)) (served : List Served) → AccountOf run v served false → Leaves run v served w → AccountOf run w served true
    pub sizes : (url : List ℕ) → length (meta_bytes (key_of url) url) ≡ 32 + length url

  -- a course of what a worker did, with the views before and after each line, and its account
  pub record IsDone (w : ℕ) (a : Account (OnShelf C O St)) (c : Played (List ℕ)) : Type 0 where
    pub is : IsCourseFor run script w a c
    pub views : with_views c.stages ≡ map stage_shown a.stages
    pub account : AccountOf run c.end (lines_in c.stages) true

  module _ (laws : Laws) where
    course_of : (w : ℕ) (a : Account (OnShelf C O St)) → IsPlayed tells state offers faults s script w a → (c : Played (List ℕ)) × IsDone w a c
    course_of w a h =
        let has = h.has_steps in
        let c = laws.course a.start a.last a.stages h.store h.fresh has.linked has.steps
        (still_takes tells state offers faults s a.stages a.start a.last has.linked has.steps
        (λ x among. let o = in_script (w + 1) script a.stages h.each x among in h.takes x.line o.0 o.1)) in
        let leaves = laws.leaves a.start a.last a.end a.stages c has.left in
        let begins = subst (λ (v : View (List ℕ)). Begins run v) (sym h.fresh.fresh) (laws.opened (view a.start.pass).pass) in
        let account = laws.ends (view a.last.pass) (view a.end.pass) (lines_in c.course) (laws.grows (view a.start.pass) (view a.last.pass) c.course begins c.is) leaves in (
          record { start = view a.start.pass; stages = c.course; end = view a.end.pass },
          record {
            is = record {
              starts = refl;
              ends = refl;
              number = leaves.keeps.pass ∙ pass_kept run (view a.start.pass) (view a.last.pass) c.course c.is ∙ h.number;
              is = record { begins = begins; last = view a.last.pass; course = c.is; leaves = leaves; lines = refl };
              last = refl;
              lines = c.lines;
              awaits = awaited (w + 1) script a.stages c.course h.each c.lines h.awaits;
            };
            views = c.views;
            account = account;
          },
        )

    module _ (accounts : List (Account (OnShelf C O St))) (cells : List C) (h : HasRun tells state offers faults s script accounts cells) where
      played : (w : ℕ) (a : Account (OnShelf C O St)) → get_elem? accounts w ≡ some a → IsPlayed tells state offers faults s script w a
      played w a e = h.each w a (at_length accounts w a e, at_or accounts w a a e)

      all : Beside IsDone accounts
      all = beside IsDone accounts (λ w a e. course_of w a (played w a e))

      abbrev end_of : Account (OnShelf C O St) → View (List ℕ)
      end_of a = view a.end.pass

      -- the view at which the lines of a worker ended
      abbrev view_at : ℕ → View (List ℕ)
      view_at j = get_or (map end_of accounts) j spent

      view_of : (j : ℕ) (a : Account (OnShelf C O St)) → get_elem? accounts j ≡ some a → end_of a ≡ view_at j
      view_of j a e = sym (at_or (map end_of accounts) j (end_of a) spent (image_at end_of accounts j a e))

      -- a worker of the crew, with its course and its account
      pub record IsOne (j : ℕ) (w : Worker) : Type 0 where
        pub account : Account (OnShelf C O St)
        pub at : get_elem? accounts j ≡ some account
        pub course : Played (List ℕ)
        pub done : IsDone j account course
        pub is : worker_of course ≡ w
        pub view_is : end_of account ≡ view_at j

      one : (j : ℕ) (w : Worker) → get_elem? (crew_of all.items) j ≡ some w → IsOne j w
      one j w e = let i = image worker_of all.items j w e in let d = all.each j i.item i.at in
          record { account = d.item; at = d.at; course = i.item; done = d.so; is = i.is; view_is = view_of j d.item d.at }

      stands : (j : ℕ) (w : Worker) → IsOne j w → get_elem? (map end_of accounts) j ≡ some (view_at j)
      stands j w o = image_at end_of accounts j o.account o.at ∙ ap some o.view_is

      closed : Closed run (crew_of all.items)
      closed = let g = h.closed.gathered in record {
        state = g.state;
        sound = g.rule.sound;
        halted = halted_short laws.sizes (basis tells state offers s) told past g.state g.rule.halted;
        view_at = view_at;
        index = g.index;
        at = λ j w e. g.at j (view_at j) (stands j w (one j w e));
        apart = λ j l w x e f same. g.apart j l (view_at j) (view_at l) (stands j w (one j w e)) (stands l x (one l x f)) same;
        count = as_many worker_of all.items ∙ all.count ∙ h.count;
        passes = λ j w e. let o = one j w e in subst (λ (v : View (List ℕ)). IsPass v) o.view_is (pass_of o.account.end.pass);
        accounts = λ j w e. let o = one j w e in subst (λ (v : View (List ℕ)). AccountOf run v w.served true) (o.done.is.ends ∙ o.view_is)
            (subst (λ (x : Worker). AccountOf run o.course.end x.served true) o.is o.done.account);
      }

      serves : ServesScript script (crew_of all.items)
      serves j w e = let o = one j w e in
          subst (λ (x : Worker). lines_of_served x.served ≡ filter (λ l. l.worker == j + 1) script) o.is
          (script_lines (j + 1) script o.course.stages o.account.stages o.done.is.lines (played j o.account o.at).each)

      meets : (c d : Played (List ℕ)) (m n : Told (List ℕ)) (mark : ℕ) → Contains all.items c → Contains all.items d → Contains c.stages m → Contains d.stages n
          → m.served.asked.request ≡ Mark mark → n.served.asked.request ≡ Await mark → n.served.answer ≡ Met → HandsOver m n
      meets c d m n mark has_c has_d has_m has_n =
          let x = all.each has_c.0 c (place_of all.items c has_c) in
          let y = all.each has_d.0 d (place_of all.items d has_d) in
          hands_over x.item y.item c.stages d.stages x.so.views y.so.views
          (h.told x.item y.item (there accounts has_c.0 x.item x.at) (there accounts has_d.0 y.item y.at)) m n mark has_m has_n

      ended_so : (j : ℕ) (c : Played (List ℕ)) → get_elem? all.items j ≡ some c → view_at j ≡ c.end
      ended_so j c e = let d = all.each j c e in sym (d.so.is.ends ∙ view_of j d.item d.at)

      pub closing : HasClosing run script accounts
      unfolding closed
      closing = record {
        courses = all.items;
        count = all.count;
        each = λ w a c e f. let d = each_of IsDone accounts all w a c e f in d.is;
        closed = closed;
        views = ended_so;
        serves = serves;
        meets = meets;
      }

      -- The crew is closed in the state in which the store was, and each worker of it has the account of its place.
      pub record StandsHere : Type 0 where
        pub crew : List Worker
        pub closed : Closed run crew
        pub same : closed.state ≡ h.closed.gathered.state
        pub one : (j : ℕ) (w : Worker) → get_elem? crew j ≡ some w → IsOne j w

      pub stands_here : StandsHere
      unfolding closed
      stands_here = record { crew = crew_of all.items; closed = closed; same = refl; one = one }
