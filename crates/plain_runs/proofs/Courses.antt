-- The course of a worker on a lone pass: its lines are answered as by the plain store, and its pass shows what they leave of that.
use Rattle.std.proofs.Common.{Bool, Contains, List, [], ap, arith, cond, false, inl, inr, map, refl, subst, suc, sym, ◌<◌, ◌∙◌, ◌∷◌, ◌≡◌, ◌⊎◌, ℕ}
use Rattle.std.specs.Prelude.{slice_index_or}
use Rattle.rock_disk.specs.Cell.{CellState}
use Rattle.script_text.specs.Tabs.{UsesTab}
use Rattle.script_text.specs.declared.answer.Answer.{Answer}
use Rattle.script_text.specs.declared.answer.Answer.TheVariants as answer
use Rattle.script_text.specs.declared.line.Line.{Line}
use Rattle.script_text.specs.declared.request.Request.{Request}
use Rattle.script_text.specs.declared.request.Request.TheVariants.{Add, Await, Begin, CloseTab, DropTab, End, Mark, More, OpenTab, Purge, Wipe}
use Rattle.core_model.specs.declared.tab.Tab.{Tab}
use Rattle.core_model.specs.declared.tab.Tab.TheVariants as tab
use Rattle.core_model.specs.declared.view.View.{View}
use Rattle.plain_model.specs.declared.store.Plain.{Plain}
use Rattle.plain_model.specs.declared.store.Setting.{Setting}
use Rattle.plain_model.specs.declared.store.Tab.{Tab as PlainTab}
use Rattle.plain_model.specs.declared.store.Tab.TheVariants.{Free, Reading, Writing}
use Rattle.plain_model.specs.Serving.{after, answers, is_set_before, serve}
use Rattle.plain_model.specs.Store.{tab_at}
use Rattle.plain_model.specs.Writing.{Step}
use Rattle.core_alone.proofs.Renewed.{noted as noted_kind, learned as learned_kind}
use Rattle.store_rule.specs.declared.store.Note.{Note}
use Rattle.store_rule.specs.declared.store.Pass.{Pass}
use Rattle.store_rule.specs.declared.store.Store.{Store}
use Rattle.store_rule.specs.Ground.{Offers}
use Rattle.store_rule.specs.Passes.{Keeps, basis, note_seen, view}
use Rattle.worker_pool.specs.Courses.{IsServed, Linked, Stage}
use Rattle.store_serve.specs.Answers.{is_fault}
use Rattle.store_serve.specs.Serving.{MayAsk, Serves, ServesRequest, Takes}
use Rattle.store_serve.specs.Tabs.{IsFree, Leaves}
use Rattle.store_serve.specs.Whole.{whole_tab}
use Rattle.worker_shelf.specs.Shelves.{Learned, Noted, OnShelf, Went}
use Rattle.worker_shelf.proofs.Holding.{Stays}
use Rattle.worker_shelf.specs.Playing.{IsStep, Meets, Notes, StepOn}
use Rattle.plain_runs.specs.Shows.{ShowsTab}
use Rattle.plain_runs.specs.Words.{setting_of}
use Rattle.plain_runs.specs.Runs.{ShowsPlain}
use Rattle.plain_runs.proofs.Lines.{LinesRight}
use Rattle.plain_runs.proofs.Marks.{SeesMore, free_still, shows_still}

module _ {C O : Type 0} (tells : Bool) (state : C → CellState) (offers : O → Offers) (s : Store C O) where
  -- a tab that is free, the plain store has free
  pub plain_free : (p : Pass C) (plain : Plain) (t : ℕ) → t < 8 → ShowsPlain tells state offers s p plain → IsFree p t → tab_at plain t ≡ Free
  plain_free p plain t lt shows free = of_tab (tab_at plain t) refl (shows.tabs t lt refl)
    where
      of_tab : (x : PlainTab) → tab_at plain t ≡ x → ShowsTab tells state offers s (λ v. v) p plain t (tab_at plain t) → tab_at plain t ≡ Free
      of_tab Free is h = is
      of_tab (Writing a) is h = let w = subst (ShowsTab tells state offers s (λ v. v) p plain t) is h in let k = sym w.writes.rests.is ∙ free in cc
      of_tab (Reading a given is_other) is h = let r = subst (ShowsTab tells state offers s (λ v. v) p plain t) is h in let k = sym r.reads.is ∙ free in cc

  -- a request leaves the tab of whole requests free
  pub whole_stays : (number : ℕ) (p : Pass C) (a : Answer) (q : Pass C) (request : Request) → MayAsk tells state offers s number request → ServesRequest tells state offers s number p a q request
      → ((t : ℕ) → UsesTab request t → Leaves tells state offers s t p q) → IsFree p whole_tab → IsFree q whole_tab
  whole_stays number p a q (Purge url) asks served leaves free = ap (λ (ts : List (Tab (List ℕ))). slice_index_or ts whole_tab tab.Free) served.same ∙ free
  whole_stays number p a q (Wipe url) asks served leaves free = ap (λ (ts : List (Tab (List ℕ))). slice_index_or ts whole_tab tab.Free) served.same ∙ free
  whole_stays number p a q (Begin t url body) asks served leaves free = (leaves t refl).others whole_tab (λ e. let z = e in let l = asks.0 in omega arith) (λ e. let z = e in omega arith) ∙ free
  whole_stays number p a q (Add t count) asks served leaves free = (leaves t refl).others whole_tab (λ e. let z = e in omega arith) (λ e. let z = e in omega arith) ∙ free
  whole_stays number p a q (End t) asks served leaves free = (leaves t refl).others whole_tab (λ e. let z = e in omega arith) (λ e. let z = e in omega arith) ∙ free
  whole_stays number p a q (DropTab t) asks served leaves free = (leaves t refl).others whole_tab (λ e. let z = e in omega arith) (λ e. let z = e in omega arith) ∙ free
  whole_stays number p a q (OpenTab t url) asks served leaves free = (leaves t refl).others whole_tab (λ e. let z = e in let l = asks.0 in omega arith) (λ e. let z = e in omega arith) ∙ free
  whole_stays number p a q (More t) asks served leaves free = (leaves t refl).others whole_tab (λ e. let z = e in omega arith) (λ e. let z = e in omega arith) ∙ free
  whole_stays number p a q (CloseTab t) asks served leaves free = (leaves t refl).others whole_tab (λ e. let z = e in omega arith) (λ e. let z = e in omega arith) ∙ free
  whole_stays number p a q (Mark mark) asks served leaves free = absurd served
  whole_stays number p a q (Await mark) asks served leaves free = absurd served
  whole_stays number p a q _ asks served leaves free = served.free

-- a request that is served uses a tab
pub uses : (request : Request) → IsServed request → (tab : ℕ) × UsesTab request tab
uses (Begin tab url body) served = (tab, refl)
uses (Add tab count) served = (tab, refl)
uses (End tab) served = (tab, refl)
uses (DropTab tab) served = (tab, refl)
uses (OpenTab tab url) served = (tab, refl)
uses (More tab) served = (tab, refl)
uses (CloseTab tab) served = (tab, refl)
uses (Mark mark) served = absurd served
uses (Await mark) served = absurd served
uses _ served = (7, refl)

module _ {C O St : Type 0} (tells : Bool) (state : C → CellState) (offers : O → Offers) (faults : St → ℕ) (s : Store C O) (script : List Line) (lines : LinesRight tells state offers s) (stays : Stays tells state offers s) (start : Pass C) where
  abbrev S : Setting
  S = setting_of (basis tells state offers s)

  -- so far has a worker come: its pass shows the plain store, and the tab of whole requests is free
  pub record Reached (now : OnShelf C O St) (plain : Plain) : Type 0 where
    pub store : now.store ≡ s
    pub number : (view now.pass).pass ≡ (view start).pass
    pub shows : ShowsPlain tells state offers s now.pass plain
    pub whole : IsFree now.pass whole_tab

  -- A line is answered as by the plain store, and leaves what it leaves.
  pub record Right (x : Stage (OnShelf C O St)) (plain : Plain) : Type 0 where
    pub answered : x.answer ≡ (serve S script x.line plain).answer
    pub reached : Reached x.after (serve S script x.line plain).after

  -- of a line, what is known of it by itself
  pub record IsFair (x : Stage (OnShelf C O St)) : Type 0 where
    pub step : IsStep tells state offers faults x
    pub takes : IsServed x.line.request → Takes tells state offers s start x.line
    pub fair : is_fault x.answer ≡ false
    pub awaits : (mark : ℕ) → x.line.request ≡ Await mark → x.answer ≡ cond (is_set_before script x.line.number mark) answer.Met answer.Unmet

  module _ (x : Stage (OnShelf C O St)) (plain : Plain) (r : Reached x.before plain) (h : IsFair x) where
    -- a line is its worker, its number and its request
    as_request : (request : Request) → x.line.request ≡ request → serve S script (record { worker = x.line.worker; number = x.line.number; request = request }) plain ≡ serve S script x.line plain
    as_request request is = ap (λ (z : Request). serve S script (record { worker = x.line.worker; number = x.line.number; request = z }) plain) (sym is)

    served_one : (request : Request) → x.line.request ≡ request → IsServed request → Went tells state offers faults x.before x.line x.answer x.after → Right x plain
    served_one request is served went =
        let serves = subst (λ (z : Store C O). Serves tells state offers z x.line x.before.pass x.answer x.after.pass (faults x.before.station) (faults x.after.station)) r.store went.serves in
        let asked = subst IsServed (sym is) served in
        let takes = h.takes asked in
        let here : Takes tells state offers s x.before.pass x.line = record { asks = takes.asks; goes = λ url named pass alone. takes.goes url named pass alone ∙ sym r.number } in
        let right = lines.line script x.line x.before.pass x.after.pass x.answer (faults x.before.station) (faults x.after.station) plain here serves went.typed h.fair r.shows
        (plain_free tells state offers s x.before.pass plain whole_tab (omega arith) r.shows r.whole) in
        let t = uses x.line.request asked in record {
          answered = right.0;
          reached = record {
            store = went.store ∙ r.store;
            number = (serves.leaves t.0 t.1).keeps.pass ∙ r.number;
            shows = right.1;
            whole = whole_stays tells state offers s x.line.number x.before.pass x.answer x.after.pass x.line.request takes.asks serves.request serves.leaves r.whole;
          };
        }

    -- where nothing was done but at a mark
    noted : (p q : Pass C) → SeesMore tells state offers s p q → ShowsPlain tells state offers s p plain → ShowsPlain tells state offers s q plain
    noted p q more shows = shows_still tells state offers s stays p q more plain shows

    sees_noted : (before after : OnShelf C O St) (note : Note C) → before.store ≡ s → Noted tells state offers before note after → SeesMore tells state offers s before.pass after.pass
    sees_noted before after note same n = record {
      keeps = subst (λ (z : Store C O). Keeps tells state offers z before.pass after.pass) same n.keeps;
      sights = [];
      item = _;
      view_is = n.view_is;
      quiet = noted_kind;
    }

    sees_learned : (before after : OnShelf C O St) (note : Note C) → before.store ≡ s → Learned tells state offers before note after → SeesMore tells state offers s before.pass after.pass
    sees_learned before after note same n = record {
      keeps = subst (λ (z : Store C O). Keeps tells state offers z before.pass after.pass) same n.keeps;
      sights = note_seen note;
      item = _;
      view_is = n.view_is;
      quiet = learned_kind;
    }

    -- what a mark leaves
    reached_more : (before after : OnShelf C O St) → after.store ≡ s → SeesMore tells state offers s before.pass after.pass → Reached before plain → Reached after plain
    reached_more before after store more reached = record {
      store = store;
      number = ap View.pass more.view_is ∙ reached.number;
      shows = noted before.pass after.pass more reached.shows;
      whole = free_still tells state offers s stays before.pass after.pass more whole_tab reached.whole;
    }

    unchanged : (made : Step) → serve S script x.line plain ≡ made → x.answer ≡ made.answer → Reached x.after made.after → Right x plain
    unchanged made is answered reached = record {
      answered = answered ∙ ap (λ (m : Step). m.answer) (sym is);
      reached = subst (λ (m : Step). Reached x.after m.after) (sym is) reached;
    }

    set_one : (mark : ℕ) → x.line.request ≡ Mark mark → (x.answer ≡ answer.Marked) × Notes tells state offers faults x.before x.after → Right x plain
    set_one mark is (marked, n) = unchanged _ (sym (as_request (Mark mark) is)) marked
        (reached_more x.before x.after (n.noted.store ∙ r.store) (sees_noted x.before x.after n.note r.store n.noted) r)

    met_one : (mark : ℕ) → x.line.request ≡ Await mark → ((x.answer ≡ answer.Met) × Meets tells state offers faults x.before x.after) ⊎ ((x.answer ≡ answer.Unmet) × (x.after ≡ x.before)) → Right x plain
    met_one mark is (inl (met, m)) = unchanged _ (sym (as_request (Await mark) is)) (h.awaits mark is)
        (let learned = reached_more x.before m.learned (m.learns.store ∙ r.store) (sees_learned x.before m.learned m.note r.store m.learns) r in
        reached_more m.learned x.after (m.notes.store ∙ learned.store) (sees_noted m.learned x.after m.again learned.store m.notes) learned)
    met_one mark is (inr (unmet, still)) = unchanged _ (sym (as_request (Await mark) is)) (h.awaits mark is) (subst (λ (z : OnShelf C O St). Reached z plain) (sym still) r)

    goes : (request : Request) → x.line.request ≡ request → StepOn tells state offers faults request x.before x.line x.answer x.after → Right x plain
    goes (Mark mark) is step = set_one mark is step
    goes (Await mark) is step = met_one mark is step
    goes request is step = served_one request is tt step

  one_right : (x : Stage (OnShelf C O St)) (plain : Plain) → Reached x.before plain → IsFair x → Right x plain
  one_right x plain r h = goes x plain r h x.line.request refl h.step

  -- The lines of a course.
  pub record AllRight (stages : List (Stage (OnShelf C O St))) (end : OnShelf C O St) (plain : Plain) : Type 0 where
    pub answered : map (λ x. x.answer) stages ≡ answers S script (map (λ x. x.line) stages) plain
    pub reached : Reached end (after S script (map (λ x. x.line) stages) plain)

  pub all_right : (stages : List (Stage (OnShelf C O St))) (now end : OnShelf C O St) (plain : Plain) → Linked now stages end → ((x : Stage (OnShelf C O St)) → Contains stages x → IsFair x) → Reached now plain → AllRight stages end plain
  all_right [] now end plain linked fair r = record { answered = refl; reached = subst (λ (z : OnShelf C O St). Reached z plain) (sym linked) r }
  all_right (x ∷ stages) now end plain linked fair r =
      let one = one_right x plain (subst (λ (z : OnShelf C O St). Reached z plain) (sym linked.0) r) (fair x (0, omega arith, refl)) in
      let rest = all_right stages x.after end (serve S script x.line plain).after linked.1 (λ y c. fair y (suc c.0, (let z = c.1 in omega arith), c.2)) one.reached in record {
        answered = ap (λ (a : Answer). a ∷ map (λ y. y.answer) stages) one.answered ∙ ap (λ (ys : List Answer). (serve S script x.line plain).answer ∷ ys) rest.answered;
        reached = rest.reached;
      }
