-- The course of a worker whose lines are on a lot of a store that fits, elsewhere, or at marks: those on the lot are answered as by the plain store, but for
-- versions.
use Rattle.std.proofs.Common.{Bool, Contains, IsTrue, List, Some, [], ap, arith, cond, false, inl, inr, map, refl, subst, suc, sym, true, ◌+◌, ◌<◌, ◌∙◌, ◌∷◌, ◌≡◌, ◌≢◌, ◌≤◌, ◌⊎◌, ℕ}
use Rattle.std.specs.Prelude.{filter}
use Rattle.rock_disk.specs.Cell.{CellState}
use Rattle.script_text.specs.Requests.{offers_body}
use Rattle.script_text.specs.Tabs.{UsesTab}
use Rattle.script_text.specs.declared.answer.Answer.{Answer}
use Rattle.script_text.specs.declared.answer.Answer.TheVariants as answer
use Rattle.script_text.specs.declared.line.Line.{Line}
use Rattle.script_text.specs.declared.request.Request.{Request}
use Rattle.script_text.specs.declared.request.Request.TheVariants.{Await, Mark}
use Rattle.core_model.specs.Tabs.{anchor_of, is_free, tab_at as view_tab}
use Rattle.core_model.specs.declared.tab.Tab.{Tab}
use Rattle.core_model.specs.declared.view.View.{View}
use Rattle.plain_model.specs.declared.entry.Entry.{Entry}
use Rattle.plain_model.specs.declared.store.Plain.{Plain}
use Rattle.plain_model.specs.declared.store.Setting.{Setting}
use Rattle.plain_model.specs.declared.store.Tab.{Tab as PlainTab}
use Rattle.plain_model.specs.declared.store.Tab.TheVariants.{Free, Reading, Writing}
use Rattle.plain_model.specs.Serving.{after, answers, serve}
use Rattle.plain_model.specs.Store.{entry_at, place_at, tab_at}
use Rattle.plain_laws.specs.Fitting.{need_at}
use Rattle.plain_laws.specs.Private.{answers_to}
use Rattle.plain_laws.specs.Renaming.{renamed}
use Rattle.plain_laws.proofs.Running.{counter_by, offers_cons, offers_in, one_if}
use Rattle.plain_laws.proofs.Serving.{effect}
use Rattle.store_rule.specs.declared.store.Note.{Note}
use Rattle.store_rule.specs.declared.store.Pass.{Pass}
use Rattle.store_rule.specs.declared.store.Store.{Store}
use Rattle.store_rule.specs.Ground.{Ground, Offers}
use Rattle.store_rule.specs.Passes.{Keeps, basis, note_seen, view}
use Rattle.rock_reader.specs.Responses.{HoldsFile}
use Rattle.worker_pool.specs.Courses.{IsServed, Linked, Stage}
use Rattle.store_serve.specs.Answers.{is_fault}
use Rattle.store_serve.specs.Serving.{Serves, Takes}
use Rattle.store_serve.specs.Growing.{GrowsTo}
use Rattle.store_serve.specs.Tabs.{IsFree, Leaves}
use Rattle.store_serve.specs.Whole.{whole_tab}
use Rattle.worker_shelf.specs.Shelves.{Learned, Noted, OnShelf, Went}
use Rattle.worker_shelf.proofs.Holding.{Stays}
use Rattle.worker_shelf.specs.Playing.{IsStep, StepOn}
use Rattle.core_alone.proofs.Renewed.{noted as noted_kind, learned as learned_kind}
use Rattle.crew_accounts.proofs.GivenBytes.{IsFromFront}
use Rattle.store_serve.proofs.Grown.{knows_all}
use Rattle.plain_runs.specs.Elsewhere.{IsElse}
use Rattle.plain_runs.specs.Alone.{IsAtMark}
use Rattle.plain_runs.specs.Shows.{IsWithin, ShowsLot, ShowsTab}
use Rattle.plain_runs.specs.Words.{IsOfOffer, KnowsLot, Lot, ShowsEntryIf, no_guests, setting_of}
use Rattle.plain_runs.proofs.Courses.{uses, whole_stays}
use Rattle.plain_runs.proofs.Frames.{knows_same}
use Rattle.plain_runs.proofs.LotLines.{IsOfLot, LotServed, lot_line}
use Rattle.plain_runs.proofs.LotRequests.{IsFitting}
use Rattle.plain_runs.proofs.Marks.{SeesMore, free_still, has_still, leaves_all}
use Rattle.plain_runs.proofs.OtherLines.{other_request}
use Rattle.plain_runs.proofs.OwnAnchors.{OwnsLot, lot_stays}
use Rattle.plain_runs.proofs.Renamings.{Agrees, newest_on}
use Rattle.plain_runs.proofs.ShowingOthers.{OneBegins, reading_shows, writing_shows}

-- The lot fits still where a pass knows more, and the plain store is the same.
fits_on : (g : Ground (List ℕ)) (lot : Lot) (cap rename : ℕ → ℕ) (v w : View (List ℕ)) (plain : Plain) → GrowsTo v w → IsFitting g lot cap rename v plain → IsFitting g lot cap rename w plain
fits_on g lot cap rename v w plain grows fit = record {
  fits_is = fit.fits_is;
  apart = fit.apart;
  room = fit.room;
  counts = fit.counts;
  is = fit.is;
  least = fit.least;
  newest = newest_on g rename v w plain.counter (knows_all grows).trail fit.newest;
}

module _ {C O : Type 0} (tells : Bool) (state : C → CellState) (offers : O → Offers) (s : Store C O) (begins : OneBegins) (stays : Stays tells state offers s) (rename : ℕ → ℕ) (lot : Lot) (p q : Pass C) (plain : Plain) (more : SeesMore tells state offers s p q)
    (owns : OwnsLot (basis tells state offers s) lot (view p).pass) (h : ShowsLot tells state offers s rename p plain lot) where
  abbrev g : Ground (List ℕ)
  g = basis tells state offers s

  kept : Leaves tells state offers s 9 p q
  kept = leaves_all tells state offers s stays p q more h.inner_free

  number : (view q).pass ≡ (view p).pass
  number = ap View.pass more.view_is

  -- A pass that has seen more shows what it showed.
  knows_more : KnowsLot g rename lot (view q) plain no_guests
  knows_more = subst (λ (v : View (List ℕ)). KnowsLot g rename lot v plain no_guests) (sym more.view_is)
      (knows_same g rename (view p) _ plain no_guests h.knows record { same = λ place known here none. has_still g (view p) more.sights more.item more.quiet place })

  old : (a : ℕ) (e : Entry) → a < g.setting.anchors → lot.anchors a ≡ true → entry_at plain a ≡ Some e → IsOfOffer g a e
  old a e lt ours is = (subst (ShowsEntryIf g (view p) a (place_at plain a).version) is (h.knows.each a lt ours).entry).offer

  tab_more : (t : ℕ) → t < 8 → (x : PlainTab) → IsWithin lot x → ShowsTab tells state offers s rename p plain t x → ShowsTab tells state offers s rename q plain t x
  tab_more t lt Free within shown = ap (λ (v : View (List ℕ)). view_tab v t) more.view_is ∙ shown
  tab_more t lt (Writing a) within shown = writing_shows tells state offers s rename begins stays lot q plain more.keeps.own knows_more h.eight p plain 9 kept old t a (λ e. omega arith) shown refl refl
  tab_more t lt (Reading a given is_other) within shown = reading_shows tells state offers s rename begins stays lot q plain more.keeps.own knows_more h.eight p plain 9 kept old t a given is_other
      (lot_stays g lot (view p) (view q) number owns a shown.inside within) within (λ e. omega arith) shown

  pub shows_more : ShowsLot tells state offers s rename q plain lot
  shows_more = record {
    own = more.keeps.own;
    inner_free = kept.inner_free;
    knows = knows_more;
    hand = (cc (more.keeps.hand, h.hand));
    eight = h.eight;
    tabs = λ t lt own. tab_more t lt (tab_at plain t) (h.within t lt own) (h.tabs t lt own);
    within = h.within;
    away = λ t lt no. let still = ap (λ (v : View (List ℕ)). view_tab v t) more.view_is in (
      (h.away t lt no).0,
      λ used. subst (λ (x : Tab (List ℕ)). lot.anchors (anchor_of x) ≡ false) (sym still)
          ((h.away t lt no).1 (ap is_free (sym still) ∙ used)),
    );
  }

  pub fits_more : (cap : ℕ → ℕ) → IsFitting g lot cap rename (view p) plain → IsFitting g lot cap rename (view q) plain
  fits_more cap fit = fits_on g lot cap rename (view p) (view q) plain kept.keeps fit

module _ {C O St : Type 0} (tells : Bool) (state : C → CellState) (offers : O → Offers) (faults : St → ℕ) (s : Store C O) (script : List Line) (lot : Lot) (cap : ℕ → ℕ) (whole : lot.tabs whole_tab ≡ true) (begins : OneBegins) (stays : Stays tells state offers s)
    (known : IsTrue tells) (file : HoldsFile (basis tells state offers s)) (from : IsFromFront) (sized : (basis tells state offers s).slot < 4294967296) (these : Line → Bool) (start : Pass C) (owns : OwnsLot (basis tells state offers s) lot (view start).pass) where
  abbrev ground : Ground (List ℕ)
  ground = basis tells state offers s

  abbrev S : Setting
  S = setting_of (basis tells state offers s)

  -- So far has a worker come: its pass shows the plain store of the lot, by these names, and the tab of whole requests is free.
  pub record ReachedLot (names : ℕ → ℕ) (now : OnShelf C O St) (plain : Plain) : Type 0 where
    pub store : now.store ≡ s
    pub number : (view now.pass).pass ≡ (view start).pass
    pub shows : ShowsLot tells state offers s names now.pass plain lot
    pub free : IsFree now.pass whole_tab
    pub fit : IsFitting ground lot cap names (view now.pass) plain

  -- Of a line, what is known of it by itself: it is one of these, on the lot, or it is elsewhere or at a mark.
  pub record IsFairOn (x : Stage (OnShelf C O St)) : Type 0 where
    pub step : IsStep tells state offers faults x
    pub takes : IsServed x.line.request → Takes tells state offers s start x.line
    pub fair : is_fault x.answer ≡ false
    pub some : (versions : ℕ) → x.answer ≢ answer.Spent versions
    pub sorted : ((these x.line ≡ true) × IsServed x.line.request × IsOfLot S lot x.line.request)
        ⊎ ((these x.line ≡ false) × (IsAtMark x.line.request ⊎ (IsServed x.line.request × IsElse tells state offers s lot x.line.request)))
    pub needs : (b : ℕ) → need_at S b x.line.request ≤ cap b

  module _ (rename : ℕ → ℕ) (x : Stage (OnShelf C O St)) (plain : Plain) (r : ReachedLot rename x.before plain) (h : IsFairOn x) where
    own_here : OwnsLot ground lot (view x.before.pass).pass
    own_here = lot_stays ground lot (view start) (view x.before.pass) r.number owns

    free_here : tab_at plain whole_tab ≡ Free
    free_here = of_tab (tab_at plain whole_tab) refl (r.shows.tabs whole_tab (omega arith) whole)
      where
        of_tab : (y : PlainTab) → tab_at plain whole_tab ≡ y → ShowsTab tells state offers s rename x.before.pass plain whole_tab (tab_at plain whole_tab) → tab_at plain whole_tab ≡ Free
        of_tab Free is shown = is
        of_tab (Writing a) is shown = let w = subst (ShowsTab tells state offers s rename x.before.pass plain whole_tab) is shown in let k = sym w.writes.rests.is ∙ r.free in cc
        of_tab (Reading a given is_other) is shown = let w = subst (ShowsTab tells state offers s rename x.before.pass plain whole_tab) is shown in let k = sym w.reads.is ∙ r.free in cc

    -- What a line of the lot comes to.
    pub record OneServed : Type 0 where
      pub names : ℕ → ℕ
      pub agrees : Agrees plain.counter rename names
      pub least : plain.counter ≤ (serve S script x.line plain).after.counter
      pub answered : (other : ℕ → ℕ) → Agrees (serve S script x.line plain).after.counter names other → x.answer ≡ renamed other (serve S script x.line plain).answer
      pub reached : ReachedLot names x.after (serve S script x.line plain).after

    served_lot : (offers_body x.line.request ≡ true → plain.counter < 4294901760) → IsServed x.line.request → IsOfLot S lot x.line.request → Went tells state offers faults x.before x.line x.answer x.after → OneServed
    served_lot below asked of went =
        let serves = subst (λ (z : Store C O). Serves tells state offers z x.line x.before.pass x.answer x.after.pass (faults x.before.station) (faults x.after.station)) r.store went.serves in
        let takes = h.takes asked in
        let here : Takes tells state offers s x.before.pass x.line = record { asks = takes.asks; goes = λ url named pass alone. takes.goes url named pass alone ∙ sym r.number } in
        let t = uses x.line.request asked in
        let k : LotServed tells state offers s lot cap whole begins stays known file from sized rename x.answer x.after.pass plain (serve S script x.line plain) =
        lot_line tells state offers s lot cap whole begins stays known file from sized rename script x.line x.before.pass x.after.pass x.answer (faults x.before.station) (faults x.after.station) plain own_here of here serves went.typed h.fair h.some
        r.shows r.fit free_here below h.needs in record {
          names = k.names;
          agrees = k.agrees;
          least = k.least;
          answered = k.answered;
          reached = record {
            store = went.store ∙ r.store;
            number = (serves.leaves t.0 t.1).keeps.pass ∙ r.number;
            shows = k.shows;
            free = whole_stays tells state offers s x.line.number x.before.pass x.answer x.after.pass x.line.request takes.asks serves.request serves.leaves r.free;
            fit = k.fit;
          };
        }

    -- what a line came to that is served
    went_of : IsServed x.line.request → Went tells state offers faults x.before x.line x.answer x.after
    went_of asked = goes x.line.request asked h.step
      where
        goes : (request : Request) → IsServed request → StepOn tells state offers faults request x.before x.line x.answer x.after → Went tells state offers faults x.before x.line x.answer x.after
        goes (Mark mark) served step = absurd served
        goes (Await mark) served step = absurd served
        goes request served step = step

    one_served : (offers_body x.line.request ≡ true → plain.counter < 4294901760) → IsServed x.line.request → IsOfLot S lot x.line.request → OneServed
    one_served below asked of = served_lot below asked of (went_of asked)

    -- A line elsewhere leaves the lot.
    one_else : IsServed x.line.request → IsElse tells state offers s lot x.line.request → ReachedLot rename x.after plain
    one_else asked else_where = record {
      store = went.store ∙ r.store;
      number = (serves.leaves t.0 t.1).keeps.pass ∙ r.number;
      shows = other_request tells state offers s begins stays rename lot x.before.pass x.after.pass plain own_here r.shows r.fit.apart r.fit.fits_is x.line.number x.answer x.line.request whole free_here
          else_where serves.request serves.leaves;
      free = whole_stays tells state offers s x.line.number x.before.pass x.answer x.after.pass x.line.request (h.takes asked).asks serves.request serves.leaves r.free;
      fit = fits_on ground lot cap rename (view x.before.pass) (view x.after.pass) plain (serves.leaves t.0 t.1).keeps r.fit;
    }
      where
        went : Went tells state offers faults x.before x.line x.answer x.after
        went = went_of asked

        serves : Serves tells state offers s x.line x.before.pass x.answer x.after.pass (faults x.before.station) (faults x.after.station)
        serves = subst (λ (z : Store C O). Serves tells state offers z x.line x.before.pass x.answer x.after.pass (faults x.before.station) (faults x.after.station)) r.store went.serves

        t : (tab : ℕ) × UsesTab x.line.request tab
        t = uses x.line.request asked

    -- A line at a mark leaves the lot.
    sees_noted : (before after : OnShelf C O St) (note : Note C) → before.store ≡ s → Noted tells state offers before note after → SeesMore tells state offers s before.pass after.pass
    sees_noted before after note same n = record {
      keeps = subst (λ (z : Store C O). Keeps tells state offers z before.pass after.pass) same n.keeps;
      sights = [];
      item = _;
      view_is = n.view_is;
      quiet = noted_kind;
    }

    sees_learned : (before after : OnShelf C O St) (note : Note C) → before.store ≡ s → Learned tells state offers before note after → SeesMore tells state offers s before.pass after.pass
    sees_learned before after note same n = record {
      keeps = subst (λ (z : Store C O). Keeps tells state offers z before.pass after.pass) same n.keeps;
      sights = note_seen note;
      item = _;
      view_is = n.view_is;
      quiet = learned_kind;
    }

    reached_more : (before after : OnShelf C O St) → after.store ≡ s → SeesMore tells state offers s before.pass after.pass → ReachedLot rename before plain → ReachedLot rename after plain
    reached_more before after store more reached = let own = lot_stays ground lot (view start) (view before.pass) reached.number owns in record {
      store = store;
      number = ap View.pass more.view_is ∙ reached.number;
      shows = shows_more tells state offers s begins stays rename lot before.pass after.pass plain more own reached.shows;
      free = free_still tells state offers s stays before.pass after.pass more whole_tab reached.free;
      fit = fits_more tells state offers s begins stays rename lot before.pass after.pass plain more own reached.shows cap reached.fit;
    }

    at_mark : IsAtMark x.line.request → ReachedLot rename x.after plain
    at_mark mark = goes x.line.request mark h.step
      where
        goes : (request : Request) → IsAtMark request → StepOn tells state offers faults request x.before x.line x.answer x.after → ReachedLot rename x.after plain
        goes (Mark n) is (marked, m) = reached_more x.before x.after (m.noted.store ∙ r.store) (sees_noted x.before x.after m.note r.store m.noted) r
        goes (Await n) is (inl (met, m)) =
            let learned = reached_more x.before m.learned (m.learns.store ∙ r.store) (sees_learned x.before m.learned m.note r.store m.learns) r in
            reached_more m.learned x.after (m.notes.store ∙ learned.store) (sees_noted m.learned x.after m.again learned.store m.notes) learned
        goes (Await n) is (inr (unmet, still)) = subst (λ (z : OnShelf C O St). ReachedLot rename z plain) (sym still) r
        goes request is step = absurd is

  -- The lines of a course: the answers to these lines are those of the plain store to them by themselves, but for versions.
  pub record AllServed (rename : ℕ → ℕ) (stages : List (Stage (OnShelf C O St))) (end : OnShelf C O St) (plain : Plain) : Type 0 where
    pub names : ℕ → ℕ
    pub agrees : Agrees plain.counter rename names
    pub answered : answers_to these (map (λ x. x.line) stages) (map (λ x. x.answer) stages) ≡ map (renamed names) (answers S script (filter these (map (λ x. x.line) stages)) plain)
    pub reached : ReachedLot names end (after S script (filter these (map (λ x. x.line) stages)) plain)

  -- a line of the lot, in front of others
  with_one : (rename : ℕ → ℕ) (x : Stage (OnShelf C O St)) (stages : List (Stage (OnShelf C O St))) (end : OnShelf C O St) (plain : Plain) (r : ReachedLot rename x.before plain) (h : IsFairOn x) → these x.line ≡ true
      → (one : OneServed rename x plain r h) → AllServed one.names stages end (serve S script x.line plain).after → AllServed rename (x ∷ stages) end plain
  with_one rename x stages end plain r h is one rest = record {
    names = rest.names;
    agrees = λ v le. rest.agrees v (let l = one.least in omega arith) ∙ one.agrees v le;
    answered = rw is (ap (λ (a : Answer). a ∷ answers_to these (map (λ y. y.line) stages) (map (λ y. y.answer) stages)) (one.answered rest.names rest.agrees)
        ∙ ap (λ (ys : List Answer). renamed rest.names (serve S script x.line plain).answer ∷ ys) rest.answered);
    reached = rw is rest.reached;
  }

  -- one elsewhere, or at a mark
  with_other : (rename : ℕ → ℕ) (x : Stage (OnShelf C O St)) (stages : List (Stage (OnShelf C O St))) (end : OnShelf C O St) (plain : Plain) → these x.line ≡ false → AllServed rename stages end plain → AllServed rename (x ∷ stages) end plain
  with_other rename x stages end plain is rest = record { names = rest.names; agrees = rest.agrees; answered = rw is rest.answered; reached = rw is rest.reached }

  pub all_served : (rename : ℕ → ℕ) (stages : List (Stage (OnShelf C O St))) (now end : OnShelf C O St) (plain : Plain) → Linked now stages end → ((x : Stage (OnShelf C O St)) → Contains stages x → IsFairOn x)
      → plain.counter + offers_in (filter these (map (λ x. x.line) stages)) ≤ 4294901760 → ReachedLot rename now plain → AllServed rename stages end plain
  all_served rename [] now end plain linked fair below r = record { names = rename; agrees = λ v le. refl; answered = refl; reached = subst (λ (z : OnShelf C O St). ReachedLot rename z plain) (sym linked) r }
  all_served rename (x ∷ stages) now end plain linked fair below r =
      of_line (λ names next fewer reached. all_served names stages x.after end next linked.1 (λ y c. fair y (suc c.0, (let z = c.1 in omega arith), c.2)) fewer reached) h.sorted
    where
      h : IsFairOn x
      h = fair x (0, omega arith, refl)

      here : ReachedLot rename x.before plain
      here = subst (λ (z : OnShelf C O St). ReachedLot rename z plain) (sym linked.0) r

      left : List Line
      left = filter these (map (λ y. y.line) stages)

      with_this : these x.line ≡ true → plain.counter + offers_in (x.line ∷ left) ≤ 4294901760
      with_this is = subst (λ (b : Bool). plain.counter + offers_in (cond b (x.line ∷ left) left) ≤ 4294901760) is below

      without : these x.line ≡ false → plain.counter + offers_in left ≤ 4294901760
      without is = subst (λ (b : Bool). plain.counter + offers_in (cond b (x.line ∷ left) left) ≤ 4294901760) is below

      now_below : these x.line ≡ true → offers_body x.line.request ≡ true → plain.counter < 4294901760
      now_below is o = let k = with_this is in let split = offers_cons x.line left in let one : one_if (offers_body x.line.request) ≡ 1 = ap one_if o in omega arith

      then_below : these x.line ≡ true → (serve S script x.line plain).after.counter + offers_in left ≤ 4294901760
      then_below is = let k = with_this is in let split = offers_cons x.line left in let grew = counter_by S x.line plain (serve S script x.line plain) (effect S script x.line plain) in omega arith

      of_line : ((names : ℕ → ℕ) (next : Plain) → next.counter + offers_in left ≤ 4294901760 → ReachedLot names x.after next → AllServed names stages end next)
          → ((these x.line ≡ true) × IsServed x.line.request × IsOfLot S lot x.line.request)
          ⊎ ((these x.line ≡ false) × (IsAtMark x.line.request ⊎ (IsServed x.line.request × IsElse tells state offers s lot x.line.request))) → AllServed rename (x ∷ stages) end plain
      of_line rest (inl (is, asked, of)) =
          let one = one_served rename x plain here h (now_below is) asked of in
          with_one rename x stages end plain here h is one (rest one.names (serve S script x.line plain).after (then_below is) one.reached)
      of_line rest (inr (is, inl mark)) = with_other rename x stages end plain is (rest rename plain (without is) (at_mark rename x plain here h mark))
      of_line rest (inr (is, inr (asked, else_where))) = with_other rename x stages end plain is (rest rename plain (without is) (one_else rename x plain here h asked else_where))
