-- The words that stood in the last state of a store are explained by the lines of its workers.
use Rattle.std.proofs.Common.{Bool, Contains, IsTrue, List, [], ap, arith, cond, eq-eqb, false, inl, inr, length, refl, subst, sym, true}
use Rattle.std.proofs.Common.{⊎_elim, ◌<◌, ◌∙◌, ◌∷◌, ◌≡◌, ◌≢◌, ◌≤◌, ◌⊎◌, ℕ}
use Rattle.std.proofs.lemmas.List.{length-map}
use Rattle.std.specs.Prelude.{get_or}
use mathlib.Core.Option.{some, some-injective}
use lib.ListN.{get_elem?}
use Rattle.lock_word.specs.Words.{doom_of, epoch_of, stage_of, version_of}
use Rattle.core_model.specs.declared.view.Deed.{Deed}
use Rattle.core_model.specs.declared.view.Sight.{Sight}
use Rattle.core_model.specs.declared.view.Sight.TheVariants.{Stood}
use Rattle.core_model.specs.declared.view.View.{View}
use Rattle.core_model.specs.Anchors.{opening_counter, opening_epoch}
use Rattle.core_model.specs.Deeds.{ClosedVersion, DoomedVersion, EvictedVersion, HaltedVersion, IsDone, IsEpochAt, TookVersion}
use Rattle.core_model.specs.Holders.{IsFinished}
use Rattle.core_model.specs.Sound.{Sound}
use Rattle.core_model.specs.State.{State, word}
use Rattle.core_model.specs.Trails.{seen_at, stood}
use Rattle.core_model.proofs.DeedsTell.{known_closed, known_evicted, known_old, known_taken}
use Rattle.core_model.proofs.Lists.{at_index, cons_contains, contains_none}
use Rattle.core_model.proofs.StepsKeepTabs.{deeds_have_tabs}
use Rattle.line_account.specs.Accounts.{Account}
use Rattle.line_account.specs.Answers.{Run}
use Rattle.line_account.specs.Closing.{BegunIn, HaltedIn, LineIn, PurgedIn, PurgesVersion, StoredIn, Stores, Worker}
use Rattle.line_account.specs.Deeds.{Begins, Evicts, Halts, IsDeedOf, IsDeedOfEnd, IsWriting, Purges, WipesInVain}
use Rattle.line_account.specs.Lines.{LineOf, Served}
use Rattle.line_account.specs.Printed.{GivenBackIn, HadEntry, WasWhole}
use Rattle.line_account.proofs.GivenWay.{gave_way}
use Rattle.line_account.proofs.HaltedNew.{halted_new}
use Rattle.rock_disk.specs.Cell.{CellState}
use Rattle.rock_disk.specs.File.{Files}
use Rattle.script_text.specs.declared.answer.Answer.{Answer}
use Rattle.script_text.specs.declared.line.Line.{Line}
use Rattle.store_rule.specs.declared.store.Pass.{Pass}
use Rattle.store_rule.specs.Closing.{views_of}
use Rattle.store_rule.specs.Ground.{Ground}
use Rattle.store_rule.specs.Passes.{basis, view}
use Rattle.rock_disk.specs.Counts.{Counts}
use Rattle.worker_pool.specs.Running.{Account as PlayedBy}
use Rattle.worker_shelf.specs.Shelves.{OnShelf}
use Rattle.crew_accounts.specs.Runs.{run_of}
use Rattle.crew_accounts.specs.Closings.{HasClosing, IsCourseFor, Played, crew_of, worker_of}
use Rattle.rock_run.specs.Offered.{offers_of}
use Rattle.rock_run.specs.Runs.{HasRun}
use Rattle.run_rules.specs.Last.{AreLastWords}
use Rattle.run_rules.proofs.EntriesLeft.{map_at, view_there}
use Rattle.run_rules.proofs.Lists.{beside, image, not_above}
use Rattle.run_rules.proofs.Opened.{Laws, explained}

abbrev at_anchor : ℕ → Bool → ℕ
at_anchor e b = cond b e 0

-- what was seen is at most the greatest epoch that was seen
seen_below : (a e : ℕ) (xs : List Sight) → Contains xs (Stood a e) → e ≤ seen_at a xs
seen_below a e [] h = absurd (contains_none (Stood a e) h)
seen_below a e (x ∷ xs) h = ⊎_elim
    (λ (q : x ≡ Stood a e). let s : stood a x ≡ e = ap (stood a) q ∙ ap (at_anchor e) (eq-eqb a a refl) in omega arith)
    (λ (q : Contains xs (Stood a e)). let r = seen_below a e xs q in omega arith)
    (cons_contains x (Stood a e) xs h)

module _ {X : Type 0} (r : Run X) (crew : List Worker) (view_at : ℕ → View X) (s : State X) (sound : Sound r.setting s) where
  -- the worker with a view of the state
  pub record HasWorker (u : View X) : Type 0 where
    pub j : ℕ
    pub worker : Worker
    pub at : get_elem? crew j ≡ some worker
    pub view_is : view_at j ≡ u

  -- The views of the workers stand in the state, and no other view has tabs. Each worker has its account, and nothing is left to do for a
  -- word.
  pub record StandIn : Type 0 where
    pub stands : (j : ℕ) (w : Worker) → get_elem? crew j ≡ some w → (i : ℕ) × (get_elem? s.views i ≡ some (view_at j))
    pub worker : (i : ℕ) (u : View X) → get_elem? s.views i ≡ some u → u.tabs ≢ [] → HasWorker u
    pub accounts : (j : ℕ) (w : Worker) → get_elem? crew j ≡ some w → Account r (view_at j) w.served true
    pub finished : (a : ℕ) → a < r.setting.anchors → IsFinished (word s a)

  module _ (c : StandIn) where
    -- a worker at its end, of whose lines R holds
    record AtEnd (R : List Served → Type 0) : Type 0 where
      j : ℕ
      worker : Worker
      at : get_elem? crew j ≡ some worker
      so : R worker.served

    -- a deed belongs to a line of a worker, or to the end of one
    by_cause : (P : Deed → Type 0) (Q : List Served → Served → Type 0) (R : List Served → Type 0)
        → ((v : View X) (d : Deed) (earlier : List Served) (line : Served) → P d → IsDeedOf r v d earlier line → Q earlier line)
        → ((d : Deed) (served : List Served) → P d → IsDeedOfEnd r.setting d served → R served)
        → IsDone s P → LineIn crew Q ⊎ AtEnd R
    by_cause P Q R of_line of_end done =
        let w = c.worker done.i done.view done.at (deeds_have_tabs r.setting s done.i done.view done.deed sound.anchors.shaped done.at
        done.done) in
        let own : Contains (view_at w.j).deeds done.deed = subst (λ (v : View X). Contains v.deeds done.deed) (sym w.view_is) done.done in
        ⊎_elim
        (λ (l : LineOf w.worker.served (IsDeedOf r (view_at w.j) done.deed)). inl record {
          j = w.j;
          worker = w.worker;
          at = w.at;
          later = l.later;
          served = l.served;
          earlier = l.earlier;
          split = l.split;
          so = of_line (view_at w.j) done.deed l.earlier l.served done.so l.so;
        })
        (λ (l : (true ≡ true) × IsDeedOfEnd r.setting done.deed w.worker.served).
        inr record { j = w.j; worker = w.worker; at = w.at; so = of_end done.deed w.worker.served done.so l.1 })
        ((c.accounts w.j w.worker w.at).deeds done.deed own).1

    by_line : (P : Deed → Type 0) (Q : List Served → Served → Type 0)
        → ((v : View X) (d : Deed) (earlier : List Served) (line : Served) → P d → IsDeedOf r v d earlier line → Q earlier line)
        → ((d : Deed) (served : List Served) → P d → IsDeedOfEnd r.setting d served → ⊥)
        → IsDone s P → LineIn crew Q
    by_line P Q of_line of_end done = ⊎_elim
        (λ (l : LineIn crew Q). l)
        (λ (l : AtEnd (λ served. ⊥)). absurd l.so)
        (by_cause P Q (λ served. ⊥) of_line of_end done)

    begun : (a x : ℕ) → IsDone s (TookVersion a x) → BegunIn r crew a x
    begun a x done = by_line (TookVersion a x) (λ earlier line. Begins r.setting.anchors line a x)
        (λ v d earlier line p h. subst (λ (y : ℕ). Begins r.setting.anchors line a y) p.2
        (subst (λ (b : ℕ). Begins r.setting.anchors line b (version_of d.epoch)) p.1 (h.took p.0 p.3)))
        (λ d served p h. let z = (h.changed p.0).0 in let y = p.3 in omega arith)
        done

    stored : (a x : ℕ) → IsDone s (ClosedVersion a x) → StoredIn r crew a x
    stored a x done = by_line (ClosedVersion a x) (λ earlier line. Stores r.setting.anchors earlier line a x)
        (λ v d earlier line p h. subst (λ (y : ℕ). Stores r.setting.anchors earlier line a y) p.2
        (subst (λ (b : ℕ). Stores r.setting.anchors earlier line b (version_of d.epoch)) p.1
        (record { writes = (h.grew p.0 (inr p.3)).writes; printed = (h.closed p.0 p.3).stored p.4 })))
        (λ d served p h. ⊎_elim (λ (z : stage_of d.epoch ≡ 4). let y = p.3 in omega arith)
        (λ (z : stage_of d.epoch ≡ 6). let y = p.3 in omega arith) (h.raised p.0))
        done

    halted : (a x : ℕ) → IsDone s (HaltedVersion a x) → HaltedIn r crew a x
    halted a x done = ⊎_elim
        (λ (l : LineIn crew (λ earlier line. Halts r.setting.anchors earlier line a x)). inl l)
        (λ (l : AtEnd (λ served. IsWriting r.setting.anchors served a x)).
        inr (record { j = l.j; worker = l.worker; at = l.at; writing = l.so }))
        (by_cause (HaltedVersion a x) (λ earlier line. Halts r.setting.anchors earlier line a x)
        (λ served. IsWriting r.setting.anchors served a x)
        (λ v d earlier line p h. subst (λ (y : ℕ). Halts r.setting.anchors earlier line a y) p.2
        (subst (λ (b : ℕ). Halts r.setting.anchors earlier line b (version_of d.epoch)) p.1 (h.halted p.0 p.3)))
        (λ d served p h. subst (λ (y : ℕ). IsWriting r.setting.anchors served a y) p.2
        (subst (λ (b : ℕ). IsWriting r.setting.anchors served b (version_of d.epoch)) p.1 (h.halted p.0 p.3)))
        done)

    purged : (a x : ℕ) → IsDone s (DoomedVersion a x) → PurgedIn r crew a x
    purged a x done = by_line (DoomedVersion a x) (λ earlier line. PurgesVersion r.setting.anchors line a x ⊎ WipesInVain r.setting.anchors line a)
        (λ v d earlier line q h. ⊎_elim
        (λ (p : Purges r.setting.anchors line d.anchor d.epoch). inl (record { epoch = d.epoch; purges = subst (λ (b : ℕ). Purges r.setting.anchors line b d.epoch) q.1 p; version_is = q.2 }))
        (λ (p : WipesInVain r.setting.anchors line d.anchor). inr (subst (λ (b : ℕ). WipesInVain r.setting.anchors line b) q.1 p))
        (h.doomed q.0))
        (λ d served q h. h.doomed q.0)
        done

    -- The epoch that stands at an anchor.
    module _ (a : ℕ) (lt : a < r.setting.anchors) where
      stands_there : IsEpochAt r.setting s a (epoch_of (word s a))
      stands_there = inl (lt, refl)

      old_one : version_of (epoch_of (word s a)) ≤ opening_counter r.setting
          → (version_of (epoch_of (word s a)) ≡ version_of (opening_epoch r.setting a))
          × ((stage_of (epoch_of (word s a)) ≡ stage_of (opening_epoch r.setting a))
          ⊎ ((5 ≤ stage_of (epoch_of (word s a))) × HadEntry r a))
      old_one low = let o = known_old r.setting s sound a (epoch_of (word s a)) stands_there low in (o.version, o.stage)

      -- what was evicted from an idle word was whole
      whole : 6 ≡ stage_of (epoch_of (word s a)) → IsDone s (EvictedVersion a (version_of (epoch_of (word s a))))
          → WasWhole r crew a (version_of (epoch_of (word s a)))
      whole six h = ⊎_elim
          (λ (low : version_of (epoch_of (word s a)) ≤ opening_counter r.setting). let o = old_one low in inr (had o.1, o.0))
          (λ (high : opening_counter r.setting < version_of (epoch_of (word s a))).
          inl (stored a (version_of (epoch_of (word s a))) (known_evicted r.setting s sound a
          (version_of (epoch_of (word s a))) high h)))
          (not_above (version_of (epoch_of (word s a))) (opening_counter r.setting))
        where
          had : (stage_of (epoch_of (word s a)) ≡ stage_of (opening_epoch r.setting a))
              ⊎ ((5 ≤ stage_of (epoch_of (word s a))) × HadEntry r a) → HadEntry r a
          had (inl q) = ⊎_elim (λ (z : stage_of (opening_epoch r.setting a) ≡ 0). absurd (omega arith))
              (λ (z : stage_of (opening_epoch r.setting a) ≡ 3). z) (sound.anchors.setting.stage a lt)
          had (inr q) = q.1

      -- a line evicted it, in a run that does not fit
      evicting : IsDone s (EvictedVersion a (version_of (epoch_of (word s a)))) → LineIn crew (λ earlier line. Evicts r line)
      evicting h = by_line (EvictedVersion a (version_of (epoch_of (word s a)))) (λ earlier line. Evicts r line)
          (λ v d earlier line q o. o.evicted q.0 q.3 q.4)
          (λ d served q o. absurd (let f = sym q.4 ∙ (o.changed q.0).1 in cc))
          h

      left_by : stage_of (epoch_of (word s a)) ≡ 6 → doom_of (epoch_of (word s a)) ≡ 0
          → IsDone s (HaltedVersion a (version_of (epoch_of (word s a)))) ⊎ IsDone s (EvictedVersion a (version_of (epoch_of (word s a))))
      left_by six undoomed = sound.anchors.deeds.undoomed a (epoch_of (word s a)) stands_there undoomed (omega arith)

      gone : stage_of (epoch_of (word s a)) ≡ 6 → doom_of (epoch_of (word s a)) ≡ 0
          → GivenBackIn r crew a (version_of (epoch_of (word s a)))
      gone six undoomed = ⊎_elim
          (λ (h : IsDone s (HaltedVersion a (version_of (epoch_of (word s a))))). inl (halted a (version_of (epoch_of (word s a))) h))
          (λ (h : IsDone s (EvictedVersion a (version_of (epoch_of (word s a))))).
          inr (gave_way r crew a (version_of (epoch_of (word s a))) (evicting h) (whole (sym six) h)))
          (left_by six undoomed)

      -- in a run that fits it is none of the opening
      gone_new : IsTrue r.fits → stage_of (epoch_of (word s a)) ≡ 6 → doom_of (epoch_of (word s a)) ≡ 0
          → opening_counter r.setting < version_of (epoch_of (word s a))
      gone_new fit six undoomed = ⊎_elim
          (λ (h : IsDone s (HaltedVersion a (version_of (epoch_of (word s a))))).
          halted_new r.setting s sound a (version_of (epoch_of (word s a))) lt h)
          (λ (h : IsDone s (EvictedVersion a (version_of (epoch_of (word s a))))).
          absurd (let f : true ≡ false = sym fit ∙ (evicting h).so.wants in cc))
          (left_by six undoomed)

    pub last_words : AreLastWords r crew (word s)
    last_words = record {
      finished = c.finished;
      latest = λ a f p.
          let w = c.stands p.j p.worker p.at in
          let seen = ((c.accounts p.j p.worker p.at).lines p.later p.earlier p.served p.split).shown a f p.so in
          let lt = sound.anchors.seen.inside w.0 (view_at p.j) w.1 (Stood a f) seen in
          let below = seen_below a f (view_at p.j).seen seen in
          let most = sound.anchors.seen.epochs w.0 (view_at p.j) w.1 a lt in
          omega arith;
      leads = λ a f p same.
          let w = c.stands p.j p.worker p.at in
          let seen = ((c.accounts p.j p.worker p.at).lines p.later p.earlier p.served p.split).shown a f p.so in
          sound.sights.stages w.0 (view_at p.j) w.1 a f (sound.anchors.seen.inside w.0 (view_at p.j) w.1 (Stood a f) seen) seen same;
      old = λ a lt low. old_one a lt low;
      new = λ a lt high. begun a (version_of (epoch_of (word s a)))
          (known_taken r.setting s sound a (epoch_of (word s a)) (stands_there a lt) high);
      stored = λ a lt high three. stored a (version_of (epoch_of (word s a)))
          (known_closed r.setting s sound a (epoch_of (word s a)) (stands_there a lt) high three ((c.finished a lt).closed three));
      purged = λ a lt doom. purged a (version_of (epoch_of (word s a)))
          (sound.anchors.deeds.doomed a (epoch_of (word s a)) (stands_there a lt) doom);
      given_back = λ a lt six undoomed. gone a lt six undoomed;
      given_back_new = λ fit a lt six undoomed. gone_new a lt fit six undoomed;
    }

-- The crew that explains a run stands in the last state of its store.
module _ {C St : Type 0} (volume_tells told : Bool) (state : C → CellState) (faults : St → ℕ) (files left : Files) (name : List ℕ)
    (slot anchors workers : ℕ) (script : List Line) (answers : List (List (ℕ × Answer)))
    (before after : Counts) (h : HasRun volume_tells told state files left name slot anchors workers script faults answers before after)
    (laws : Laws volume_tells told state faults files left name slot anchors workers script answers before after h) where
  abbrev g : Ground (List ℕ)
  g = basis told state offers_of h.closed.store

  abbrev run : Run (List ℕ)
  run = run_of g told laws.past.past

  abbrev accounts : List (PlayedBy (OnShelf C (List Line) St))
  accounts = h.served.played.accounts

  abbrev closing : HasClosing {C = C} {O = List Line} {St = St} run script accounts
  closing = laws.closes laws.past.past laws.past.told

  abbrev crew : List Worker
  crew = crew_of closing.courses

  abbrev views : List (View (List ℕ))
  views = views_of h.closed.left

  abbrev last : State (List ℕ)
  last = h.closed.closed.gathered.state

  abbrev IsFor : ℕ → PlayedBy (OnShelf C (List Line) St) → Played (List ℕ) → Type 0
  IsFor j account course = IsCourseFor {C = C} {O = List Line} {St = St} run script j account course

  as_many_views : length accounts ≡ length views
  as_many_views =
      sym (length-map accounts (λ (a : PlayedBy (OnShelf C (List Line) St)). a.end.pass)) ∙ ap length h.served.played.passes_left_are
      ∙ sym (length-map h.closed.left (λ (p : Pass C). view p))

  -- a worker of the crew, with its account and the view with which its pass was left
  record HasView (j : ℕ) (w : Worker) : Type 0 where
    account : PlayedBy (OnShelf C (List Line) St)
    at : get_elem? views j ≡ some (view account.end.pass)
    view_is : closing.closed.view_at j ≡ view account.end.pass

  has_view : (j : ℕ) (w : Worker) → get_elem? crew j ≡ some w → HasView j w
  has_view j w e =
      let i = image worker_of closing.courses j w e in
      let a = beside accounts closing.courses j i.item (sym closing.count) i.at in
      let course : IsFor j a.item i.item = closing.each j a.item i.item a.at i.at in
      record {
        account = a.item;
        at = view_there volume_tells told state faults files left name slot anchors workers script answers before after h j a.item a.at;
        view_is = closing.views j i.item i.at ∙ course.ends;
      }

  -- the worker at a place of the row of passes
  at_pass : (j i : ℕ) (u : View (List ℕ)) → j < length views → h.closed.closed.gathered.index j ≡ i → get_elem? last.views i ≡ some u
      → HasWorker run crew closing.closed.view_at last h.closed.closed.gathered.rule.sound u
  at_pass j i u lt same at =
      let a = beside accounts views j (get_or views j u) as_many_views (at_index views j (get_or views j u) u lt refl) in
      let p = beside closing.courses accounts j a.item closing.count a.at in
      let course : IsFor j a.item p.item = closing.each j a.item p.item a.at p.at in
      let there = h.closed.closed.gathered.at j (view a.item.end.pass)
      (view_there volume_tells told state faults files left name slot anchors workers script answers before after h j a.item a.at) in
      record {
        j = j;
        worker = worker_of p.item;
        at = map_at worker_of closing.courses j p.item p.at;
        view_is = closing.views j p.item p.at ∙ course.ends ∙ some-injective (view a.item.end.pass) u
            (sym there ∙ ap (get_elem? last.views) same ∙ at);
      }

  stand_in : ((a : ℕ) → a < g.setting.anchors → IsFinished (word last a))
      → StandIn run crew closing.closed.view_at last h.closed.closed.gathered.rule.sound
  stand_in finished = record {
    stands = λ j w e. let v = has_view j w e in (
      h.closed.closed.gathered.index j,
      h.closed.closed.gathered.at j (view v.account.end.pass) v.at ∙ ap some (sym v.view_is),
    );
    worker = λ i u at tabs. ⊎_elim
        (λ (q : (j : ℕ) × (j < length views) × (h.closed.closed.gathered.index j ≡ i)). at_pass q.0 i u q.1 q.2 at)
        (λ (q : u.tabs ≡ []). absurd (tabs q))
        (h.closed.closed.others i u at);
    accounts = closing.closed.accounts;
    finished = finished;
  }

  -- so its lines explain the last words
  pub words_are : ((a : ℕ) → a < g.setting.anchors → IsFinished (word last a))
      → AreLastWords (explained volume_tells told state faults files left name slot anchors workers script answers before after h laws).run
      (explained volume_tells told state faults files left name slot anchors workers script answers before after h laws).crew (word last)
  unfolding explained
  words_are finished = last_words run crew closing.closed.view_at last h.closed.closed.gathered.rule.sound (stand_in finished)
