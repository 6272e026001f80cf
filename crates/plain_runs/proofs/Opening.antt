-- An entry is opened, read on and closed as by the plain store, on a tab.
use Rattle.std.proofs.Common.{Bool, List, None, Option, Some, ap, arith, false, get_or, get_or-set_other, get_or-set_same, inl, inr, length, length-set, refl, subst, sym, true, ⊎_elim, ◌<◌, ◌∙◌, ◌≡◌, ◌≤◌, ℕ}
use Rattle.std.specs.Prelude.{Err, IfErr, IfOk, IsTrue, Ok, OnErr, Result, not}
use Rattle.std.proofs.lemmas.Bool.{cases_lt, false≢true}
use Rattle.std.proofs.lemmas.List.{get_or_past}
use Rattle.lock_word.specs.declared.epoch.Epoch.{Epoch}
use Rattle.lock_word.specs.declared.cause.Cause.{Cause}
use Rattle.rock_disk.specs.Cell.{CellState}
use Rattle.script_text.specs.declared.answer.Answer.{Answer}
use Rattle.script_text.specs.declared.answer.Answer.TheVariants as answer
use Rattle.store_key.specs.Key.{key_of}
use Rattle.core_model.specs.AnchorMoves.{entered}
use Rattle.core_model.specs.Tabs as core
use Rattle.core_model.specs.Tabs.{InnerIsFree, IsPass, inner}
use Rattle.core_model.specs.declared.moves.Move.TheVariants.{Enter, LoadSide}
use Rattle.core_model.specs.declared.moves.Side.TheVariants.{Offer}
use Rattle.core_model.specs.declared.tab.Tab as core_tab
use Rattle.core_model.specs.declared.view.View.{View}
use Rattle.plain_model.specs.declared.entry.Entry.{Entry}
use Rattle.plain_model.specs.declared.store.Plain.{Plain}
use Rattle.plain_model.specs.declared.store.Tab.{Tab}
use Rattle.plain_model.specs.declared.store.Tab.TheVariants.{Free, Reading, Writing}
use Rattle.plain_model.specs.Reading.{close, has_url, judge, more, open_at, open_tab}
use Rattle.plain_model.specs.Store.{entry_at, is_left_over_at, place_at, tab_at, with_tab}
use Rattle.plain_model.specs.Writing.{Step, settle, step}
use Rattle.plain_laws.specs.Renaming.{renamed, renamed_cause}
use Rattle.plain_laws.proofs.ReadingRoomed.{close_is}
use Rattle.store_rule.specs.declared.store.Pass.{Pass}
use Rattle.store_rule.specs.declared.store.Store.{Store}
use Rattle.store_rule.specs.Ground.{Ground, Offers, anchor_for}
use Rattle.store_rule.specs.Passes.{basis, view}
use Rattle.store_rule.specs.Told.{Steps}
use Rattle.store_rule.proofs.Passing.{pass_of}
use Rattle.slice_chain.specs.Victims.{hand_in}
use Rattle.rock_reader.specs.Closing.{Parted}
use Rattle.rock_reader.specs.Opening.{Came, OpenedEntry, Refused}
use Rattle.rock_reader.specs.Reading.{ReadsAs, Standing, newly}
use Rattle.rock_reader.specs.Responses.{HoldsFile}
use Rattle.rock_reader.proofs.Coming.{came_tabs, key_tabs}
use Rattle.store_serve.specs.Answers.{answer_to_open, is_fault}
use Rattle.store_serve.specs.Reading.{Closes, Opens, ReadsOn}
use Rattle.store_serve.specs.Tabs.{IsFree}
use Rattle.worker_shelf.specs.Typed.{IsTyped, TellsKey}
use Rattle.crew_accounts.proofs.GivenBytes.{IsFromFront}
use Rattle.plain_runs.specs.Shows.{IsWithin, Shows, ShowsLot, ShowsReading, ShowsTab}
use Rattle.plain_runs.specs.Words.{IsLone, KnowsLot, Lot, no_guests, setting_of, whole_lot}
use Rattle.plain_runs.proofs.AnchorWords.{closed_knows, opened_knows}
use Rattle.plain_runs.proofs.Coming.{HasCome, away_judged, came_knows, entry, entry_there, hit_judged, key_hit, keyed_at, keyed_knows, keyed_pass, keyed_tab, other_judged, retreats, shown, version_same}
use Rattle.plain_runs.proofs.Frames.{knows_same}
use Rattle.plain_runs.proofs.LeftTabs.{guest_at, none_left_over, parts_right, settle_stays}
use Rattle.plain_runs.proofs.Renamed.{IsAs, IsRenamed, own_step, renamed_step}
use Rattle.plain_runs.proofs.OwnAnchors.{OwnsLot, lot_lone, lot_stays, pass_stays}
use Rattle.plain_runs.proofs.QuietSteps.{load_quiet}
use Rattle.plain_runs.proofs.Reading.{ReadRight, more_hand, more_reads, no_fault, read_offer, went_right}
use Rattle.plain_runs.proofs.ShowingOthers.{OneBegins, ShowsOn, within_free}

module _ {C O : Type 0} (tells : Bool) (state : C → CellState) (offers : O → Offers) (s : Store C O) (rename : ℕ → ℕ) (lot : Lot) where
  abbrev g : Ground (List ℕ)
  g = basis tells state offers s

  -- Between two lines no tab is the last user of an entry, so none is left over.
  module _ (p : Pass C) (pl : Plain) (owns : OwnsLot g lot (view p).pass) (h : ShowsLot tells state offers s rename p pl lot) where
    no_last_below : (t b : ℕ) (x : Tab) → ShowsTab tells state offers s rename p pl t x → core.tab_at (view p) t ≡ core_tab.Tab.Last b → ⊥
    no_last_below t b Free is e = let z = sym is ∙ e in cc
    no_last_below t b (Writing a) is e = let z = sym is.writes.rests.is ∙ e in cc
    no_last_below t b (Reading a given other) is e = let z = sym is.reads.is ∙ e in cc

    no_last : (t b : ℕ) → lot.anchors b ≡ true → core.tab_at (view p) t ≡ core_tab.Tab.Last b → ⊥
    no_last t b ours e = ⊎_elim {C = ⊥}
        (λ (below : t < 8). in_lot below (lot.tabs t) refl)
        (λ (above : 8 ≤ t). ⊎_elim {C = ⊥}
        (λ (behind : 8 < t). let z : ◌≡◌ {A = core_tab.Tab (List ℕ)} core_tab.Tab.Free (core_tab.Tab.Last b) = sym (get_or_past (view p).tabs t core_tab.Tab.Free (let nine = pass_of p in omega arith)) ∙ e in cc)
        (λ (low : t ≤ 8). false≢true (sym (ap core.is_free (ap (core.tab_at (view p)) (let z : t ≡ inner = omega arith in sym z) ∙ e)) ∙ h.inner_free))
        (cases_lt 8 t))
        (cases_lt t 8)
      where
        at_last : (x : core_tab.Tab (List ℕ)) → x ≡ core_tab.Tab.Last b → (core.is_free x ≡ false → lot.anchors (core.anchor_of x) ≡ false) → ⊥
        at_last x is away = let z = subst (λ (y : core_tab.Tab (List ℕ)). core.is_free y ≡ false → lot.anchors (core.anchor_of y) ≡ false) is away in
            false≢true (sym (z refl) ∙ ours)

        -- one of the lot is shown, and any other is elsewhere
        in_lot : t < 8 → (mine : Bool) → lot.tabs t ≡ mine → ⊥
        in_lot below true mine = no_last_below t b (tab_at pl t) (h.tabs t below mine) e
        in_lot below false other = at_last (core.tab_at (view p) t) e (h.away t below other).1

    pub settled : (a : ℕ) → a < g.setting.anchors → lot.anchors a ≡ true → settle a pl ≡ pl
    settled a lt ours = settle_stays pl a (none_left_over g rename (view p) pl a (owns a lt ours) h.eight h.own.stands (pass_of p) (λ t. no_last t a ours) lt ours h.knows)

  -- A tab comes to an anchor, and the inner one stays free.
  came_long : (v w : View (List ℕ)) (t a n : ℕ) → Steps g v (Enter t a) n w → IsPass w
  came_long v w t a n st = ap length (came_tabs g v w t a n st) ∙ length-set v.tabs t _ ∙ st.may.pass

  came_inner : (v w : View (List ℕ)) (t a n : ℕ) → t < inner → InnerIsFree v → Steps g v (Enter t a) n w → InnerIsFree w
  came_inner v w t a n below free st = ap (λ (xs : List (core_tab.Tab (List ℕ))). core.is_free (get_or xs inner core_tab.Tab.Free)) (came_tabs g v w t a n st)
      ∙ ap core.is_free (get_or-set_other v.tabs t inner _ core_tab.Tab.Free (λ e. let b = below in omega arith)) ∙ free

  -- Where there is nothing to read for a URL the plain store judges so, and knows no more.
  pub record MissRight (a : ℕ) (wanted : List ℕ) (c : Cause) (pl : Plain) (w : View (List ℕ)) : Type 0 where
    pub cause : Cause
    pub judged : judge (setting_of g) pl a wanted ≡ Some cause
    pub cause_is : c ≡ renamed_cause rename cause
    pub knows : KnowsLot g rename lot w pl no_guests

  -- A tab comes to the anchor of a URL, which is one of the lot.
  module _ (t : ℕ) (url : List ℕ) (p : Pass C) (pl : Plain) (owns : OwnsLot g lot (view p).pass) (h : ShowsLot tells state offers s rename p pl lot) (ours : lot.anchors (anchor_for g url) ≡ true) (below : t < 8) where
    abbrev a : ℕ
    a = anchor_for g url

    low : t < inner
    low = omega arith

    abbrev come : (epoch : Epoch) (entered w : View (List ℕ)) → Came g t url (view p) epoch entered w → HasCome g rename t a
    come epoch entered w c = record { store = pl; eight = h.eight; before = view p; own = owns (anchor_for (basis tells state offers s) url) c.enter.may.allowed.0 ours; lot = lot; ours = ours; knows = h.knows; found = c.found; came = entered; enter = c.enter; epoch = epoch; epoch_is = c.epoch_is }

    pub refused_right : (w : View (List ℕ)) (c : Cause) → TellsKey c → Refused g t url (view p) c w → MissRight a (key_of url) c pl w
    refused_right w c typed (inl r) =
        let st = r.came.enter in
        let told = away_judged g rename t a (come r.epoch r.entered w r.came) (key_of url) c r.cause_is in
        let tab = retreats g rename t a (come r.epoch r.entered w r.came) r.unreadable in
        let left = parts_right g rename r.entered w t a pl (lot_stays g lot (view p) r.entered (pass_stays g (view p) r.entered (Enter t a) r.came.found st) owns) h.eight (came_long (view p) r.entered t a r.came.found st) low (came_inner (view p) r.entered t a r.came.found low h.inner_free st)
        (ap core.is_counted tab) (ap core.anchor_of tab) st.may.allowed.0 ours (came_knows g rename t a (come r.epoch r.entered w r.came)) r.parted in
        record { cause = told.0; judged = told.1; cause_is = told.2; knows = subst (λ (x : Plain). KnowsLot g rename lot w x no_guests) (settled p pl owns h a st.may.allowed.0 ours) left.knows }
    refused_right w c typed (inr r) =
        let st = r.came.enter in
        let d = r.declined in
        let told = other_judged g rename t a (come r.epoch r.entered w r.came) r.readable d.key d.keyed d.loaded (key_of url) c typed d.other d.cause_is in
        let tab = keyed_tab g rename t a (come r.epoch r.entered w r.came) r.readable d.key d.keyed d.loaded in
        let tabs = key_tabs g r.entered d.keyed t d.key d.loaded in
        let left = parts_right g rename d.keyed w t a pl (lot_stays g lot (view p) d.keyed (keyed_pass g rename t a (come r.epoch r.entered w r.came) r.readable d.key d.keyed d.loaded) owns) h.eight (ap length tabs ∙ came_long (view p) r.entered t a r.came.found st) low
        (ap (λ (xs : List (core_tab.Tab (List ℕ))). core.is_free (get_or xs inner core_tab.Tab.Free)) tabs ∙ came_inner (view p) r.entered t a r.came.found low h.inner_free st)
        (ap core.is_counted tab) (ap core.anchor_of tab) st.may.allowed.0 ours (keyed_knows g rename t a (come r.epoch r.entered w r.came) r.readable d.key d.keyed d.loaded) d.parted in
        record { cause = told.0; judged = told.1; cause_is = told.2; knows = subst (λ (x : Plain). KnowsLot g rename lot w x no_guests) (settled p pl owns h a st.may.allowed.0 ours) left.knows }

    -- Where there is an entry the plain store opens it too.
    abbrev pub other_url : Bool
    other_url = not (has_url url (entry_at pl (anchor_for (basis tells state offers s) url)))

    abbrev pub opened_store : Plain
    opened_store = with_tab pl t (Reading (anchor_for (basis tells state offers s) url) 0 (not (has_url url (entry_at pl (anchor_for (basis tells state offers s) url)))))

    pub record OpenRight (version offer : ℕ) (q : Pass C) (reading : ReadsAs tells state offers s q t (newly (anchor_for g url) version offer url)) : Type 0 where
      pub judged : judge (setting_of g) pl a (key_of url) ≡ None
      pub version_is : version ≡ rename (place_at pl a).version
      pub knows : KnowsLot g rename lot (view q) opened_store no_guests
      pub tab : ShowsReading tells state offers s rename q opened_store t a 0 other_url
      pub standing : tab.standing ≡ newly (anchor_for g url) version offer url

    module _ (free : tab_at pl t ≡ Free) (q : Pass C) (version : ℕ) (o : OpenedEntry g t url (view p) version (view q)) (offer : ℕ) (reading : ReadsAs tells state offers s q t (newly (anchor_for g url) version offer url)) where
      st : Steps g (view p) (Enter t (anchor_for g url)) o.came.found o.entered
      st = o.came.enter

      within : a < g.setting.anchors
      within = o.came.enter.may.allowed.0

      abbrev x : Entry
      x = entry g rename t a (come o.epoch o.entered (view q) o.came) o.readable

      there : entry_at pl a ≡ Some x
      there = entry_there g rename t a (come o.epoch o.entered (view q) o.came) o.readable

      passed : (view q).pass ≡ (view p).pass
      passed = pass_stays g o.accepted.keyed (view q) (LoadSide t Offer) o.accepted.offer o.accepted.loaded
          ∙ keyed_pass g rename t a (come o.epoch o.entered (view q) o.came) o.readable (key_of url) o.accepted.keyed o.accepted.key

      kept : x.key ≡ key_of url
      kept = key_hit g rename t a (come o.epoch o.entered (view q) o.came) o.readable (key_of url) o.accepted.keyed o.accepted.key url refl

      counted : KnowsLot g rename lot (view q) pl (guest_at a)
      counted = knows_same g rename o.accepted.keyed (view q) pl (guest_at a)
          (keyed_knows g rename t a (come o.epoch o.entered (view q) o.came) o.readable (key_of url) o.accepted.keyed o.accepted.key)
          (load_quiet g (view p).pass a (owns a within ours) t o.accepted.offer Offer o.accepted.keyed (view q)
          (keyed_pass g rename t a (come o.epoch o.entered (view q) o.came) o.readable (key_of url) o.accepted.keyed o.accepted.key)
          (keyed_at g rename t a (come o.epoch o.entered (view q) o.came) o.readable (key_of url) o.accepted.keyed o.accepted.key) o.accepted.loaded)

      version_there : version ≡ rename (place_at pl a).version
      version_there = o.accepted.version_is ∙ version_same g rename t a (come o.epoch o.entered (view q) o.came)

      offer_there : offer ≡ x.offer
      offer_there = read_offer tells state offers s rename t q (newly (anchor_for g url) version offer url) reading (lot_stays g lot (view p) (view q) passed owns (anchor_for g url) within ours)
          ∙ (shown g rename t a (come o.epoch o.entered (view q) o.came) o.readable (view q) (guest_at a) counted).names.offer

      pub opened_right : OpenRight version offer q reading
      opened_right = record {
        judged = hit_judged g rename t a (come o.epoch o.entered (view q) o.came) o.readable (key_of url) o.accepted.keyed o.accepted.key url refl;
        version_is = version_there;
        knows = opened_knows g rename (view q) pl t a 0 other_url h.eight below free counted;
        tab = record {
          inside = within;
          entry = x;
          there = there;
          standing = newly (anchor_for g url) version offer url;
          reads = reading;
          anchor_is = refl;
          version_is = version_there;
          offer_is = offer_there;
          key_is = kept;
          other_is = ap (λ (e : Option Entry). not (has_url url e)) there;
          turned = λ z. absurd (false≢true z);
          unread = λ z was. refl;
          given_is = λ z. refl;
        };
        standing = refl;
      }

    -- A request to open an entry.
    open_free : tab_at pl t ≡ Free → open_tab (setting_of g) t url pl ≡ open_at (setting_of g) t a url pl
    open_free free = rw free refl

    pub opens_right : (given : Answer) (q : Pass C) → tab_at pl t ≡ Free → IsTyped given → q.hand ≡ p.hand → Opens tells state offers s t p given q url → IsRenamed tells state offers s rename lot given q t (open_tab (setting_of g) t url pl)
    opens_right given q free typed hand k = of_outcome k.outcome k.answer_is k.opened k.reads k.refused k.free
      where
        hand_is : hand_in g.setting.anchors q.hand ≡ pl.hand
        hand_is = ap (hand_in g.setting.anchors) hand ∙ h.hand

        is_step : (r : Step) → open_tab (setting_of g) t url pl ≡ r → given ≡ renamed rename r.answer → ShowsOn tells state offers s rename lot q r.after t → IsRenamed tells state offers s rename lot given q t (open_tab (setting_of g) t url pl)
        is_step r e answered shows = renamed_step tells state offers s rename lot given q t (open_tab (setting_of g) t url pl) r e answered shows

        opened_step : judge (setting_of g) pl a (key_of url) ≡ None → open_at (setting_of g) t a url pl ≡ step (answer.Opened (place_at pl a).version) opened_store
        opened_step j = rw j refl

        missed_step : (c : Cause) → judge (setting_of g) pl a (key_of url) ≡ Some c → open_at (setting_of g) t a url pl ≡ step (answer.Miss c) pl
        missed_step c j = rw j refl

        opened_tab : tab_at opened_store t ≡ Reading a 0 other_url
        opened_tab = get_or-set_same pl.tabs t (Reading (anchor_for g url) 0 (not (has_url url (entry_at pl (anchor_for g url))))) Free (let e = h.eight in omega arith)

        of_outcome : (outcome : Result ℕ Cause) → given ≡ answer_to_open outcome → IfOk outcome (λ version. OpenedEntry g t url (view p) version (view q))
            → IfOk outcome (λ version. (offer : ℕ) × ReadsAs tells state offers s q t (newly (anchor_for g url) version offer url)) → IfErr outcome (λ cause. Refused g t url (view p) cause (view q)) → OnErr outcome (IsFree q t) → IsRenamed tells state offers s rename lot given q t (open_tab (setting_of g) t url pl)
        of_outcome (Ok version) is o reading refused freed =
            let r = opened_right free q version o reading.0 reading.1 in
            is_step (step (answer.Opened (place_at pl a).version) opened_store) (open_free free ∙ opened_step r.judged) (is ∙ ap answer.Opened r.version_is)
            record { knows = r.knows; hand = hand_is; tab = subst (ShowsTab tells state offers s rename q opened_store t) (sym opened_tab) r.tab; within = subst (IsWithin lot) (sym opened_tab) ours }
        of_outcome (Err cause) is o reading refused freed =
            let r = refused_right (view q) cause (subst IsTyped is typed) refused in
            is_step (step (answer.Miss r.cause) pl) (open_free free ∙ missed_step r.cause r.judged) (is ∙ ap answer.Miss r.cause_is)
            record { knows = r.knows; hand = hand_is; tab = subst (ShowsTab tells state offers s rename q pl t) (sym free) freed; within = within_free lot (tab_at pl t) free }

  -- A tab that reads parts from its entry.
  module _ (t : ℕ) (p q : Pass C) (pl : Plain) (a given : ℕ) (other : Bool) (eight : length pl.tabs ≡ 8) (below : t < 8) (inner_free : InnerIsFree (view p)) (k : KnowsLot g rename lot (view p) pl no_guests) (at : tab_at pl t ≡ Reading a given other)
      (sh : ShowsReading tells state offers s rename p pl t a given other) (owns : OwnsLot g lot (view p).pass) (ours : lot.anchors a ≡ true) where
    reads_at : core.anchor_of (core.tab_at (view p) t) ≡ a
    reads_at = ap core.anchor_of sh.reads.is ∙ sh.reads.anchor_is ∙ sh.anchor_is

    pub parted_right : Parted g t (view p) (view q) → KnowsLot g rename lot (view q) (settle a (with_tab pl t Free)) no_guests
    parted_right parted = (parts_right g rename (view p) (view q) t a (with_tab pl t Free) owns (length-set pl.tabs t Free ∙ eight) (pass_of p) (omega arith) inner_free (ap core.is_counted sh.reads.is) reads_at sh.inside ours
        (closed_knows g rename (view p) pl t a given other eight below at k) parted).knows

    free_after : tab_at (settle a (with_tab pl t Free)) t ≡ Free
    free_after = of_test (is_left_over_at (with_tab pl t Free) a) refl
      where
        freed : tab_at (with_tab pl t Free) t ≡ Free
        freed = get_or-set_same pl.tabs t Free Free (omega arith)

        of_test : (b : Bool) → is_left_over_at (with_tab pl t Free) a ≡ b → tab_at (settle a (with_tab pl t Free)) t ≡ Free
        of_test true e = rw e freed
        of_test false e = rw e freed

    hand_after : (settle a (with_tab pl t Free)).hand ≡ pl.hand
    hand_after = of_test (is_left_over_at (with_tab pl t Free) a) refl
      where
        of_test : (b : Bool) → is_left_over_at (with_tab pl t Free) a ≡ b → (settle a (with_tab pl t Free)).hand ≡ pl.hand
        of_test true e = rw e refl
        of_test false e = rw e refl

    pub closed_shows : Parted g t (view p) (view q) → IsFree q t → hand_in g.setting.anchors q.hand ≡ pl.hand → ShowsOn tells state offers s rename lot q (close t pl).after t
    closed_shows parted free hand = subst (λ (z : Step). ShowsOn tells state offers s rename lot q z.after t) (sym (close_is t a given other pl at))
        record { knows = parted_right parted; hand = hand ∙ sym hand_after; tab = subst (ShowsTab tells state offers s rename q (settle a (with_tab pl t Free)) t) (sym free_after) free; within = within_free lot (tab_at (settle a (with_tab pl t Free)) t) free_after }

  -- The tab is one of the lot.
  module _ (t a given : ℕ) (other : Bool) (p q : Pass C) (told : Answer) (pl : Plain) (below : t < 8) (owns : OwnsLot g lot (view p).pass) (shows : ShowsLot tells state offers s rename p pl lot) (mine : lot.tabs t ≡ true)
      (at : tab_at pl t ≡ Reading a given other) where
    reading : ShowsReading tells state offers s rename p pl t a given other
    reading = subst (ShowsTab tells state offers s rename p pl t) at (shows.tabs t below mine)

    ours : lot.anchors a ≡ true
    ours = subst (IsWithin lot) at (shows.within t below mine)

    -- A request to close the entry that a tab reads.
    pub closes_right : q.hand ≡ p.hand → Closes tells state offers s t p told q → IsRenamed tells state offers s rename lot told q t (close t pl)
    closes_right hand h = record {
      answered = h.answer_is ∙ ap (λ (z : Step). renamed rename z.answer) (sym (close_is t a given other pl at));
      shows = closed_shows t p q pl a given other shows.eight below shows.inner_free shows.knows at reading owns ours h.parted h.free (ap (hand_in g.setting.anchors) hand ∙ shows.hand);
    }

    -- A request to read on.
    pub mores_right : OneBegins → IsTrue tells → HoldsFile g → IsFromFront → g.slot < 4294967296 → is_fault told ≡ false → q.hand ≡ p.hand
        → ((e : Standing) → ReadsAs tells state offers s p t e → ReadsOn tells state offers s t p told q e) → IsRenamed tells state offers s rename lot told q t (more (setting_of g) t pl)
    mores_right begins known file from sized fair hand h = record {
      answered = right.answer told on.answer_is;
      shows = record {
        knows = right.knows;
        hand = ap (hand_in g.setting.anchors) hand ∙ shows.hand ∙ sym (more_hand (setting_of g) t pl);
        tab = right.tab;
        within = subst (IsWithin lot) (sym still.2) ours;
      };
    }
      where
        on : ReadsOn tells state offers s t p told q reading.standing
        on = h reading.standing reading.reads

        right : ReadRight tells state offers s rename t lot on.why on.bytes q (more (setting_of g) t pl)
        right = went_right tells state offers s rename t begins known file from sized p q pl a given shows.eight below lot shows.knows (owns a reading.inside ours) ours other at reading on.why on.bytes on.went (no_fault on.why on.bytes told on.answer_is fair)

        still : (n : ℕ) × (o : Bool) × (tab_at (more (setting_of g) t pl).after t ≡ Reading a n o)
        still = more_reads (setting_of g) t a given other pl (let e = shows.eight in omega arith) at

-- The requests, where each version stands for itself.
module _ {C O : Type 0} (tells : Bool) (state : C → CellState) (offers : O → Offers) (s : Store C O) (lone : IsLone (basis tells state offers s)) where
  pub opens_as : (t : ℕ) (url : List ℕ) (p q : Pass C) (given : Answer) (plain : Plain) → t < 8 → Shows tells state offers s (λ v. v) p plain → tab_at plain t ≡ Free → IsTyped given → q.hand ≡ p.hand
      → Opens tells state offers s t p given q url → IsAs tells state offers s given q t (open_tab (setting_of (basis tells state offers s)) t url plain)
  opens_as t url p q given plain below shows free typed hand h = own_step tells state offers s given q t _ (opens_right tells state offers s (λ v. v) whole_lot t url p plain (lot_lone (basis tells state offers s) lone whole_lot (view p).pass) shows refl below given q free typed hand h)

  pub closes_as : (t anchor given : ℕ) (other : Bool) (p q : Pass C) (told : Answer) (plain : Plain) → t < 8 → Shows tells state offers s (λ v. v) p plain → tab_at plain t ≡ Reading anchor given other → q.hand ≡ p.hand
      → Closes tells state offers s t p told q → IsAs tells state offers s told q t (close t plain)
  closes_as t anchor given other p q told plain below shows at hand h = own_step tells state offers s told q t _ (closes_right tells state offers s (λ v. v) whole_lot t anchor given other p q told plain below (lot_lone (basis tells state offers s) lone whole_lot (view p).pass) shows refl at hand h)

  pub mores_as : OneBegins → IsTrue tells → HoldsFile (basis tells state offers s) → IsFromFront → (basis tells state offers s).slot < 4294967296 → (t anchor given : ℕ) (other : Bool) (p q : Pass C) (told : Answer) (plain : Plain) → t < 8
      → Shows tells state offers s (λ v. v) p plain → tab_at plain t ≡ Reading anchor given other → is_fault told ≡ false → q.hand ≡ p.hand
      → ((e : Standing) → ReadsAs tells state offers s p t e → ReadsOn tells state offers s t p told q e) → IsAs tells state offers s told q t (more (setting_of (basis tells state offers s)) t plain)
  mores_as begins known file from sized t anchor given other p q told plain below shows at fair hand h =
      own_step tells state offers s told q t _ (mores_right tells state offers s (λ v. v) whole_lot t anchor given other p q told plain below (lot_lone (basis tells state offers s) lone whole_lot (view p).pass) shows refl at begins known file from sized fair hand h)
