-- A line at other anchors, on other tabs, leaves what a pass shows of a lot.
use Rattle.std.proofs.Common.{Bool, List, Some, ap, arith, false, get_or, inl, inr, refl, subst, sym, true, ◌<◌, ◌∙◌, ◌≡◌, ◌≢◌, ◌⊎◌, ℕ}
use Rattle.std.specs.Prelude.{Err, IfErr, IfOk, Ok, Result}
use Rattle.std.proofs.lemmas.Bool.{false≢true}
use mathlib.Core.Logic.{dite}
use native.Mathlib.Decide.{ℕ_discrete}
use Rattle.lock_word.specs.declared.cause.Cause.{Cause}
use Rattle.lock_word.specs.declared.epoch.Epoch.{Epoch}
use Rattle.rock_disk.specs.Cell.{CellState}
use Rattle.script_text.specs.Tabs.{UsesTab}
use Rattle.script_text.specs.declared.answer.Answer.{Answer}
use Rattle.script_text.specs.declared.request.Request.{Request}
use Rattle.script_text.specs.declared.request.Request.TheVariants.{Add, Await, Begin, CloseTab, DropTab, End, Get, Mark, More, OpenTab, Purge, Put, Save, Wipe}
use Rattle.core_model.specs.Tabs as core
use Rattle.core_model.specs.declared.tab.Tab as core_tab
use Rattle.core_model.specs.declared.tab.Tab.TheVariants as tab
use Rattle.plain_model.specs.declared.entry.Entry.{Entry as PlainEntry}
use Rattle.plain_model.specs.declared.store.Plain.{Plain}
use Rattle.plain_model.specs.declared.store.Tab.{Tab}
use Rattle.plain_model.specs.declared.store.Tab.TheVariants.{Free, Reading, Writing}
use Rattle.plain_model.specs.Store.{entry_at, place_at, tab_at}
use Rattle.store_rule.specs.declared.store.Pass.{Pass}
use Rattle.store_rule.specs.declared.store.Store.{Store}
use Rattle.store_rule.specs.Ground.{Ground, Offers, anchor_for, fits}
use Rattle.store_rule.specs.Passes.{basis, view}
use Rattle.store_rule.proofs.Passing.{pass_of}
use Rattle.slice_chain.specs.Victims.{hand_in}
use Rattle.purge_entry.specs.Wiping.{FaultTells, WipedTells}
use Rattle.purge_entry.specs.declared.wiping.Wiped.{Wiped}
use Rattle.purge_entry.specs.declared.wiping.Wiped.TheVariants.{Gone, Later}
use Rattle.purge_entry.specs.declared.wiping.WipeFault.{WipeFault}
use Rattle.purge_entry.specs.declared.wiping.WipeFault.TheVariants.{Fault, NoEntry}
use Rattle.rock_reader.specs.Opening.{OpenedEntry, Refused}
use Rattle.rock_writer.specs.Beginning.{Began, NotTaken}
use Rattle.rock_writer.specs.Entries.{Entry, WritesAs}
use Rattle.rock_writer.specs.declared.fault.BeginFault.{BeginFault}
use Rattle.rock_writer.specs.declared.fault.Ended.{Ended}
use Rattle.rock_writer.specs.declared.fault.WriteFault.{WriteFault}
use Rattle.purge_entry.specs.Purging.{Purged}
use Rattle.rock_reader.specs.Reading.{ReadsAs, Standing}
use Rattle.store_serve.specs.Adding.{Added, NotAdded}
use Rattle.store_serve.specs.Storing.{EndedWhole, NotEnded, NotPut, PutWhole, StaysUnlessBegun}
use Rattle.store_serve.specs.Reading.{Closes, Opens, ReadsOn}
use Rattle.store_serve.specs.Serving.{ServesRequest, offer_of}
use Rattle.store_serve.specs.Tabs.{IsFree, IsMet, IsReading, IsTurnedAway, IsWriting, Leaves}
use Rattle.store_serve.specs.Whole.{Gets, Purges, Puts, Wipes, whole_tab}
use Rattle.store_serve.specs.Writing.{AddsTo, Begins, Drops, EndsEntry}
use Rattle.store_serve.specs.declared.storing.PutFault.{PutFault}
use Rattle.store_serve.specs.declared.storing.PutFault.TheVariants.{Begin as NotBegun, Write as NotWritten}
use Rattle.worker_shelf.proofs.Holding.{Stays}
use Rattle.plain_runs.specs.Elsewhere.{IsElse, IsOutside}
use Rattle.plain_runs.specs.Shows.{IsElsewhere, IsWithin, ShowsLot, ShowsTab}
use Rattle.plain_runs.specs.Words.{IsOfOffer, KnowsLot, Lot, ShowsEntryIf, no_guests}
use Rattle.plain_runs.proofs.AwayReaders as reading
use Rattle.plain_runs.proofs.AwayServing.{added, ended, gave_up, got, not_added, not_ended, put, went_on}
use Rattle.plain_runs.proofs.AwaySteps.{Holds}
use Rattle.plain_runs.proofs.AwayTabs.{IsAtSuch}
use Rattle.plain_runs.proofs.AwayWriters.{began, halts, not_taken}
use Rattle.plain_runs.proofs.OwnAnchors.{OwnsLot, lot_stays}
use Rattle.plain_runs.proofs.ShowingOthers.{OneBegins, reading_shows, writing_shows}

-- a tab is free or elsewhere, in either way of saying it
such_of : (lot : Lot) (x : core_tab.Tab (List ℕ)) → (core.is_free x ≡ false → lot.anchors (core.anchor_of x) ≡ false)
    → IsAtSuch (IsOutside lot) x
such_of lot tab.Free h = tt
such_of lot (tab.Retreating a) h = h refl
such_of lot (tab.Reading r) h = h refl
such_of lot (tab.Writing w) h = h refl
such_of lot (tab.Last a) h = h refl
such_of lot (tab.Freeing f) h = h refl

of_such : (lot : Lot) (x : core_tab.Tab (List ℕ)) → IsAtSuch (IsOutside lot) x → core.is_free x ≡ false
    → lot.anchors (core.anchor_of x) ≡ false
of_such lot tab.Free h used = absurd (false≢true (sym used))
of_such lot (tab.Retreating a) h used = h
of_such lot (tab.Reading r) h used = h
of_such lot (tab.Writing w) h used = h
of_such lot (tab.Last a) h used = h
of_such lot (tab.Freeing f) h used = h

such_free : (lot : Lot) (x : core_tab.Tab (List ℕ)) → core.is_free x ≡ true → IsAtSuch (IsOutside lot) x
such_free lot x is = such_of lot x (λ used. absurd (false≢true (sym used ∙ is)))

module _ {C O : Type 0} (tells : Bool) (state : C → CellState) (offers : O → Offers) (s : Store C O) (begins : OneBegins)
    (stays : Stays tells state offers s) (rename : ℕ → ℕ) (lot : Lot)
    (from to : Pass C) (plain : Plain) (owns : OwnsLot (basis tells state offers s) lot (view from).pass)
    (shows : ShowsLot tells state offers s rename from plain lot)
    (apart : lot.counter ≡ false) (fits_is : fits (basis tells state offers s) ≡ true) where
  abbrev g : Ground (List ℕ)
  g = basis tells state offers s

  abbrev Before : ℕ → Type 0
  Before t = Holds (basis tells state offers s) rename lot t plain shows.eight apart (view from)

  abbrev After : ℕ → Type 0
  After t = Holds (basis tells state offers s) rename lot t plain shows.eight apart (view to)

  abbrev IsSuch : Pass C → ℕ → Type 0
  IsSuch pass t = IsAtSuch (IsOutside lot) (core.tab_at (view pass) t)

  within : IsSuch from core.inner
  within = such_free lot (core.tab_at (view from) core.inner) shows.inner_free

  start : (t : ℕ) → IsSuch from t → Before t
  start t h = record { owns = owns; knows = shows.knows; tabs = record { nine = pass_of from; tab = h; within = within } }

  elsewhere : (t : ℕ) → t < 8 → lot.tabs t ≡ false → IsSuch from t
  elsewhere t lt off = such_of lot (core.tab_at (view from) t) (shows.away t lt off).1

  old : (a : ℕ) (e : PlainEntry) → a < g.setting.anchors → lot.anchors a ≡ true → entry_at plain a ≡ Some e → IsOfOffer g a e
  old a e lt ours is = (subst (ShowsEntryIf g (view from) a (place_at plain a).version) is (shows.knows.each a lt ours).entry).offer

  -- What is shown once a request on this tab was served elsewhere: the tab is none of the lot, or it is one that is free before and after.
  module _ (t : ℕ) (leaves : Leaves tells state offers s t from to) (hand : to.hand ≡ from.hand)
      (knows : KnowsLot (basis tells state offers s) rename lot (view to) plain no_guests)
      (outside : lot.tabs t ≡ false → IsSuch to t) (inside : lot.tabs t ≡ true → (tab_at plain t ≡ Free) × IsFree to t) where
    still : (j : ℕ) → j ≢ t → j < 8 → core.tab_at (view to) j ≡ core.tab_at (view from) j
    still j ne lt = leaves.others j ne (λ e. let z = e in omega arith)

    other : (j : ℕ) → j ≢ t → j < 8 → (x : Tab) → IsWithin lot x → ShowsTab tells state offers s rename from plain j x
        → ShowsTab tells state offers s rename to plain j x
    other j ne lt Free here shown = still j ne lt ∙ shown
    other j ne lt (Writing a) here shown = writing_shows tells state offers s rename begins stays lot to plain leaves.own knows shows.eight
        from plain t leaves old j a ne shown refl refl
    other j ne lt (Reading a given is_other) here shown = reading_shows tells state offers s rename begins stays lot to plain leaves.own
        knows shows.eight from plain t leaves old j a given is_other
        (lot_stays g lot (view from) (view to) leaves.keeps.pass owns a shown.inside here) here ne shown

    shows_else : ShowsLot tells state offers s rename to plain lot
    shows_else = record {
      own = leaves.own;
      inner_free = leaves.inner_free;
      knows = knows;
      hand = ap (hand_in g.setting.anchors) hand ∙ shows.hand;
      eight = shows.eight;
      tabs = λ j lt mine. dite (ℕ_discrete j t)
          (λ e. subst (λ (n : ℕ). ShowsTab tells state offers s rename to plain n (tab_at plain n)) (sym e)
          (let h = inside (ap lot.tabs (sym e) ∙ mine) in subst (ShowsTab tells state offers s rename to plain t) (sym h.0) h.1))
          (λ ne. other j ne lt (tab_at plain j) (shows.within j lt mine) (shows.tabs j lt mine));
      within = shows.within;
      away = λ j lt off. (
        (shows.away j lt off).0,
        dite (ℕ_discrete j t)
            (λ e. subst (λ (n : ℕ). IsElsewhere tells state offers s rename to plain lot n) (sym e)
            (of_such lot (core.tab_at (view to) t) (outside (ap lot.tabs (sym e) ∙ off))))
            (λ ne. λ used. subst (λ (x : core_tab.Tab (List ℕ)). lot.anchors (core.anchor_of x) ≡ false) (sym (still j ne lt))
            ((shows.away j lt off).1 (ap core.is_free (sym (still j ne lt)) ∙ used))),
      );
    }

  abbrev Shown : Type 0
  Shown = ShowsLot tells state offers s rename to plain lot

  -- a tab that was turned away
  turned : (a : Answer) → IsTurnedAway from a to → Shown
  turned a away = subst (λ (z : Pass C). ShowsLot tells state offers s rename z plain lot) (sym away.still) shows

  -- on another tab
  on_tab : (t : ℕ) → t < whole_tab → lot.tabs t ≡ false → Leaves tells state offers s t from to → to.hand ≡ from.hand → (Before t → After t)
      → Shown
  on_tab t lt off leaves hand goes = let k = goes (start t (elsewhere t (omega arith) off)) in
      shows_else t leaves hand k.knows (λ none. k.tabs.tab) (λ mine. absurd (false≢true (sym off ∙ mine)))

  -- whole requests, where the tab of these is of the lot, and free
  module _ (whole : lot.tabs whole_tab ≡ true) (free : tab_at plain whole_tab ≡ Free) (leaves : (t : ℕ) → t ≡ whole_tab
      → Leaves tells state offers s t from to) where
    on_whole : IsFree to whole_tab → to.hand ≡ from.hand → (Before whole_tab → After whole_tab) → Shown
    on_whole now hand goes = let k = goes (start whole_tab (such_free lot (core.tab_at (view from) whole_tab) (ap core.is_free was))) in
        shows_else whole_tab (leaves whole_tab refl) hand k.knows (λ off. absurd (false≢true (sym off ∙ whole))) (λ mine. (free, now))
      where
        was : IsFree from whole_tab
        was = subst (ShowsTab tells state offers s rename from plain whole_tab) free (shows.tabs whole_tab (omega arith) whole)

    on_inner : (view to).tabs ≡ (view from).tabs → to.hand ≡ from.hand → (Before core.inner → After core.inner) → Shown
    on_inner tabs hand goes = let k = goes (start core.inner within) in
        shows_else whole_tab (leaves whole_tab refl) hand k.knows (λ off. absurd (false≢true (sym off ∙ whole)))
        (λ mine. (
          free,
          ap (λ (z : List (core_tab.Tab (List ℕ))). get_or z whole_tab tab.Free) tabs
              ∙ subst (ShowsTab tells state offers s rename from plain whole_tab) free (shows.tabs whole_tab (omega arith) whole),
        ))

    put_left : (offer : ℕ) (url : List ℕ) (durable : Bool) (a : Answer) → IsOutside lot (anchor_for (basis tells state offers s) url)
        → Puts tells state offers s url from a to offer durable → Shown
    put_left offer url durable a out h = of_outcome h.outcome h.stored h.refused h.stays
      where
        of_outcome : (r : Result Ended PutFault) → IfOk r (λ end. PutWhole tells state offers s whole_tab offer url durable from to end)
            → IfErr r (λ fault. NotPut tells state offers s whole_tab offer url durable from to fault)
            → IfErr r (λ fault. StaysUnlessBegun fault from.hand to.hand) → Shown
        of_outcome (Ok end) stored refused hand = let k = put tells state offers s rename lot whole_tab plain shows.eight apart fits_is
            (omega arith) offer url out durable from to stored in
            on_whole h.free k.1 k.0
        of_outcome (Err (NotBegun fault)) stored refused hand = on_whole h.free hand
            (not_taken g rename lot whole_tab plain shows.eight apart fits_is (omega arith) (anchor_for g url) out (view from) fault
            (view to) refused)
        of_outcome (Err (NotWritten why)) stored refused hand =
            let k = gave_up tells state offers s rename lot whole_tab plain shows.eight apart fits_is
            (omega arith) offer url out durable from to refused in on_whole h.free k.1 k.0

    purge_left : (url : List ℕ) (a : Answer) → IsOutside lot (anchor_for (basis tells state offers s) url)
        → Purges tells state offers s url from a to → Shown
    purge_left url a out h = of_outcome h.outcome h.purged h.refused
      where
        of_outcome : (r : Result Epoch Cause) → IfOk r (λ left. Purged g core.inner url (view from) left (view to))
            → IfErr r (λ cause. Refused g core.inner url (view from) cause (view to)) → Shown
        of_outcome (Ok left) purged refused = on_inner h.same h.stays
            (reading.purged g rename lot core.inner plain shows.eight apart url out purged)
        of_outcome (Err cause) purged refused = on_inner h.same h.stays
            (reading.refused g rename lot core.inner plain shows.eight apart url out (view from) cause (view to) refused)

    wipe_left : (url : List ℕ) (a : Answer) → IsOutside lot (anchor_for (basis tells state offers s) url)
        → Wipes tells state offers s url from a to → Shown
    wipe_left url a out h = on_inner h.same h.stays (of_outcome h.outcome h.wiped h.refused)
      where
        of_outcome : (r : Result Wiped WipeFault) → IfOk r (WipedTells g url (view from) (view to))
            → IfErr r (FaultTells g url (view from) (view to))
            → Before core.inner → After core.inner
        of_outcome (Ok (Gone epoch)) wiped refused = reading.last g rename lot core.inner plain shows.eight apart url out wiped
        of_outcome (Ok (Later epoch)) wiped refused = reading.later g rename lot core.inner plain shows.eight apart url out wiped
        of_outcome (Err (NoEntry cause)) wiped refused = reading.refused g rename lot core.inner plain shows.eight apart url out
            (view from) cause (view to) refused
        of_outcome (Err Fault) wiped refused = reading.last g rename lot core.inner plain shows.eight apart url out refused.1

    get_left : (url : List ℕ) (a : Answer) → IsOutside lot (anchor_for (basis tells state offers s) url)
        → Gets tells state offers s url from a to → Shown
    get_left url a out h = on_whole h.free h.stays
        (got tells state offers s rename lot whole_tab plain shows.eight apart url out from to h.bytes h.got h.went)

  -- requests on another tab
  module _ (t : ℕ) (lt : t < whole_tab) (off : lot.tabs t ≡ false) (leaves : Leaves tells state offers s t from to) (a : Answer) where
    below : t < core.inner
    below = let z = lt in omega arith

    begin_left : (offer : ℕ) (url : List ℕ) → IsOutside lot (anchor_for (basis tells state offers s) url)
        → Begins tells state offers s t from a to offer url → Shown
    begin_left offer url out h = on_tab t lt off leaves h.stays (of_outcome h.outcome h.began h.refused)
      where
        of_outcome : (r : Result ℕ BeginFault) → IfOk r (λ version. Began tells state offers s t offer url false from to version)
            → IfErr r (λ fault. NotTaken g t (anchor_for g url) (view from) fault (view to)) → Before t → After t
        of_outcome (Ok version) started refused = began tells state offers s rename lot t plain shows.eight apart fits_is below out started
        of_outcome (Err fault) started refused = not_taken g rename lot t plain shows.eight apart fits_is below (anchor_for g url) out
            (view from) fault (view to) refused

    open_left : (url : List ℕ) → IsOutside lot (anchor_for (basis tells state offers s) url) → Opens tells state offers s t from a to url
        → Shown
    open_left url out h = on_tab t lt off leaves h.stays (of_outcome h.outcome h.opened h.refused)
      where
        of_outcome : (r : Result ℕ Cause) → IfOk r (λ version. OpenedEntry g t url (view from) version (view to))
            → IfErr r (λ cause. Refused g t url (view from) cause (view to)) → Before t → After t
        of_outcome (Ok version) opened refused = reading.opened g rename lot t plain shows.eight apart url out opened
        of_outcome (Err cause) opened refused = reading.refused g rename lot t plain shows.eight apart url out (view from) cause
            (view to) refused

    add_left : (count : ℕ) (e : Entry) → AddsTo tells state offers s t from a to count e → Shown
    add_left count e h = of_outcome h.outcome h.added h.given_up
      where
        of_outcome : (r : Result ℕ WriteFault) → IfOk r (λ n. Added tells state offers s t e from to n)
            → IfErr r (λ fault. NotAdded tells state offers s t e from to fault) → Shown
        of_outcome (Ok n) taken stopped = let k = added tells state offers s rename lot t plain shows.eight apart fits_is below e from to
            taken in on_tab t lt off leaves k.1 k.0
        of_outcome (Err why) taken stopped = let k = not_added tells state offers s rename lot t plain shows.eight apart fits_is below e
            from to stopped in on_tab t lt off leaves k.1 k.0

    end_left : (e : Entry) → EndsEntry tells state offers s t from a to e → Shown
    end_left e h = of_outcome h.outcome h.ended h.given_up
      where
        of_outcome : (r : Result Ended WriteFault) → IfOk r (λ end. EndedWhole tells state offers s t e from to end)
            → IfErr r (λ fault. NotEnded tells state offers s t e from to fault) → Shown
        of_outcome (Ok end) whole stopped = let k = ended tells state offers s rename lot t plain shows.eight apart fits_is below e from to
            whole in on_tab t lt off leaves k.1 k.0
        of_outcome (Err why) whole stopped = let k = not_ended tells state offers s rename lot t plain shows.eight apart fits_is below e
            from to why stopped in on_tab t lt off leaves k.1 k.0

    pub drop_left : Drops tells state offers s t from a to → Shown
    drop_left h = on_tab t lt off leaves h.stays (halts g rename lot t plain shows.eight apart fits_is below h.halts)

    more_left : (e : Standing) → ReadsOn tells state offers s t from a to e → Shown
    more_left e h = on_tab t lt off leaves h.stays (went_on tells state offers s rename lot t plain shows.eight apart h.went)

    pub close_left : Closes tells state offers s t from a to → Shown
    close_left h = on_tab t lt off leaves h.stays (reading.parted g rename lot t plain shows.eight apart (view from) (view to) h.parted)

    -- where the tab is as the request needs it, and where it is not
    met : (Fits Serves : Type 0) → IsMet Fits Serves from a to → (Fits → Serves → Shown) → Shown
    met Fits Serves h then = of_either h.met
      where
        of_either : (Fits × Serves) ⊎ ((Fits → ⊥) × IsTurnedAway from a to) → Shown
        of_either (inl (fits, serves)) = then fits serves
        of_either (inr (unfit, away)) = turned a away

  pub other_request : (number : ℕ) (a : Answer) (request : Request) → lot.tabs whole_tab ≡ true → tab_at plain whole_tab ≡ Free
      → IsElse tells state offers s lot request
      → ServesRequest tells state offers s number from a to request → ((t : ℕ) → UsesTab request t → Leaves tells state offers s t from to)
      → Shown
  other_request number a (Put url body) whole free out served leaves = put_left whole free leaves
      (offer_of tells state offers s number) url false a out served
  other_request number a (Save url body) whole free out served leaves = put_left whole free leaves
      (offer_of tells state offers s number) url true a out served
  other_request number a (Get url) whole free out served leaves = get_left whole free leaves url a out served
  other_request number a (Purge url) whole free out served leaves = purge_left whole free leaves url a out served
  other_request number a (Wipe url) whole free out served leaves = wipe_left whole free leaves url a out served
  other_request number a (Begin t url body) whole free ((lt, off), out) served leaves = met t lt off (leaves t refl) a
      (IsFree from t) _ served
      (λ fits serves. begin_left t lt off (leaves t refl) a (offer_of tells state offers s number) url out serves)
  other_request number a (OpenTab t url) whole free ((lt, off), out) served leaves = met t lt off (leaves t refl) a (IsFree from t) _ served
      (λ fits serves. open_left t lt off (leaves t refl) a url out serves)
  other_request number a (Add t count) whole free (lt, off) served leaves = met t lt off (leaves t refl) a
      (IsWriting tells state offers s from t) _ served
      (λ writing serves. add_left t lt off (leaves t refl) a count writing.0 (serves writing.0 writing.1))
  other_request number a (End t) whole free (lt, off) served leaves = met t lt off (leaves t refl) a (IsWriting tells state offers s from t)
      ((e : Entry) → WritesAs tells state offers s from t e → EndsEntry tells state offers s t from a to e) served
      (λ writing serves. end_left t lt off (leaves t refl) a writing.0 (serves writing.0 writing.1))
  other_request number a (DropTab t) whole free (lt, off) served leaves = met t lt off (leaves t refl) a
      (IsWriting tells state offers s from t) _ served
      (λ writing serves. drop_left t lt off (leaves t refl) a serves)
  other_request number a (More t) whole free (lt, off) served leaves = met t lt off (leaves t refl) a
      (IsReading tells state offers s from t)
      ((e : Standing) → ReadsAs tells state offers s from t e → ReadsOn tells state offers s t from a to e) served
      (λ reads serves. more_left t lt off (leaves t refl) a reads.0 (serves reads.0 reads.1))
  other_request number a (CloseTab t) whole free (lt, off) served leaves = met t lt off (leaves t refl) a
      (IsReading tells state offers s from t) _ served
      (λ reads serves. close_left t lt off (leaves t refl) a serves)
  other_request number a (Mark mark) whole free out served leaves = absurd served
  other_request number a (Await mark) whole free out served leaves = absurd served
