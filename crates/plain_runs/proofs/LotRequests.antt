-- Requests on a lot of a store that fits, by the pass to which its anchors are left: each is answered as by the plain store, but for versions.
use Rattle.std.proofs.Common.{Bool, Contains, IsTrue, List, None, Option, Some, ap, arith, false, get_or, get_or-set_same, inl, inr, length, refl, set, subst, sym, true, ◌+◌, ◌<◌, ◌∙◌, ◌≡◌, ◌≢◌, ◌≤◌, ◌⊎◌, ℕ}
use Rattle.std.specs.Prelude.{Err, IfErr, IfOk, Ok, OnErr, Result, nat_lt, ◌||◌, ◌↔◌}
use Rattle.std.proofs.lemmas.Bool.{le-ltb}
use Rattle.lock_word.specs.Words.{version_limit}
use Rattle.rock_disk.specs.Cell.{CellState}
use Rattle.store_key.specs.Anchor.{anchor_of}
use Rattle.store_key.specs.Key.{key_of}
use Rattle.script_text.specs.declared.answer.Answer.{Answer}
use Rattle.script_text.specs.declared.answer.Answer.TheVariants as answer
use Rattle.script_text.specs.declared.body.Body.{Body}
use Rattle.core_model.specs.Anchors.{opening_counter}
use Rattle.store_serve.specs.Growing.{GrowsTo}
use Rattle.core_model.specs.declared.view.Item.{Item}
use Rattle.core_model.specs.declared.view.View.{View}
use Rattle.core_alone.specs.Versions.{renamed_from}
use Rattle.plain_model.specs.declared.entry.Entry.{Entry}
use Rattle.plain_model.specs.declared.entry.Life.TheVariants.{Growing}
use Rattle.plain_model.specs.declared.store.Plain.{Plain}
use Rattle.plain_model.specs.declared.store.Setting.{Setting}
use Rattle.plain_model.specs.declared.store.Tab.TheVariants.{Free, Writing}
use Rattle.plain_model.specs.Serving.{bytes_of, put}
use Rattle.plain_model.specs.Store.{entry_at, is_idle_at, is_vacant_at, meta_size, place_at, tab_at}
use Rattle.plain_model.specs.declared.entry.Place.{Place as PlaceOf}
use Rattle.plain_model.specs.Place.{nothing}
use Rattle.entry_cut.specs.Content.{LeavesRoom}
use Rattle.plain_laws.proofs.Keeping.{keeps_end}
use Rattle.plain_model.specs.Writing.{Step, begin, end, entry_of, step, taken_by}
use Rattle.plain_laws.specs.Fitting.{need}
use Rattle.plain_laws.specs.Renaming.{CountsVersions, IsRenaming, renamed}
use Rattle.plain_laws.proofs.Roomed.{InRoom, roomy_sum}
use Rattle.plain_laws.proofs.Running.{taken_room}
use Rattle.rock_writer.specs.Beginning.{Began, IsTooLong, NotTaken, begun as begun_as}
use Rattle.rock_writer.specs.declared.fault.BeginFault.{BeginFault}
use Rattle.rock_writer.specs.declared.fault.BeginFault.TheVariants.{Busy, LongUrl, Spent}
use Rattle.rock_writer.specs.declared.fault.Ended.{Ended}
use Rattle.rw_anchor.specs.Calls.{Drew, SpentAtDraw, SpentAtLook}
use Rattle.slice_chain.specs.Victims.{hand_in}
use Rattle.store_rule.specs.declared.store.Pass.{Pass}
use Rattle.store_rule.specs.declared.store.Store.{Store}
use Rattle.store_rule.specs.Ground.{Ground, Offers, anchor_for, fits}
use Rattle.store_rule.specs.Passes.{basis, view}
use Rattle.store_serve.specs.Answers.{answer_to_begin, answer_to_put, answer_to_refusal, is_fault}
use Rattle.store_serve.specs.Storing.{NotPut, PutWhole, StaysUnlessBegun}
use Rattle.store_serve.specs.Tabs.{IsFree, IsOffered}
use Rattle.store_serve.specs.Whole.{Puts}
use Rattle.store_serve.specs.Writing.{Begins, EndsEntry}
use Rattle.store_serve.specs.declared.storing.PutFault.{PutFault}
use Rattle.store_serve.specs.declared.storing.PutFault.TheVariants.{Begin, Write}
use Rattle.store_serve.proofs.Anchors.{drew}
use Rattle.store_serve.proofs.Grown.{by_step, knows_all, on, same, stays}
use Rattle.store_serve.proofs.Serving.{ended as ended_keeps, not_ended as not_ended_keeps}
use Rattle.store_serve.proofs.Slots.{freed, named}
use Rattle.worker_shelf.specs.Typed.{IsTyped}
use Rattle.plain_runs.specs.Shows.{IsWithin, ShowsLot, ShowsTab}
use Rattle.plain_runs.specs.Words.{KnowsLot, Lot, no_guests, setting_of}
use Rattle.plain_runs.proofs.BeginLines.{IsBegun, NotBegun, SpentRight, begun_tab, is_begun, not_begun, put_ends, put_refused, seen_knows}
use Rattle.plain_runs.proofs.Beginning.{DrewNext}
use Rattle.plain_runs.proofs.Giving.{IsGiven}
use Rattle.plain_runs.proofs.OwnAnchors.{OwnsLot}
use Rattle.plain_runs.proofs.Putting.{given_end, given_refused}
use Rattle.plain_runs.proofs.Renamed.{IsRenamed, renamed_step}
use Rattle.plain_runs.proofs.Renamings.{Agrees, IsNewest, drew_it, drew_named, goes_on, goes_on_agrees, goes_on_next, newest_below, newest_on, not_less, shows_renamed}
use Rattle.plain_runs.proofs.Reserving.{IsAmple, Supply}
use Rattle.plain_runs.proofs.ShowingOthers.{within_free}

-- A lot of a store that fits, of which a pass knows this plain store by these names of versions.
pub record IsFitting (g : Ground (List ℕ)) (lot : Lot) (cap : ℕ → ℕ) (rename : ℕ → ℕ) (v : View (List ℕ)) (p : Plain) : Type 0 where
  pub fits_is : fits g ≡ true
  -- the counter is not the lot's
  pub apart : lot.counter ≡ false
  -- the plain store has slots for all that is written
  pub room : InRoom (setting_of g) cap p
  pub counts : CountsVersions p
  pub is : IsRenaming (opening_counter g.setting) rename
  pub least : opening_counter g.setting ≤ p.counter
  pub newest : IsNewest g rename v p.counter

-- so it has slots for the entry that grows at an anchor
pub ample : (g : Ground (List ℕ)) (cap : ℕ → ℕ) (a : ℕ) (p : Plain) (x : Entry) → fits g ≡ true → InRoom (setting_of g) cap p → entry_at p a ≡ Some x → x.life ≡ Growing → IsAmple g a p
ample g cap a p x fits_is room there grows = record {
  fits_is = fits_is;
  some = room.slots;
  filling = room.room;
  cap = cap a;
  entry = x;
  there = there;
  grows = grows;
  may_hold = roomy_sum (setting_of g) cap a p x room there;
  enough = ((room.fits a).writing x there grows).need;
}

module _ {C O : Type 0} (tells : Bool) (state : C → CellState) (offers : O → Offers) (s : Store C O) (lot : Lot) where
  -- A request is answered as by this step of the plain store, by names that agree with those before on all versions that were given out, and by all
  -- names that agree with them then.
  pub record IsServedSo (rename : ℕ → ℕ) (a : Answer) (q : Pass C) (t : ℕ) (p : Plain) (made : Step) : Type 0 where
    pub names : ℕ → ℕ
    pub agrees : Agrees p.counter rename names
    pub is : IsRenaming (opening_counter (basis tells state offers s).setting) names
    pub served : (other : ℕ → ℕ) → Agrees made.after.counter names other → IsRenamed tells state offers s other lot a q t made
    pub least : p.counter ≤ made.after.counter
    pub newest : IsNewest (basis tells state offers s) names (view q) made.after.counter

  -- One that gives out no version.
  pub still_served : (rename : ℕ → ℕ) (a : Answer) (q : Pass C) (t : ℕ) (p : Plain) (made : Step) (v : View (List ℕ)) → IsRenaming (opening_counter (basis tells state offers s).setting) rename → IsNewest (basis tells state offers s) rename v p.counter
      → GrowsTo v (view q) → made.after.counter ≡ p.counter → ((other : ℕ → ℕ) → Agrees p.counter rename other → IsRenamed tells state offers s other lot a q t made) → IsServedSo rename a q t p made
  still_served rename a q t p made v is newest keeps same served = record {
    names = rename;
    agrees = λ n le. refl;
    is = is;
    served = λ other agrees. served other (λ n le. agrees n (let e = same in omega arith));
    least = let e = same in omega arith;
    newest = subst (IsNewest (basis tells state offers s) rename (view q)) (sym same) (newest_on (basis tells state offers s) rename v (view q) p.counter (knows_all keeps).trail newest);
  }

  module _ (cap : ℕ → ℕ) (rename : ℕ → ℕ) (pass : Pass C) (p : Plain) (owns : OwnsLot (basis tells state offers s) lot (view pass).pass) (shows : ShowsLot tells state offers s rename pass p lot)
      (fit : IsFitting (basis tells state offers s) lot cap rename (view pass) p) (t : ℕ) (free : tab_at p t ≡ Free) (below : t < 8) (offer : ℕ) (url : List ℕ) (body : Body) (offered : IsOffered tells state offers s offer url body)
      (ours : lot.anchors (anchor_for (basis tells state offers s) url) ≡ true) where
    abbrev g : Ground (List ℕ)
    g = basis tells state offers s

    abbrev setting : Setting
    setting = setting_of g

    abbrev a : ℕ
    a = anchor_for g url

    abbrev taken : Plain
    taken = taken_by t (anchor_for (basis tells state offers s) url) (entry_of url (bytes_of body) offer) p

    -- the names once this version was drawn
    abbrev names_from : ℕ → ℕ → ℕ
    names_from version = renamed_from rename p.counter version

    -- An entry was begun with this version.
    module _ (durable : Bool) (q : Pass C) (version : ℕ) (b : Began tells state offers s t offer url durable pass q version) where
      seen_keeps : GrowsTo (view pass) b.took.took.drew.middle
      seen_keeps = on (by_step b.took.took.looks) (by_step b.took.took.drew.look)

      above : rename p.counter < version
      above = let d = b.took.took.drew in let k = newest_below g rename d.middle b.took.took.drawn d.found p.counter (newest_on g rename (view pass) d.middle p.counter (knows_all seen_keeps).trail fit.newest) d.draw in
          let e = d.version_is in omega arith

      pub names_is : IsRenaming (opening_counter g.setting) (names_from version)
      names_is = goes_on (opening_counter g.setting) p.counter version rename fit.is fit.least above

      pub names_agree : Agrees p.counter rename (names_from version)
      names_agree = goes_on_agrees rename p.counter version

      below_limit : p.counter < version_limit
      below_limit = let d = b.took.took.drew in let k = not_less (opening_counter g.setting) rename fit.is p.counter in let a = above in let e = d.version_is in let l = d.left in omega arith

      -- the same by all names that agree with these on what was given out then
      module _ (other : ℕ → ℕ) (agrees : Agrees (p.counter + 1) (names_from version) other) where
        pub shows_so : ShowsLot tells state offers s other pass p lot
        shows_so = shows_renamed tells state offers s rename other pass p fit.counts (λ n le. agrees n (omega arith) ∙ goes_on_agrees rename p.counter version n le) lot shows

        pub drew_so : DrewNext g lot other b.took.took.drawn version p no_guests
        drew_so = drew_named g lot other b.took.took.seen b.took.took.drawn version p no_guests fit.apart below_limit (agrees (p.counter + 1) (omega arith) ∙ goes_on_next rename p.counter version)
            (seen_knows tells state offers s other lot pass p owns shows_so t free below offer url body offered ours durable version q b) b.took.took.drew

        pub begun_so : IsBegun tells state offers s other lot pass p owns shows_so t free below offer url body offered ours version q
        begun_so = is_begun tells state offers s other lot pass p owns shows_so t free below offer url body offered ours durable version q b drew_so

      taken_keeps : GrowsTo b.took.took.drawn b.took.taken
      taken_keeps = by_step b.took.took.takes

      drawn_keeps : GrowsTo b.took.took.drawn (view q)
      drawn_keeps = on taken_keeps (on (cleared b.took.cleared) (named b.named))
        where
          cleared : Rattle.rock_writer.specs.Beginning.WasVacant g t a (view pass) b.n b.took.taken b.middle ⊎ Rattle.rock_writer.specs.Beginning.WasIdle g t a (view pass) b.n b.took.taken b.middle → GrowsTo b.took.taken b.middle
          cleared (inl x) = same x.same
          cleared (inr x) = freed x.freed

      -- the version was drawn, and stays the newest
      pub newest_so : (w : View (List ℕ)) → GrowsTo (view q) w → IsNewest g (names_from version) w (p.counter + 1)
      newest_so w keeps = newest_on g (names_from version) b.took.took.drawn w (p.counter + 1) (knows_all (on drawn_keeps keeps)).trail
          (inr (subst (Rattle.plain_runs.proofs.Renamings.WasDrawn b.took.took.drawn) (sym (goes_on_next rename p.counter version)) (drew_it g b.took.took.seen b.took.took.drawn version b.took.took.drew)))

    begin_free : begin setting t url (bytes_of body) offer p ≡ Rattle.plain_model.specs.Writing.begin_free setting t url (bytes_of body) offer p
    begin_free = rw free refl

    -- A request that begins an entry, where it was not answered that no version is left.
    pub begins_so : (given : Answer) (q : Pass C) → ((versions : ℕ) → given ≢ answer.Spent versions) → Begins tells state offers s t pass given q offer url → IsTyped given → q.hand ≡ pass.hand → GrowsTo (view pass) (view q)
        → IsServedSo rename given q t p (begin setting t url (bytes_of body) offer p)
    begins_so given q some h typed hand keeps = of_outcome h.outcome h.answer_is h.began h.refused h.free
      where
        hand_is : hand_in g.setting.anchors q.hand ≡ p.hand
        hand_is = ap (hand_in g.setting.anchors) hand ∙ shows.hand

        begun_named : (version : ℕ) → given ≡ answer.Begun version → (b : Began tells state offers s t offer url false pass q version)
            → begin setting t url (bytes_of body) offer p ≡ step (answer.Begun (p.counter + 1)) taken → (other : ℕ → ℕ) → Agrees (p.counter + 1) (names_from version) other
            → IsRenamed tells state offers s other lot given q t (begin setting t url (bytes_of body) offer p)
        begun_named version is b e other agrees = let one = begun_so false q version b other agrees in
            renamed_step tells state offers s other lot given q t (begin setting t url (bytes_of body) offer p) (step (answer.Begun (p.counter + 1)) taken) e (is ∙ ap answer.Begun one.version_is) record {
              knows = one.knows;
              hand = hand_is;
              tab = begun_tab tells state offers s other lot pass p owns (shows_so false q version b other agrees) t free below offer url body offered ours version q one;
              within = subst (IsWithin lot) (sym (get_or-set_same p.tabs t (Writing a) Free (let n = shows.eight in omega arith))) ours;
            }

        not_named : (fault : BeginFault) → given ≡ answer_to_refusal fault → NotTaken g t a (view pass) fault (view q) → IsFree q t → (other : ℕ → ℕ) → Agrees p.counter rename other
            → (begin setting t url (bytes_of body) offer p).after.counter ≡ p.counter × IsRenamed tells state offers s other lot given q t (begin setting t url (bytes_of body) offer p)
        not_named fault is refused freed other agrees =
            let shown = shows_renamed tells state offers s rename other pass p fit.counts agrees lot shows in
            let nb : NotBegun tells state offers s other lot pass p owns shown t free below offer url body offered ours fault q =
            not_begun tells state offers s other lot pass p owns shown t free below offer url body offered ours fault q (λ versions e. absurd (some versions (is ∙ ap answer_to_refusal e))) refused
            (subst (λ (z : Answer). (z ≡ answer.LongUrl) ↔ IsTooLong g url) is h.long) (subst IsTyped is typed) in
            let e = begin_free ∙ nb.begins_is in (
              ap (λ (z : Step). z.after.counter) e,
              renamed_step tells state offers s other lot given q t (begin setting t url (bytes_of body) offer p) (step (answer_to_refusal nb.plain_fault) p) e (is ∙ nb.answer_is) record {
                knows = nb.knows;
                hand = hand_is;
                tab = subst (ShowsTab tells state offers s other q p t) (sym free) freed;
                within = within_free lot (tab_at p t) free;
              },
            )

        of_outcome : (outcome : Result ℕ BeginFault) → given ≡ answer_to_begin outcome → IfOk outcome (λ version. Began tells state offers s t offer url false pass q version)
            → IfErr outcome (λ fault. NotTaken g t a (view pass) fault (view q)) → OnErr outcome (IsFree q t) → IsServedSo rename given q t p (begin setting t url (bytes_of body) offer p)
        of_outcome (Ok version) is began refused freed = let e = begin_free ∙ (begun_so false q version began (names_from version) (λ n le. refl)).begins_is in record {
          names = names_from version;
          agrees = names_agree false q version began;
          is = names_is false q version began;
          served = λ other agrees. begun_named version is began e other (λ n le. agrees n (let k = ap (λ (z : Step). z.after.counter) e in omega arith));
          least = let k = ap (λ (z : Step). z.after.counter) e in omega arith;
          newest = subst (λ (z : Step). IsNewest g (names_from version) (view q) z.after.counter) (sym e) (newest_so false q version began (view q) (stays (view q)));
        }
        of_outcome (Err fault) is began refused freed = still_served rename given q t p (begin setting t url (bytes_of body) offer p) (view pass) fit.is fit.newest keeps
            (not_named fault is refused freed rename (λ n le. refl)).0 (λ other agrees. (not_named fault is refused freed other agrees).1)

-- A whole response is stored on the last tab.
module _ {C O : Type 0} (tells : Bool) (state : C → CellState) (offers : O → Offers) (s : Store C O) (lot : Lot) (cap : ℕ → ℕ) (rename : ℕ → ℕ) (pass q : Pass C) (p : Plain) (given : Answer)
    (owns : OwnsLot (basis tells state offers s) lot (view pass).pass) (shows : ShowsLot tells state offers s rename pass p lot) (fit : IsFitting (basis tells state offers s) lot cap rename (view pass) p) (below : 7 < 8)
    (free : tab_at p 7 ≡ Free) (fair : is_fault given ≡ false) (offer : ℕ) (url : List ℕ) (body : Body) (durable : Bool) (offered : IsOffered tells state offers s offer url body)
    (ours : lot.anchors (anchor_for (basis tells state offers s) url) ≡ true) (keeps : GrowsTo (view pass) (view q))
    (needs : need (setting_of (basis tells state offers s)) url (bytes_of body) ≤ cap (anchor_for (basis tells state offers s) url)) where
  abbrev h : Ground (List ℕ)
  h = basis tells state offers s

  abbrev made : Step
  made = put (setting_of (basis tells state offers s)) url (bytes_of body) offer p

  abbrev begun : Plain
  begun = taken_by 7 (anchor_for (basis tells state offers s) url) (entry_of url (bytes_of body) offer) p

  as_renamed : (names : ℕ → ℕ) → IsGiven tells state offers s lot names 7 below given q made → IsRenamed tells state offers s names lot given q 7 made
  as_renamed names g = record { answered = g.answered; shows = g.shows }

  -- An entry was begun with this version, and ended.
  module _ (middle : Pass C) (version : ℕ) (b : Began tells state offers s 7 offer url durable pass middle version) where
    abbrev names : ℕ → ℕ
    names = renamed_from rename p.counter version

    one : IsBegun tells state offers s names lot pass p owns (shows_so tells state offers s lot cap rename pass p owns shows fit 7 free below offer url body offered ours durable middle version b names (λ n le. refl))
        7 free below offer url body offered ours version middle
    one = begun_so tells state offers s lot cap rename pass p owns shows fit 7 free below offer url body offered ours durable middle version b names (λ n le. refl)

    ended : made ≡ end (setting_of (basis tells state offers s)) 7 begun
    ended = put_ends (setting_of (basis tells state offers s)) url (bytes_of body) offer p free (p.counter + 1) begun one.begins_is

    counted : made.after.counter ≡ p.counter + 1
    counted = ap (λ (z : Step). z.after.counter) ended ∙ (keeps_end (setting_of (basis tells state offers s)) 7 begun (tab_at begun 7) refl).counter

    -- the plain store begins it too
    fitting : nat_lt (setting_of (basis tells state offers s)).room (meta_size url) ≡ false
    fitting = let l : LeavesRoom h.slot url = subst (LeavesRoom h.slot) offered.url_is b.writes.rests.fits.short in le-ltb (setting_of (basis tells state offers s)).room (meta_size url) (omega arith)

    placed : place_at begun (anchor_for h url) ≡ record { version = p.counter + 1; doom = false; entry = Some (entry_of url (bytes_of body) offer) }
    placed = get_or-set_same p.places (anchor_for (basis tells state offers s) url) (record { version = p.counter + 1; doom = false; entry = Some (entry_of url (bytes_of body) offer) }) nothing
        (let m = shows.knows.many in let l = one.tab.inside in omega arith)

    supplied : IsAmple h (anchor_for h url) begun
    supplied = ample h cap (anchor_for h url) begun (entry_of url (bytes_of body) offer) fit.fits_is
        (taken_room (setting_of (basis tells state offers s)) cap 7 url (bytes_of body) offer p fit.room free fitting one.open_to needs) (ap (λ (x : PlaceOf). x.entry) placed) refl

    named_so : (other : ℕ → ℕ) → Agrees (p.counter + 1) (renamed_from rename p.counter version) other → middle.hand ≡ pass.hand
        → EndsEntry tells state offers s 7 middle given q (begun_as tells state offers s 7 offer url durable pass middle version) → IsRenamed tells state offers s other lot given q 7 made
    named_so other agrees hand ends = as_renamed other (given_end tells state offers s lot other below pass q p given owns
        (shows_so tells state offers s lot cap rename pass p owns shows fit 7 free below offer url body offered ours durable middle version b other agrees) free fair offer url body durable offered ours middle version b
        (drew_so tells state offers s lot cap rename pass p owns shows fit 7 free below offer url body offered ours durable middle version b other agrees) (inr supplied) hand ends)

    put_so : GrowsTo (view middle) (view q) → middle.hand ≡ pass.hand → EndsEntry tells state offers s 7 middle given q (begun_as tells state offers s 7 offer url durable pass middle version)
        → IsServedSo tells state offers s lot rename given q 7 p made
    put_so after hand ends = record {
      names = names;
      agrees = names_agree tells state offers s lot cap rename pass p owns shows fit 7 free below offer url body offered ours durable middle version b;
      is = names_is tells state offers s lot cap rename pass p owns shows fit 7 free below offer url body offered ours durable middle version b;
      served = λ other agrees. named_so other (λ n le. agrees n (let k = counted in omega arith)) hand ends;
      least = let k = counted in omega arith;
      newest = subst (IsNewest h names (view q)) (sym counted) (newest_so tells state offers s lot cap rename pass p owns shows fit 7 free below offer url body offered ours durable middle version b (view q) after);
    }

  -- None was begun.
  refused_so : (fault : BeginFault) → IsTyped given → given ≡ answer_to_put (Err (Begin fault)) → ((given ≡ answer.LongUrl) ↔ IsTooLong h url) → ((versions : ℕ) → given ≢ answer.Spent versions) → NotTaken h 7 (anchor_for h url) (view pass) fault (view q)
      → q.hand ≡ pass.hand → IsFree q 7 → IsServedSo tells state offers s lot rename given q 7 p made
  refused_so fault typed is long some n hand freed = still_served tells state offers s lot rename given q 7 p made (view pass) fit.is fit.newest keeps (named_not rename (λ m le. refl)).0 (λ other agrees. (named_not other agrees).1)
    where
      named_not : (other : ℕ → ℕ) → Agrees p.counter rename other → (made.after.counter ≡ p.counter) × IsRenamed tells state offers s other lot given q 7 made
      named_not other agrees = (
        ap (λ (z : Step). z.after.counter) (put_refused (setting_of (basis tells state offers s)) url (bytes_of body) offer p free nb.plain_fault nb.begins_is),
        as_renamed other (given_refused tells state offers s lot other below pass q p given owns shown free fair offer url body durable offered ours fault typed is long spent_never n hand freed),
      )
        where
          shown : ShowsLot tells state offers s other pass p lot
          shown = shows_renamed tells state offers s rename other pass p fit.counts agrees lot shows

          spent_never : (versions : ℕ) → fault ≡ Spent versions → SpentRight tells state offers s other lot pass p owns shown 7 free below offer url body offered ours q versions
          spent_never versions e = absurd (some versions (is ∙ ap (λ (x : BeginFault). answer_to_put (Err (Begin x))) e))

          nb : NotBegun tells state offers s other lot pass p owns shown 7 free below offer url body offered ours fault q
          nb = not_begun tells state offers s other lot pass p owns shown 7 free below offer url body offered ours fault q spent_never n (subst (λ (z : Answer). (z ≡ answer.LongUrl) ↔ IsTooLong h url) is long) (subst IsTyped is typed)

  -- A request that stores a response, where it was not answered that no version is left.
  pub puts_so : IsTyped given → ((versions : ℕ) → given ≢ answer.Spent versions) → Puts tells state offers s url pass given q offer durable → IsServedSo tells state offers s lot rename given q 7 p made
  puts_so typed some d = of_outcome d.outcome d.answer_is d.stored d.refused d.stays
    where
      of_outcome : (o : Result Ended PutFault) → given ≡ answer_to_put o → IfOk o (λ done. PutWhole tells state offers s 7 offer url durable pass q done) → IfErr o (λ fault. NotPut tells state offers s 7 offer url durable pass q fault)
          → IfErr o (λ fault. StaysUnlessBegun fault pass.hand q.hand) → IsServedSo tells state offers s lot rename given q 7 p made
      of_outcome (Ok done) is w n hand = put_so w.middle w.version w.began (ended_keeps tells state offers s 7 (begun_as tells state offers s 7 offer url durable pass w.middle w.version) w.middle q w.ends) w.stays record { outcome = Ok done; answer_is = is; ended = w.ends; given_up = tt }
      of_outcome (Err (Write fault)) is w n hand = put_so n.middle n.version n.began (not_ended_keeps tells state offers s 7 (begun_as tells state offers s 7 offer url durable pass n.middle n.version) n.middle q fault n.stopped) n.stays record { outcome = Err fault; answer_is = is; ended = tt; given_up = n.stopped }
      of_outcome (Err (Begin fault)) is w n hand = refused_so fault typed is d.long some n hand d.free
