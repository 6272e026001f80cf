-- An entry is purged and wiped as by the plain store.
use Rattle.std.proofs.Common.{Bool, List, None, Some, ap, arith, false, get_or, inl, inr, refl, subst, sym, true, ◌<◌, ◌∙◌, ◌≡◌, ℕ}
use Rattle.std.specs.Prelude.{Err, IfErr, IfOk, Ok, Result}
use Rattle.lock_word.specs.Words.{epoch_number}
use Rattle.lock_word.specs.declared.cause.Cause.{Cause}
use Rattle.lock_word.specs.declared.epoch.Epoch.{Epoch}
use Rattle.lock_word.proofs.Parts.{same_epoch}
use Rattle.rock_disk.specs.Cell.{CellState}
use Rattle.script_text.specs.declared.answer.Answer.{Answer}
use Rattle.script_text.specs.declared.answer.Answer.TheVariants as answer
use Rattle.store_key.specs.Key.{key_of}
use Rattle.core_model.specs.Tabs as core
use Rattle.core_model.specs.Tabs.{inner}
use Rattle.core_model.specs.declared.tab.Tab as core_tab
use Rattle.core_model.specs.declared.view.View.{View}
use Rattle.entry_cut.specs.Content.{room_of}
use Rattle.plain_model.specs.declared.entry.Place.{Place as PlaceOf}
use Rattle.plain_model.specs.declared.store.Plain.{Plain}
use Rattle.plain_model.specs.declared.store.Tab.TheVariants.{Free}
use Rattle.plain_model.specs.Reading.{doom_at, goes_doomed, judge, purge, wipe, wiped_by}
use Rattle.plain_model.specs.Store as plain
use Rattle.plain_model.specs.Store.{is_left_over_at, place_at, tab_at}
use Rattle.plain_model.specs.Writing.{Step, settle, step}
use Rattle.plain_laws.specs.Renaming.{renamed, renamed_epoch}
use Rattle.store_rule.specs.declared.store.Pass.{Pass}
use Rattle.store_rule.specs.declared.store.Store.{Store}
use Rattle.store_rule.specs.Ground.{Ground, Offers, anchor_for}
use Rattle.store_rule.specs.Passes.{basis, view}
use Rattle.store_rule.specs.Words.{Mine}
use Rattle.core_model.specs.declared.moves.Move.TheVariants.{Doom, Enter}
use Rattle.core_model.specs.declared.view.Place.TheVariants.{Anchor}
use Rattle.slice_chain.specs.Victims.{hand_in}
use Rattle.rock_reader.specs.Opening.{Came, Refused}
use Rattle.purge_entry.specs.Purging.{Purged}
use Rattle.purge_entry.specs.Wiping.{FaultTells, LeftToOthers, WipedAsLast, WipedTells}
use Rattle.purge_entry.specs.declared.wiping.Wiped.{Wiped}
use Rattle.purge_entry.specs.declared.wiping.Wiped.TheVariants.{Gone, Later}
use Rattle.purge_entry.specs.declared.wiping.WipeFault.{WipeFault}
use Rattle.purge_entry.specs.declared.wiping.WipeFault.TheVariants.{Fault, NoEntry}
use Rattle.store_serve.specs.Answers.{answer_to_purge, answer_to_wipe, is_fault}
use Rattle.store_serve.specs.Tabs.{IsFree}
use Rattle.store_serve.specs.Whole.{Purges, Wipes, whole_tab}
use Rattle.worker_shelf.specs.Typed.{IsTyped, TellsKey}
use Rattle.crew_accounts.proofs.Doomed.{HasDoomed, of_purge, of_wipe}
use Rattle.plain_runs.specs.Shows.{Shows, ShowsLot, ShowsTab}
use Rattle.plain_runs.specs.Words.{IsLone, KnowsLot, Lot, no_guests, setting_of, whole_lot}
use Rattle.plain_runs.proofs.AnchorWords.{doom_knows, doomed_there, left_epoch}
use Rattle.plain_runs.proofs.Coming.{HasCome, away_judged, came_knows, hit_judged, keyed_knows, keyed_pass, keyed_tab, other_judged, retreats, undoomed}
use Rattle.plain_runs.proofs.LeftTabs.{guest_at, others_part_right, purge_parts_right, wipe_parts_right}
use Rattle.plain_runs.proofs.Opening.{MissRight, settled}
use Rattle.plain_runs.proofs.OwnAnchors.{OwnsLot, lot_lone, lot_stays, pass_stays}
use Rattle.plain_runs.proofs.Renamed.{IsAs, IsRenamed, own_step, renamed_step}
use Rattle.plain_runs.proofs.PlainWords.{readers_fit}
use Rattle.plain_runs.proofs.ShowingOthers.{within_free}

-- a wipe that finds no entry answers as a purge does
wiped_none : (goes : Bool) (c : Cause) → wiped_by goes (answer.NoEntry c) ≡ answer.NoEntry c
wiped_none true c = refl
wiped_none false c = refl

module _ {C O : Type 0} (tells : Bool) (state : C → CellState) (offers : O → Offers) (s : Store C O) (rename : ℕ → ℕ) (lot : Lot) (url : List ℕ) (p : Pass C) (pl : Plain)
    (owns : OwnsLot (basis tells state offers s) lot (view p).pass) (h : ShowsLot tells state offers s rename p pl lot) (ours : lot.anchors (anchor_for (basis tells state offers s) url) ≡ true) (mine : lot.tabs whole_tab ≡ true) where
  abbrev g : Ground (List ℕ)
  g = basis tells state offers s

  abbrev a : ℕ
  a = anchor_for g url

  abbrev come : (epoch : Epoch) (entered w : View (List ℕ)) → Came g inner url (view p) epoch entered w → HasCome g rename inner a
  come epoch entered w c = record { store = pl; eight = h.eight; before = view p; own = owns (anchor_for (basis tells state offers s) url) c.enter.may.allowed.0 ours; lot = lot; ours = ours; knows = h.knows; found = c.found; came = entered; enter = c.enter; epoch = epoch; epoch_is = c.epoch_is }

  -- There was nothing to purge.
  pub purge_refused : (w : View (List ℕ)) (c : Cause) → TellsKey c → Refused g inner url (view p) c w → MissRight tells state offers s rename lot a (key_of url) c pl w
  purge_refused w c typed (inl r) =
      let st = r.came.enter in
      let told = away_judged g rename inner a (come r.epoch r.entered w r.came) (key_of url) c r.cause_is in
      let tab = retreats g rename inner a (come r.epoch r.entered w r.came) r.unreadable in
      let left = purge_parts_right g rename r.entered w a pl (lot_stays g lot (view p) r.entered (pass_stays g (view p) r.entered (Enter inner a) r.came.found st) owns) h.eight (ap core.is_counted tab) (ap core.anchor_of tab) st.may.allowed.0 ours
      (came_knows g rename inner a (come r.epoch r.entered w r.came)) r.parted in
      record { cause = told.0; judged = told.1; cause_is = told.2; knows = subst (λ (x : Plain). KnowsLot g rename lot w x no_guests) (settled tells state offers s rename lot p pl owns h a st.may.allowed.0 ours) left.knows }
  purge_refused w c typed (inr r) =
      let st = r.came.enter in
      let d = r.declined in
      let told = other_judged g rename inner a (come r.epoch r.entered w r.came) r.readable d.key d.keyed d.loaded (key_of url) c typed d.other d.cause_is in
      let tab = keyed_tab g rename inner a (come r.epoch r.entered w r.came) r.readable d.key d.keyed d.loaded in
      let left = purge_parts_right g rename d.keyed w a pl (lot_stays g lot (view p) d.keyed (keyed_pass g rename inner a (come r.epoch r.entered w r.came) r.readable d.key d.keyed d.loaded) owns) h.eight (ap core.is_counted tab) (ap core.anchor_of tab) st.may.allowed.0 ours
      (keyed_knows g rename inner a (come r.epoch r.entered w r.came) r.readable d.key d.keyed d.loaded) d.parted in
      record { cause = told.0; judged = told.1; cause_is = told.2; knows = subst (λ (x : Plain). KnowsLot g rename lot w x no_guests) (settled tells state offers s rename lot p pl owns h a st.may.allowed.0 ours) left.knows }

  -- An entry was doomed.
  pub record PurgedRight (left : Epoch) (w : View (List ℕ)) : Type 0 where
    pub judged : judge (setting_of g) pl a (key_of url) ≡ None
    pub left_is : left ≡ renamed_epoch rename (plain.epoch_of (room_of g.slot) (place_at (doom_at a pl) a))
    pub knows : KnowsLot g rename lot w (settle a (doom_at a pl)) no_guests

  module _ (w : View (List ℕ)) (left : Epoch) (o : HasDoomed g inner url (view p) left w) where
    within : a < g.setting.anchors
    within = o.came.enter.may.allowed.0

    loaded : KnowsLot g rename lot o.keyed pl (guest_at a)
    loaded = keyed_knows g rename inner a (come o.epoch o.entered w o.came) o.readable (key_of url) o.keyed o.key

    at : core.anchor_of (core.tab_at o.keyed inner) ≡ a
    at = ap core.anchor_of o.reads

    not_yet : (place_at pl a).doom ≡ false
    not_yet = undoomed g rename inner a (come o.epoch o.entered w o.came) o.readable

    still : o.keyed.pass ≡ (view p).pass
    still = keyed_pass g rename inner a (come o.epoch o.entered w o.came) o.readable (key_of url) o.keyed o.key

    alone : Mine g o.keyed (Anchor a)
    alone = (owns a within ours).words o.keyed (Anchor a) still refl

    doomed_knows : KnowsLot g rename lot o.after (doom_at a pl) (guest_at a)
    doomed_knows = doom_knows g rename lot o.keyed o.after pl inner a o.word alone ours within at not_yet (readers_fit pl a 1 h.eight (omega arith)) loaded o.doom

    epoch_left : left ≡ renamed_epoch rename (plain.epoch_of (room_of g.slot) (place_at (doom_at a pl) a))
    epoch_left = same_epoch left (renamed_epoch rename (plain.epoch_of (room_of g.slot) (place_at (doom_at a pl) a)))
        (o.left_is ∙ left_epoch g rename lot o.keyed o.after pl inner a o.word alone ours within at not_yet (readers_fit pl a 1 h.eight (omega arith)) loaded o.doom
        ∙ ap (λ (x : PlaceOf). epoch_number (renamed_epoch rename (plain.epoch_of (room_of g.slot) x))) (sym (doomed_there g rename lot o.keyed o.after pl inner a o.word alone ours within at not_yet (readers_fit pl a 1 h.eight (omega arith)) loaded o.doom)))

    -- the pass owns its lot still
    owns_after : OwnsLot g lot o.after.pass
    owns_after = lot_stays g lot (view p) o.after (pass_stays g o.keyed o.after (Doom inner) o.word o.doom ∙ still) owns

    reads_still : core.tab_at o.after inner ≡ core.tab_at o.keyed inner
    reads_still = ap (λ (v : View (List ℕ)). core.tab_at v inner) o.doom.leaves

    still_counted : core.is_counted (core.tab_at o.after inner) ≡ true
    still_counted = ap core.is_counted (reads_still ∙ o.reads)

    still_there : core.anchor_of (core.tab_at o.after inner) ≡ a
    still_there = ap core.anchor_of reads_still ∙ at

    doomed_right : KnowsLot g rename lot w (settle a (doom_at a pl)) no_guests → PurgedRight left w
    doomed_right knows = record {
      judged = hit_judged g rename inner a (come o.epoch o.entered w o.came) o.readable (key_of url) o.keyed o.key url refl;
      left_is = epoch_left;
      knows = knows;
    }

  -- by a purge
  pub purged_right : (w : View (List ℕ)) (left : Epoch) → Purged g inner url (view p) left w → PurgedRight left w
  purged_right w left d = let o = of_purge g inner url (view p) w left d in
      doomed_right w left o (purge_parts_right g rename o.after w a (doom_at a pl) (owns_after w left o) h.eight (still_counted w left o) (still_there w left o) (within w left o) ours (doomed_knows w left o) d.entry.parted).knows

  -- by a wipe that was the last user of the entry, and by one that was not
  last_right : (w : View (List ℕ)) (left : Epoch) (done : Bool) → WipedAsLast g inner url done (view p) left w → PurgedRight left w × (goes_doomed a pl ≡ true)
  last_right w left done d =
      let o = of_wipe g inner url (view p) w left done d in
      let k = wipe_parts_right g rename o.after d.entry.last w a (doom_at a pl) done (owns_after w left o) h.eight (still_counted w left o) (still_there w left o) (within w left o) ours (doomed_knows w left o) d.entry.leaves d.entry.ends in
      (doomed_right w left o k.0, k.1)

  others_right : (w : View (List ℕ)) (left : Epoch) → LeftToOthers g inner url (view p) left w → PurgedRight left w × (goes_doomed a pl ≡ false)
  others_right w left d =
      let o = of_purge g inner url (view p) w left d.purged in
      let k = others_part_right g rename o.after w a (doom_at a pl) (owns_after w left o) h.eight (still_counted w left o) (still_there w left o) (within w left o) ours (doomed_knows w left o) d.why in
      (doomed_right w left o k.0, k.1)

  -- What a request answers that purges or wipes.
  module _ (given : Answer) (q : Pass C) (free : tab_at pl whole_tab ≡ Free) (typed : IsTyped given) (hand : q.hand ≡ p.hand) (same : (view q).tabs ≡ (view p).tabs) where
    free_still : IsFree q whole_tab
    free_still = ap (λ (xs : List (core_tab.Tab (List ℕ))). get_or xs whole_tab core_tab.Tab.Free) same ∙ subst (ShowsTab tells state offers s rename p pl whole_tab) free (h.tabs whole_tab (omega arith) mine)

    is_step : (made r : Step) → made ≡ r → given ≡ renamed rename r.answer → r.after.hand ≡ pl.hand → tab_at r.after whole_tab ≡ Free → KnowsLot g rename lot (view q) r.after no_guests
        → IsRenamed tells state offers s rename lot given q whole_tab made
    is_step made r e answered same_hand same_tab knows = renamed_step tells state offers s rename lot given q whole_tab made r e answered
        record { knows = knows; hand = ap (hand_in g.setting.anchors) hand ∙ h.hand ∙ sym same_hand; tab = subst (ShowsTab tells state offers s rename q r.after whole_tab) (sym same_tab) free_still; within = within_free lot (tab_at r.after whole_tab) same_tab }

    -- the epoch that the doom left in the plain store
    abbrev left_there : Epoch
    left_there = plain.epoch_of (room_of g.slot) (place_at (doom_at a pl) a)

    purged_step : judge (setting_of g) pl a (key_of url) ≡ None → purge (setting_of g) url pl ≡ step (answer.Purged left_there) (settle a (doom_at a pl))
    purged_step j = rw j refl

    missed_step : (c : Cause) → judge (setting_of g) pl a (key_of url) ≡ Some c → purge (setting_of g) url pl ≡ step (answer.NoEntry c) pl
    missed_step c j = rw j refl

    wiped_step : (goes : Bool) → goes_doomed a pl ≡ goes → judge (setting_of g) pl a (key_of url) ≡ None → wipe (setting_of g) url pl ≡ step (wiped_by goes (answer.Purged left_there)) (settle a (doom_at a pl))
    wiped_step goes e j = ap (λ (b : Bool). step (wiped_by b (purge (setting_of g) url pl).answer) (purge (setting_of g) url pl).after) e
        ∙ ap (λ (r : Step). step (wiped_by goes r.answer) r.after) (purged_step j)

    unwiped_step : (c : Cause) → judge (setting_of g) pl a (key_of url) ≡ Some c → wipe (setting_of g) url pl ≡ step (answer.NoEntry c) pl
    unwiped_step c j = ap (λ (r : Step). step (wiped_by (goes_doomed a pl) r.answer) r.after) (missed_step c j) ∙ ap (λ (x : Answer). step x pl) (wiped_none (goes_doomed a pl) c)

    settled_hand : (b : Bool) → is_left_over_at (doom_at a pl) a ≡ b → (settle a (doom_at a pl)).hand ≡ pl.hand
    settled_hand true e = rw e refl
    settled_hand false e = rw e refl

    settled_tab : (b : Bool) → is_left_over_at (doom_at a pl) a ≡ b → tab_at (settle a (doom_at a pl)) whole_tab ≡ Free
    settled_tab true e = rw e free
    settled_tab false e = rw e free

    -- the entry was doomed, and the answer tells which epoch that left
    doomed_so : (made : Step) (left : Epoch) (told : Epoch → Answer) → ((e : Epoch) → told (renamed_epoch rename e) ≡ renamed rename (told e)) → given ≡ told left → PurgedRight left (view q)
        → made ≡ step (told left_there) (settle a (doom_at a pl)) → IsRenamed tells state offers s rename lot given q whole_tab made
    doomed_so made left told same_told is r made_is = is_step made (step (told left_there) (settle a (doom_at a pl))) made_is (is ∙ ap told r.left_is ∙ same_told left_there)
        (settled_hand (is_left_over_at (doom_at a pl) a) refl) (settled_tab (is_left_over_at (doom_at a pl) a) refl) r.knows

    purge_outcome : (outcome : Result Epoch Cause) → given ≡ answer_to_purge outcome → IfOk outcome (λ left. Purged g inner url (view p) left (view q)) → IfErr outcome (λ cause. Refused g inner url (view p) cause (view q))
        → IsRenamed tells state offers s rename lot given q whole_tab (purge (setting_of g) url pl)
    purge_outcome (Ok left) is purged refused =
        let r = purged_right (view q) left purged in
        doomed_so (purge (setting_of g) url pl) left answer.Purged (λ e. refl) is r (purged_step r.judged)
    purge_outcome (Err cause) is purged refused =
        let r = purge_refused (view q) cause (subst IsTyped is typed) refused in
        is_step (purge (setting_of g) url pl) (step (answer.NoEntry r.cause) pl) (missed_step r.cause r.judged) (is ∙ ap answer.NoEntry r.cause_is) refl free r.knows

    wipe_outcome : (outcome : Result Wiped WipeFault) → is_fault given ≡ false → given ≡ answer_to_wipe outcome → IfOk outcome (WipedTells g url (view p) (view q)) → IfErr outcome (FaultTells g url (view p) (view q))
        → IsRenamed tells state offers s rename lot given q whole_tab (wipe (setting_of g) url pl)
    wipe_outcome (Ok (Gone left)) fair is wiped refused =
        let r = last_right (view q) left true wiped in
        doomed_so (wipe (setting_of g) url pl) left answer.Wiped (λ e. refl) is r.0 (wiped_step true r.1 r.0.judged)
    wipe_outcome (Ok (Later left)) fair is wiped refused =
        let r = others_right (view q) left wiped in
        doomed_so (wipe (setting_of g) url pl) left answer.Later (λ e. refl) is r.0 (wiped_step false r.1 r.0.judged)
    wipe_outcome (Err (NoEntry cause)) fair is wiped refused =
        let r = purge_refused (view q) cause (subst IsTyped is typed) refused in
        is_step (wipe (setting_of g) url pl) (step (answer.NoEntry r.cause) pl) (unwiped_step r.cause r.judged) (is ∙ ap answer.NoEntry r.cause_is) refl free r.knows
    wipe_outcome (Err Fault) fair is wiped refused = absurd (let z : true ≡ false = sym (ap is_fault is) ∙ fair in cc)

  -- A request to purge, and one to wipe.
  pub purges_right : (given : Answer) (q : Pass C) → tab_at pl whole_tab ≡ Free → IsTyped given → q.hand ≡ p.hand → Purges tells state offers s url p given q → IsRenamed tells state offers s rename lot given q whole_tab (purge (setting_of g) url pl)
  purges_right given q free typed hand k = purge_outcome given q free typed hand k.same k.outcome k.answer_is k.purged k.refused

  pub wipes_right : (given : Answer) (q : Pass C) → tab_at pl whole_tab ≡ Free → IsTyped given → is_fault given ≡ false → q.hand ≡ p.hand → Wipes tells state offers s url p given q → IsRenamed tells state offers s rename lot given q whole_tab (wipe (setting_of g) url pl)
  wipes_right given q free typed fair hand k = wipe_outcome given q free typed hand k.same k.outcome fair k.answer_is k.wiped k.refused

-- The request, where each version stands for itself.
module _ {C O : Type 0} (tells : Bool) (state : C → CellState) (offers : O → Offers) (s : Store C O) (lone : IsLone (basis tells state offers s)) where
  pub purges_as : (url : List ℕ) (p q : Pass C) (given : Answer) (plain : Plain) → Shows tells state offers s (λ v. v) p plain → tab_at plain whole_tab ≡ Free → IsTyped given → q.hand ≡ p.hand
      → Purges tells state offers s url p given q → IsAs tells state offers s given q whole_tab (purge (setting_of (basis tells state offers s)) url plain)
  purges_as url p q given plain shows free typed hand h = own_step tells state offers s given q whole_tab _ (purges_right tells state offers s (λ v. v) whole_lot url p plain (lot_lone (basis tells state offers s) lone whole_lot (view p).pass) shows refl refl given q free typed hand h)

  pub wipes_as : (url : List ℕ) (p q : Pass C) (given : Answer) (plain : Plain) → Shows tells state offers s (λ v. v) p plain → tab_at plain whole_tab ≡ Free → IsTyped given → is_fault given ≡ false → q.hand ≡ p.hand
      → Wipes tells state offers s url p given q → IsAs tells state offers s given q whole_tab (wipe (setting_of (basis tells state offers s)) url plain)
  wipes_as url p q given plain shows free typed fair hand h = own_step tells state offers s given q whole_tab _ (wipes_right tells state offers s (λ v. v) whole_lot url p plain (lot_lone (basis tells state offers s) lone whole_lot (view p).pass) shows refl refl given q free typed fair hand h)
