-- A line that purges or wipes an entry.
use Rattle.std.proofs.Common.{Bool, Err, List, None, Ok, Result, Some, [], true, ap, inl, inr, refl, subst, sym, ◌∙◌, ◌∷◌, ◌≡◌, ℕ}
use Rattle.std.proofs.Common.{get_or}
use Rattle.std.specs.Prelude.{◌≢◌}
use Rattle.std.specs.Result.{IfErr, IfOk}
use Rattle.lock_word.specs.Words.{epoch_number}
use Rattle.lock_word.specs.declared.cause.Cause.{Cause}
use Rattle.lock_word.specs.declared.epoch.Epoch.{Epoch}
use Rattle.rock_disk.specs.Cell.{CellState}
use Rattle.script_text.specs.Requests.{url_in}
use Rattle.script_text.specs.Shapes.{Shape, shape_of}
use Rattle.script_text.specs.declared.answer.Answer.{Answer}
use Rattle.script_text.specs.declared.answer.Answer.TheVariants as answer
use Rattle.script_text.specs.declared.body.Body.{Body}
use Rattle.script_text.specs.declared.line.Line.{Line}
use Rattle.script_text.specs.declared.request.Request.{Request}
use Rattle.script_text.specs.declared.request.Request.TheVariants.{More, Purge, Wipe}
use Rattle.core_model.specs.Tabs.{inner}
use Rattle.core_model.specs.declared.tab.Tab.{Tab}
use Rattle.core_model.specs.declared.tab.Tab.TheVariants.{Free}
use Rattle.core_model.specs.declared.view.View.{View}
use Rattle.line_account.specs.Accounts.{epoch_in, epochs_of}
use Rattle.line_account.specs.Answers.{ComesIn, HasPurged, Run, TellsDoom}
use Rattle.line_account.specs.Deeds.{Began, Comes}
use Rattle.line_account.specs.Lines.{Fits, Offers as OffersIn, Served, url_at}
use Rattle.line_account.specs.Requests.{IsAnswerTo}
use Rattle.store_rule.specs.declared.store.Pass.{Pass}
use Rattle.store_rule.specs.declared.store.Store.{Store}
use Rattle.store_rule.specs.Ground.{Ground, Offers, anchor_for}
use Rattle.store_rule.specs.Passes.{basis, view}
use Rattle.rock_reader.specs.Opening.{Refused}
use Rattle.purge_entry.specs.Purging.{Purged}
use Rattle.purge_entry.specs.Wiping.{FaultTells, WipedTells}
use Rattle.purge_entry.specs.declared.wiping.Wiped.{Wiped}
use Rattle.purge_entry.specs.declared.wiping.Wiped.TheVariants.{Gone, Later}
use Rattle.purge_entry.specs.declared.wiping.WipeFault.{WipeFault}
use Rattle.purge_entry.specs.declared.wiping.WipeFault.TheVariants.{Fault, NoEntry}
use Rattle.store_serve.specs.Acting.{Acted}
use Rattle.store_serve.specs.Deeds.{OfPurging, OfVisiting}
use Rattle.store_serve.proofs.PurgeDeeds as purges
use Rattle.store_serve.proofs.ReaderDeeds as readers
use Rattle.store_serve.proofs.WipeDeeds as wipes
use Rattle.store_serve.specs.Answers.{answer_to_purge, answer_to_wipe}
use Rattle.store_serve.specs.Tabs.{IsFree, Leaves}
use Rattle.store_serve.specs.Whole.{Purges, Wipes, whole_tab}
use Rattle.worker_shelf.specs.Typed.{IsTyped, TellsKey}
use Rattle.crew_accounts.specs.Lines.{AddsLine, served_as}
use Rattle.crew_accounts.specs.Runs.{Past, run_of}
use Rattle.crew_accounts.specs.Tracks.{Tracks}
use Rattle.crew_accounts.proofs.CallDeeds.{adds_by, of_purging, of_visiting}
use Rattle.crew_accounts.proofs.Coming as coming
use Rattle.crew_accounts.proofs.Doomed.{HasDoomed, of_purge, of_wipe}
use Rattle.crew_accounts.proofs.Dooming.{has_purged}
use Rattle.crew_accounts.proofs.Shown.{shows_none, shows_one, shows_two}
use Rattle.crew_accounts.proofs.TabLines.{LeavesAlone, purge_alone, wipe_alone}
use Rattle.crew_accounts.proofs.Telling.{ToTell, no_more, plain, tells_by}
use Rattle.crew_accounts.proofs.Tracking.{tracks_whole}
use Rattle.crew_accounts.proofs.Turns.{came_turn, doomed_turn}

-- a request that takes the entry of this URL out of use
record IsPurging (request : Request) (url : List ℕ) : Type 0 where
  shape : shape_of request ≡ Shape.Purges url
  at : (earlier : List Served) → url_at earlier request ≡ Some url
  named : url_in request ≡ Some url
  comes : Comes request url
  began : (a : Answer) (x : ℕ) → Began request a x → ⊥
  opened : (a : Answer) (x : ℕ) → ComesIn request a x → ⊥
  offers : (u : List ℕ) (body : Body) → OffersIn request u body → ⊥
  fits : (earlier : List Served) → Fits earlier request
  no_more : (t : ℕ) → request ≡ More t → ⊥
  refuses : (c : Cause) → IsAnswerTo request (answer.NoEntry c)
  alone : (a : Answer) (j : ℕ) → LeavesAlone j request a

purges_whole : (url : List ℕ) → IsPurging (Purge url) url
purges_whole url = record {
  shape = refl;
  at = λ earlier. refl;
  named = refl;
  comes = refl;
  began = λ a x h. h;
  opened = λ a x h. h;
  offers = λ u body h. h;
  fits = λ earlier. tt;
  no_more = λ t e. cc;
  refuses = λ c. tt;
  alone = purge_alone url;
}

wipes_whole : (url : List ℕ) → IsPurging (Wipe url) url
wipes_whole url = record {
  shape = refl;
  at = λ earlier. refl;
  named = refl;
  comes = refl;
  began = λ a x h. h;
  opened = λ a x h. h;
  offers = λ u body h. h;
  fits = λ earlier. tt;
  no_more = λ t e. cc;
  refuses = λ c. tt;
  alone = wipe_alone url;
}

-- an answer that tells the epoch that a doom left
record TellsLeft (request : Request) (a : Answer) (left : Epoch) : Type 0 where
  answers : IsAnswerTo request a
  told : TellsDoom a left
  shows : (found : ℕ) → epochs_of found 0 a ≡ found ∷ epoch_number left ∷ []
  no_part : (e : Epoch) (bytes : List ℕ) → a ≢ answer.Part e bytes
  no_tab : a ≢ answer.Tab

purged_tells : (url : List ℕ) (left : Epoch) → TellsLeft (Purge url) (answer.Purged left) left
purged_tells url left = record { answers = tt; told = refl; shows = λ found. refl; no_part = λ e bytes z. cc; no_tab = λ z. cc }

wiped_tells : (url : List ℕ) (left : Epoch) → TellsLeft (Wipe url) (answer.Wiped left) left
wiped_tells url left = record { answers = tt; told = refl; shows = λ found. refl; no_part = λ e bytes z. cc; no_tab = λ z. cc }

later_tells : (url : List ℕ) (left : Epoch) → TellsLeft (Wipe url) (answer.Later left) left
later_tells url left = record { answers = tt; told = refl; shows = λ found. refl; no_part = λ e bytes z. cc; no_tab = λ z. cc }

-- what such an answer has to tell is of the entry that was doomed
module _ {X : Type 0} (r : Run X) (v : View X) (earlier : List Served) (s : Served) where
  by_doom : (a : Answer) (left : Epoch) → TellsDoom a left → HasPurged r v s left → ToTell r v earlier s a
  by_doom (answer.Purged e) left same h = subst (HasPurged r v s) (sym same) h
  by_doom (answer.Wiped e) left same h = subst (HasPurged r v s) (sym same) h
  by_doom (answer.Later e) left same h = subst (HasPurged r v s) (sym same) h
  by_doom _ left none h = absurd none

module _ {C O : Type 0} (tells : Bool) (state : C → CellState) (offers : O → Offers) (s : Store C O) (told : Bool) (past : Past) (served : List Served) (worker number : ℕ) (url : List ℕ) (p : Pass C) (q : Pass C) where
  abbrev g : Ground (List ℕ)
  g = basis tells state offers s

  abbrev r : Run (List ℕ)
  r = run_of (basis tells state offers s) told past

  abbrev line : Request → Line
  line request = record { worker = worker; number = number; request = request }

  module _ (tracks : Tracks tells state offers s told past served p) (leaves : Leaves tells state offers s whole_tab p q) (free : IsFree q whole_tab) where
    doomed : (request : Request) (a : Answer) (left : Epoch) → IsPurging request url → TellsLeft request a left → HasDoomed g inner url (view p) left (view q)
        → Acted None (OfPurging (anchor_for g url) (epoch_number left)) (view p) (view q) → AddsLine tells state offers s told past served (line request) p a q
    doomed request a left purging is h acted =
        let l = served_as (line request) a None (epoch_number h.epoch) 0 in
        let shows = shows_two r.setting.anchors (view p) (view q) served l url (purging.at served) (epoch_number h.epoch) (epoch_number left) (is.shows (epoch_number h.epoch)) (came_turn g h.came) (doomed_turn g h) in
        record {
          drew = None;
          opened = epoch_number h.epoch;
          looked = 0;
          adds = adds_by r (view p) (view q) served l refl (OfPurging (anchor_for g url) (epoch_number left)) acted
              (λ d. of_purging r (view q) served l d (anchor_for g url) (epoch_number left) (record { url = url; comes = purging.comes; anchor = refl })
              (inl (record { url = url; request = purging.shape; anchor = refl; epoch = left; answered = is.told; epoch_is = refl })))
              shows
              (tells_by r (view q) served l (by_doom r (view q) served l a left is.told (has_purged g told past url (view p) (view q) inner left h l purging.named refl))
              (plain r (view q) served l (no_more r (view q) served l purging.no_more) (λ b e k. (shows b e k).seen) is.answers refl (purging.began a) (purging.opened a) purging.offers (purging.fits served) is.no_tab))
              (λ y e bytes z. absurd (is.no_part e bytes z));
          tracks = tracks_whole tells state offers s told past served p q l leaves free (purging.alone a) tracks;
        }

    refused : (request : Request) (c : Cause) → IsPurging request url → TellsKey c → Refused g inner url (view p) c (view q) → AddsLine tells state offers s told past served (line request) p (answer.NoEntry c) q
    refused request c purging fits h =
        let l = served_as (line request) (answer.NoEntry c) None 0 0 in
        let refusal = coming.refused g told past served l url purging.named (purging.at served) (view p) (view q) c inner fits h in
        let shows = shows_one r.setting.anchors (view p) (view q) served l url (purging.at served) (epoch_number (epoch_in c)) refl refusal.turn in
        record {
          drew = None;
          opened = 0;
          looked = 0;
          adds = adds_by r (view p) (view q) served l refl (OfVisiting (anchor_for g url))
              (readers.refused g inner url (view p) c (view q) h)
              (λ d. of_visiting r (view q) served l d (anchor_for g url) (record { url = url; comes = purging.comes; anchor = refl }))
              shows
              (tells_by r (view q) served l refusal.cause
              (plain r (view q) served l (no_more r (view q) served l purging.no_more) (λ b e k. (shows b e k).seen) (purging.refuses c) refl (purging.began (answer.NoEntry c)) (purging.opened (answer.NoEntry c)) purging.offers (purging.fits served) (λ z. cc)))
              (λ y e bytes z. absurd (let k : answer.NoEntry c ≡ answer.Part e bytes = z in cc));
          tracks = tracks_whole tells state offers s told past served p q l leaves free (purging.alone (answer.NoEntry c)) tracks;
        }

    -- the entry was doomed, and then the station failed
    in_vain : (left : Epoch) → Acted None (OfPurging (anchor_for g url) (epoch_number left)) (view p) (view q) → AddsLine tells state offers s told past served (line (Wipe url)) p answer.Fault q
    in_vain left acted =
        let purging = wipes_whole url in
        let l = served_as (line (Wipe url)) answer.Fault None 0 0 in
        let shows = shows_none r.setting.anchors (view p) (view q) served l refl in
        record {
          drew = None;
          opened = 0;
          looked = 0;
          adds = adds_by r (view p) (view q) served l refl (OfPurging (anchor_for g url) (epoch_number left)) acted
              (λ d. of_purging r (view q) served l d (anchor_for g url) (epoch_number left) (record { url = url; comes = refl; anchor = refl })
              (inr (record { url = url; request = refl; anchor = refl; answered = refl })))
              shows
              (tells_by r (view q) served l (λ writes. absurd (writes refl))
              (plain r (view q) served l (no_more r (view q) served l purging.no_more) (λ b e k. (shows b e k).seen) tt refl (purging.began answer.Fault) (purging.opened answer.Fault) purging.offers tt (λ z. cc)))
              (λ y e bytes z. absurd (let k : answer.Fault ≡ answer.Part e bytes = z in cc));
          tracks = tracks_whole tells state offers s told past served p q l leaves free (purging.alone answer.Fault) tracks;
        }

    by_outcome : (a : Answer) (o : Result Epoch Cause) → IsTyped a → a ≡ answer_to_purge o → IfOk o (λ left. Purged g inner url (view p) left (view q)) → IfErr o (λ c. Refused g inner url (view p) c (view q))
        → AddsLine tells state offers s told past served (line (Purge url)) p a q
    by_outcome a (Ok left) fits is ok err = subst (λ (z : Answer). AddsLine tells state offers s told past served (line (Purge url)) p z q) (sym is)
        (doomed (Purge url) (answer.Purged left) left (purges_whole url) (purged_tells url left) (of_purge g inner url (view p) (view q) left ok) (purges.purged g inner ok))
    by_outcome a (Err c) fits is ok err = subst (λ (z : Answer). AddsLine tells state offers s told past served (line (Purge url)) p z q) (sym is)
        (refused (Purge url) c (purges_whole url) (subst IsTyped is fits) err)

    by_wipe : (a : Answer) (o : Result Wiped WipeFault) → IsTyped a → a ≡ answer_to_wipe o → IfOk o (WipedTells g url (view p) (view q)) → IfErr o (FaultTells g url (view p) (view q))
        → AddsLine tells state offers s told past served (line (Wipe url)) p a q
    by_wipe a (Ok (Gone left)) fits is ok err = subst (λ (z : Answer). AddsLine tells state offers s told past served (line (Wipe url)) p z q) (sym is)
        (doomed (Wipe url) (answer.Wiped left) left (wipes_whole url) (wiped_tells url left) (of_wipe g inner url (view p) (view q) left true ok) (wipes.last g inner ok))
    by_wipe a (Ok (Later left)) fits is ok err = subst (λ (z : Answer). AddsLine tells state offers s told past served (line (Wipe url)) p z q) (sym is)
        (doomed (Wipe url) (answer.Later left) left (wipes_whole url) (later_tells url left) (of_purge g inner url (view p) (view q) left ok.purged) (wipes.later g inner ok))
    by_wipe a (Err (NoEntry c)) fits is ok err = subst (λ (z : Answer). AddsLine tells state offers s told past served (line (Wipe url)) p z q) (sym is)
        (refused (Wipe url) c (wipes_whole url) (subst IsTyped is fits) err)
    by_wipe a (Err Fault) fits is ok err = subst (λ (z : Answer). AddsLine tells state offers s told past served (line (Wipe url)) p z q) (sym is)
        (in_vain err.0 (wipes.last g inner err.1))

  pub purge_adds : (a : Answer) → Tracks tells state offers s told past served p → Leaves tells state offers s whole_tab p q → IsTyped a → Purges tells state offers s url p a q → AddsLine tells state offers s told past served (line (Purge url)) p a q
  purge_adds a tracks leaves fits h =
      let free : IsFree q whole_tab = ap (λ (xs : List (Tab (List ℕ))). get_or xs whole_tab Free) h.same ∙ tracks.whole in
      by_outcome tracks leaves free a h.outcome fits h.answer_is h.purged h.refused

  pub wipe_adds : (a : Answer) → Tracks tells state offers s told past served p → Leaves tells state offers s whole_tab p q → IsTyped a → Wipes tells state offers s url p a q → AddsLine tells state offers s told past served (line (Wipe url)) p a q
  wipe_adds a tracks leaves fits h =
      let free : IsFree q whole_tab = ap (λ (xs : List (Tab (List ℕ))). get_or xs whole_tab Free) h.same ∙ tracks.whole in
      by_wipe tracks leaves free a h.outcome fits h.answer_is h.wiped h.refused
