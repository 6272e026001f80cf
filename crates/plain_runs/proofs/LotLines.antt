-- A line on a lot of a store that fits, by the pass to which its anchors are left, is answered as by the plain store, but for versions.
use Rattle.std.proofs.Common.{Bool, IsTrue, List, None, Option, Some, [], ap, arith, false, inl, inr, refl, subst, sym, true, ◌+◌, ◌<◌, ◌∙◌, ◌≡◌, ◌≢◌, ◌≤◌, ◌⊎◌, ◌∷◌, ℕ}
use Rattle.rock_disk.specs.Cell.{CellState}
use Rattle.script_text.specs.Requests.{offers_body}
use Rattle.script_text.specs.Tabs.{UsesTab}
use Rattle.script_text.specs.declared.answer.Answer.{Answer}
use Rattle.script_text.specs.declared.answer.Answer.TheVariants as answer
use Rattle.script_text.specs.declared.body.Body.{Body}
use Rattle.script_text.specs.declared.line.Line.{Line}
use Rattle.script_text.specs.declared.request.Request.{Request}
use Rattle.script_text.specs.declared.request.Request.TheVariants.{Add, Await, Begin, CloseTab, DropTab, End, Get, Mark, More, OpenTab, Purge, Put, Save, Wipe}
use Rattle.plain_model.specs.declared.store.Plain.{Plain}
use Rattle.plain_model.specs.declared.store.Setting.{Setting}
use Rattle.plain_model.specs.declared.store.Tab.TheVariants.{Free, Reading, Writing}
use Rattle.plain_model.specs.Serving.{bytes_of, get, put, serve}
use Rattle.plain_model.specs.Store.{entry_at, tab_at}
use Rattle.plain_model.specs.Writing.{Step, add, begin, end, give_up, step}
use Rattle.plain_model.specs.Reading.{close, more, open_tab, purge, wipe}
use Rattle.plain_laws.specs.Fitting.{need_at}
use Rattle.plain_laws.specs.Private.{is_of, names_only}
use Rattle.plain_laws.specs.Renaming.{CountsVersions, renamed}
use Rattle.plain_laws.proofs.Counted.{counted_along}
use Rattle.plain_laws.proofs.Keeping.{keeps_add, keeps_end, keeps_give_up}
use Rattle.plain_laws.proofs.Looking.{keeps_close, keeps_get, keeps_more, keeps_open, keeps_purge, keeps_wipe}
use Rattle.plain_laws.proofs.Roomed.{InRoom}
use Rattle.plain_laws.proofs.Running.{need_here, room_after, serve_room}
use Rattle.store_rule.specs.declared.store.Pass.{Pass}
use Rattle.store_rule.specs.declared.store.Store.{Store}
use Rattle.store_rule.specs.Ground.{Ground, Offers, anchor_for}
use Rattle.store_rule.specs.Passes.{basis, view}
use Rattle.rock_reader.specs.Reading.{ReadsAs, Standing}
use Rattle.rock_reader.specs.Responses.{HoldsFile}
use Rattle.rock_writer.specs.Entries.{Entry, WritesAs}
use Rattle.store_serve.specs.Answers.{is_fault}
use Rattle.store_serve.specs.Reading.{Closes, Opens, ReadsOn}
use Rattle.store_serve.specs.Serving.{MayAsk, Serves, ServesRequest, Takes, offer_of}
use Rattle.store_serve.specs.Tabs.{IsFree, IsMet, IsOffered, IsReading, IsTurnedAway, IsWriting, Leaves}
use Rattle.store_serve.specs.Whole.{Gets, Purges, Puts, Wipes, whole_tab}
use Rattle.store_serve.specs.Writing.{AddsTo, Begins, Drops, EndsEntry}
use Rattle.worker_shelf.proofs.Holding.{Stays}
use Rattle.worker_shelf.specs.Typed.{IsTyped}
use Rattle.crew_accounts.proofs.GivenBytes.{IsFromFront}
use Rattle.plain_runs.specs.Shows.{ShowsLot, ShowsTab, ShowsWriting}
use Rattle.plain_runs.specs.Words.{Lot, setting_of}
use Rattle.plain_runs.proofs.GetLines.{gets_right}
use Rattle.plain_runs.proofs.Giving.{IsGiven, adds_right, drops_right, ends_right, w as shown_writing}
use Rattle.plain_runs.proofs.LotRequests.{IsFitting, IsServedSo, ample, begins_so, puts_so, still_served}
use Rattle.plain_runs.proofs.Opening.{closes_right, mores_right, opens_right}
use Rattle.plain_runs.proofs.OtherTabs.{IsOwn, KeepsElse, add_keeps, begin_keeps, close_else, end_keeps, get_else, give_up_keeps, more_else, open_else, purge_else, put_keeps}
use Rattle.plain_runs.proofs.OwnAnchors.{OwnsLot}
use Rattle.plain_runs.proofs.PurgeLines.{purges_right, wipes_right}
use Rattle.plain_runs.proofs.Renamed.{IsRenamed}
use Rattle.plain_runs.proofs.Renamings.{Agrees, shows_renamed}
use Rattle.plain_runs.proofs.Reserving.{Supply}
use Rattle.plain_runs.proofs.ShowingOthers.{OneBegins, ShowsOn, shows_after}
use Rattle.plain_runs.proofs.ShownTabs.{of_free, of_reader, of_writer}

-- The line is a whole request at an anchor of the lot, or one on a tab of it, and names no other anchor.
pub record IsOfLot (s : Setting) (lot : Lot) (request : Request) : Type 0 where
  pub of : is_of s lot.anchors lot.tabs request ≡ true
  pub names : names_only s lot.anchors request ≡ true

module _ {C O : Type 0} (tells : Bool) (state : C → CellState) (offers : O → Offers) (s : Store C O) (lot : Lot) (cap : ℕ → ℕ) (whole : lot.tabs whole_tab ≡ true) (begins : OneBegins) (stays : Stays tells state offers s) (known : IsTrue tells)
    (file : HoldsFile (basis tells state offers s)) (from : IsFromFront) (sized : (basis tells state offers s).slot < 4294967296) where
  abbrev g : Ground (List ℕ)
  g = basis tells state offers s

  abbrev setting : Setting
  setting = setting_of g

  -- The answer to a line is that of this step of the plain store, by names that agree with those before and by all that agree with them then, and the
  -- pass shows what the step leaves of the lot.
  pub record LotServed (rename : ℕ → ℕ) (a : Answer) (q : Pass C) (plain : Plain) (made : Step) : Type 0 where
    pub names : ℕ → ℕ
    pub agrees : Agrees plain.counter rename names
    pub least : plain.counter ≤ made.after.counter
    pub answered : (other : ℕ → ℕ) → Agrees made.after.counter names other → a ≡ renamed other made.answer
    pub shows : ShowsLot tells state offers s names q made.after lot
    pub fit : IsFitting g lot cap names (view q) made.after

  module _ (rename : ℕ → ℕ) (script : List Line) (number : ℕ) (p q : Pass C) (a : Answer) (plain : Plain) (owns : OwnsLot g lot (view p).pass) (h : ShowsLot tells state offers s rename p plain lot) (fit : IsFitting g lot cap rename (view p) plain)
      (free : tab_at plain whole_tab ≡ Free) (fair : is_fault a ≡ false) (typed : IsTyped a) (some : (versions : ℕ) → a ≢ answer.Spent versions) where
    after_all : (t : ℕ) (made : Step) → t < 8 → lot.tabs t ≡ true → Leaves tells state offers s t p q → IsServedSo tells state offers s lot rename a q t plain made → KeepsElse t (IsOwn t plain) plain made.after
        → InRoom setting cap made.after → CountsVersions made.after → LotServed rename a q plain made
    after_all t made below mine leaves so keeps room counts = record {
      names = so.names;
      agrees = so.agrees;
      least = so.least;
      answered = λ other agrees. (so.served other agrees).answered;
      shows = shows_after tells state offers s so.names begins stays lot p q plain made.after t owns (shows_renamed tells state offers s rename so.names p plain fit.counts so.agrees lot h) leaves keeps (so.served so.names (λ n le. refl)).shows below mine;
      fit = record {
        fits_is = fit.fits_is;
        apart = fit.apart;
        room = room;
        counts = counts;
        is = so.is;
        least = let k = fit.least in let l = so.least in omega arith;
        newest = so.newest;
      };
    }

    -- of a request that gives out no version
    still : (t : ℕ) (made : Step) → Leaves tells state offers s t p q → made.after.counter ≡ plain.counter → ((other : ℕ → ℕ) → ShowsLot tells state offers s other p plain lot → IsRenamed tells state offers s other lot a q t made) → IsServedSo tells state offers s lot rename a q t plain made
    still t made leaves same served = still_served tells state offers s lot rename a q t plain made (view p) fit.is fit.newest leaves.keeps same
        (λ other agrees. served other (shows_renamed tells state offers s rename other p plain fit.counts agrees lot h))

    given_still : (other : ℕ → ℕ) (t : ℕ) (below : t < 8) (made : Step) → IsGiven tells state offers s lot other t below a q made → IsRenamed tells state offers s other lot a q t made
    given_still other t below made k = record { answered = k.answered; shows = k.shows }

    -- a tab that is turned away changed nothing
    turned_away : (other : ℕ → ℕ) → ShowsLot tells state offers s other p plain lot → (t : ℕ) (made : Step) → t < 8 → lot.tabs t ≡ true → IsTurnedAway p a q → made ≡ step answer.Tab plain → IsRenamed tells state offers s other lot a q t made
    turned_away other k t made below mine away is = record {
      answered = away.answered ∙ ap (λ (m : Step). renamed other m.answer) (sym is);
      shows = subst (λ (x : Plain). ShowsOn tells state offers s other lot q x t) (ap (λ (m : Step). m.after) (sym is))
          (subst (λ (x : Pass C). ShowsOn tells state offers s other lot x plain t) (sym away.still) record { knows = k.knows; hand = k.hand; tab = k.tabs t below mine; within = k.within t below mine });
    }

    abbrev offer : ℕ
    offer = offer_of tells state offers s number

    -- slots for what a tab of the lot writes
    supplied : (other : ℕ → ℕ) (t at : ℕ) (w : ShowsWriting tells state offers s other p plain t at) → Supply g lot t w.written.anchor (view p) plain
    supplied other t at w = inr (ample g cap w.written.anchor plain w.entry fit.fits_is fit.room (ap (entry_at plain) w.anchor_is ∙ w.there) w.grows)

    abbrev served_step : Request → Step
    served_step request = serve setting script record { worker = 1; number = number; request = request } plain

    pub request_right : (request : Request) → IsOfLot setting lot request → (offers_body request ≡ true → plain.counter < 4294901760) → ((b : ℕ) → need_at setting b request ≤ cap b) → MayAsk tells state offers s number request
        → ServesRequest tells state offers s number p a q request → ((t : ℕ) → UsesTab request t → Leaves tells state offers s t p q) → LotServed rename a q plain (served_step request)
    request_right request of below needs asks served leaves = of_request request of needs asks served leaves
        (room_after setting cap script record { worker = 1; number = number; request = request } plain fit.room (serve_room setting cap script 1 number request plain fit.room below needs))
        (counted_along setting script (record { worker = 1; number = number; request = request } ∷ []) plain fit.counts)
      where
        tab_low : (t : ℕ) → t ≤ 6 → t < 8
        tab_low t le = omega arith

        of_request : (request : Request) → IsOfLot setting lot request → ((b : ℕ) → need_at setting b request ≤ cap b) → MayAsk tells state offers s number request
            → ServesRequest tells state offers s number p a q request → ((t : ℕ) → UsesTab request t → Leaves tells state offers s t p q) → InRoom setting cap (served_step request).after → CountsVersions (served_step request).after
            → LotServed rename a q plain (served_step request)
        of_request (Put url body) of needs asks served leaves room counts = after_all 7 _ (omega arith) whole (leaves 7 refl)
            (puts_so tells state offers s lot cap rename p q plain a owns h fit (omega arith) free fair offer url body false asks of.of (leaves 7 refl).keeps (need_here setting cap url (bytes_of body) needs) typed some served)
            (put_keeps setting plain url (bytes_of body) offer) room counts
        of_request (Save url body) of needs asks served leaves room counts = after_all 7 _ (omega arith) whole (leaves 7 refl)
            (puts_so tells state offers s lot cap rename p q plain a owns h fit (omega arith) free fair offer url body true asks of.of (leaves 7 refl).keeps (need_here setting cap url (bytes_of body) needs) typed some served)
            (put_keeps setting plain url (bytes_of body) offer) room counts
        of_request (Get url) of needs asks served leaves room counts = after_all 7 _ (omega arith) whole (leaves 7 refl)
            (still 7 _ (leaves 7 refl) (keeps_get setting url plain).counter
            (λ other k. gets_right tells state offers s other lot begins known file from sized url p q plain owns k of.of a free typed fair served.stays served))
            (get_else setting plain (IsOwn 7 plain) url) room counts
        of_request (Purge url) of needs asks served leaves room counts = after_all 7 _ (omega arith) whole (leaves 7 refl)
            (still 7 _ (leaves 7 refl) (keeps_purge setting url plain).counter (λ other k. purges_right tells state offers s other lot url p plain owns k of.of whole a q free typed served.stays served))
            (purge_else 7 (IsOwn 7 plain) setting plain url) room counts
        of_request (Wipe url) of needs asks served leaves room counts = after_all 7 _ (omega arith) whole (leaves 7 refl)
            (still 7 _ (leaves 7 refl) (keeps_wipe setting url plain).counter (λ other k. wipes_right tells state offers s other lot url p plain owns k of.of whole a q free typed fair served.stays served))
            (purge_else 7 (IsOwn 7 plain) setting plain url) room counts
        of_request (Begin t url body) of needs asks served leaves room counts = let low : t < 8 = let b = asks.0 in omega arith in after_all t _ low of.of (leaves t refl)
            (of_free tells state offers s rename p plain t (h.tabs t low of.of) a q _ served
            (λ is met. begins_so tells state offers s lot cap rename p plain owns h fit t is low offer url body asks.1 of.names a q some met typed met.stays (leaves t refl).keeps)
            (λ at is away. still t _ (leaves t refl) (rw is refl) (λ other k. turned_away other k t _ low of.of away (rw is refl)))
            (λ at given is_other is away. still t _ (leaves t refl) (rw is refl) (λ other k. turned_away other k t _ low of.of away (rw is refl))))
            (begin_keeps setting plain t url (bytes_of body) offer) room counts
        of_request (Add t count) of needs asks served leaves room counts = let low : t < 8 = omega arith in after_all t _ low of.of (leaves t refl)
            (still t _ (leaves t refl) (keeps_add setting t count plain (tab_at plain t) refl).counter (λ other k. of_writer tells state offers s other p plain t (k.tabs t low of.of) a q _ served
            (λ at is met. given_still other t low _ (adds_right tells state offers s lot other t low p q plain a owns k of.of at is (supplied other t at (shown_writing tells state offers s lot other t low p q plain a owns k of.of at is)) count fair met))
            (λ is away. turned_away other k t _ low of.of away (rw is refl)) (λ at given is_other is away. turned_away other k t _ low of.of away (rw is refl))))
            (add_keeps t setting plain count) room counts
        of_request (End t) of needs asks served leaves room counts = let low : t < 8 = omega arith in after_all t _ low of.of (leaves t refl)
            (still t _ (leaves t refl) (keeps_end setting t plain (tab_at plain t) refl).counter (λ other k. of_writer tells state offers s other p plain t (k.tabs t low of.of) a q ((e : Entry) → WritesAs tells state offers s p t e → EndsEntry tells state offers s t p a q e) served
            (λ at is met. given_still other t low _ (ends_right tells state offers s lot other t low p q plain a owns k of.of at is (supplied other t at (shown_writing tells state offers s lot other t low p q plain a owns k of.of at is)) fair met))
            (λ is away. turned_away other k t _ low of.of away (rw is refl)) (λ at given is_other is away. turned_away other k t _ low of.of away (rw is refl))))
            (end_keeps t setting plain) room counts
        of_request (DropTab t) of needs asks served leaves room counts = let low : t < 8 = omega arith in after_all t _ low of.of (leaves t refl)
            (still t _ (leaves t refl) (keeps_give_up t plain (tab_at plain t) refl).counter (λ other k. of_writer tells state offers s other p plain t (k.tabs t low of.of) a q _ served
            (λ at is met. given_still other t low _ (drops_right tells state offers s lot other t low p q plain a owns k of.of at is met.stays met))
            (λ is away. turned_away other k t _ low of.of away (rw is refl)) (λ at given is_other is away. turned_away other k t _ low of.of away (rw is refl))))
            (give_up_keeps t setting plain) room counts
        of_request (OpenTab t url) of needs asks served leaves room counts = let low : t < 8 = let b = asks.0 in omega arith in after_all t _ low of.of (leaves t refl)
            (still t _ (leaves t refl) (keeps_open setting t url plain (tab_at plain t) refl).counter (λ other k. of_free tells state offers s other p plain t (k.tabs t low of.of) a q _ served
            (λ is met. opens_right tells state offers s other lot t url p plain owns k of.names low a q is typed met.stays met)
            (λ at is away. turned_away other k t _ low of.of away (rw is refl)) (λ at given is_other is away. turned_away other k t _ low of.of away (rw is refl))))
            (open_else t (IsOwn t plain) setting plain url) room counts
        of_request (More t) of needs asks served leaves room counts = let low : t < 8 = omega arith in after_all t _ low of.of (leaves t refl)
            (still t _ (leaves t refl) (keeps_more setting t plain (tab_at plain t) refl).counter (λ other k. of_reader tells state offers s other p plain t (k.tabs t low of.of) a q _ served
            (λ at given is_other is met. let r = subst (ShowsTab tells state offers s other p plain t) is (k.tabs t low of.of) in
            mores_right tells state offers s other lot t at given is_other p q a plain low owns k of.of is begins known file from sized fair (met r.standing r.reads).stays met)
            (λ is away. turned_away other k t _ low of.of away (rw is refl)) (λ at is away. turned_away other k t _ low of.of away (rw is refl))))
            (more_else t (IsOwn t plain) setting plain) room counts
        of_request (CloseTab t) of needs asks served leaves room counts = let low : t < 8 = omega arith in after_all t _ low of.of (leaves t refl)
            (still t _ (leaves t refl) (keeps_close t plain (tab_at plain t) refl).counter (λ other k. of_reader tells state offers s other p plain t (k.tabs t low of.of) a q _ served
            (λ at given is_other is met. closes_right tells state offers s other lot t at given is_other p q a plain low owns k of.of is met.stays met)
            (λ is away. turned_away other k t _ low of.of away (rw is refl)) (λ at is away. turned_away other k t _ low of.of away (rw is refl))))
            (close_else t (IsOwn t plain) setting plain) room counts
        of_request (Mark mark) of needs asks served leaves room counts = absurd served
        of_request (Await mark) of needs asks served leaves room counts = absurd served

  -- A line of the lot that the pass takes, that no fault meets and that is not answered that no version is left.
  pub lot_line : (rename : ℕ → ℕ) (script : List Line) (line : Line) (p q : Pass C) (a : Answer) (before after : ℕ) (plain : Plain) → OwnsLot g lot (view p).pass → IsOfLot setting lot line.request → Takes tells state offers s p line
      → Serves tells state offers s line p a q before after → IsTyped a → is_fault a ≡ false → ((versions : ℕ) → a ≢ answer.Spent versions) → ShowsLot tells state offers s rename p plain lot → IsFitting g lot cap rename (view p) plain
      → tab_at plain whole_tab ≡ Free → (offers_body line.request ≡ true → plain.counter < 4294901760) → ((b : ℕ) → need_at setting b line.request ≤ cap b) → LotServed rename a q plain (serve setting script line plain)
  lot_line rename script line p q a before after plain owns of takes served typed fair some shows fit free below needs =
      request_right rename script line.number p q a plain owns shows fit free fair typed some line.request of below needs takes.asks served.request served.leaves
