-- A line that a lone pass serves is answered as by the plain store, where each request is.
use Rattle.std.proofs.Common.{Bool, IsTrue, List, None, Option, Some, ap, arith, false, inl, inr, refl, subst, sym, true, ◌+◌, ◌<◌, ◌∙◌, ◌≡◌, ◌≢◌, ◌⊎◌, ℕ}
use Rattle.rock_disk.specs.Cell.{CellState}
use Rattle.store_key.specs.Url.{IsUrl}
use Rattle.db_layout.specs.Layout.{IsSlotSize}
use Rattle.script_text.specs.Tabs.{UsesTab}
use Rattle.script_text.specs.declared.answer.Answer.{Answer}
use Rattle.script_text.specs.declared.answer.Answer.TheVariants as answer
use Rattle.script_text.specs.declared.body.Body.{Body}
use Rattle.script_text.specs.declared.line.Line.{Line}
use Rattle.script_text.specs.declared.request.Request.{Request}
use Rattle.script_text.specs.declared.request.Request.TheVariants.{Add, Await, Begin, CloseTab, DropTab, End, Get, Mark, More, OpenTab, Purge, Put, Save, Wipe}
use Rattle.core_model.specs.Tabs.{inner, tab_at as view_tab}
use Rattle.core_model.specs.declared.tab.Tab.TheVariants as tab
use Rattle.plain_model.specs.declared.store.Plain.{Plain}
use Rattle.plain_model.specs.declared.store.Setting.{Setting}
use Rattle.plain_model.specs.declared.store.Tab.{Tab}
use Rattle.plain_model.specs.declared.store.Tab.TheVariants.{Free, Reading, Writing}
use Rattle.plain_model.specs.Store.{tab_at}
use Rattle.plain_model.specs.Writing.{Step, add, begin, end, give_up, step}
use Rattle.plain_model.specs.Reading.{close, more, open_tab, purge, wipe}
use Rattle.plain_model.specs.Serving.{bytes_of, get, leave, put, serve}
use Rattle.store_rule.specs.declared.store.Pass.{Pass}
use Rattle.store_rule.specs.declared.store.Store.{Store}
use Rattle.store_rule.specs.Ground.{Ground, Offers}
use Rattle.store_rule.specs.Passes.{basis, view}
use Rattle.rock_reader.specs.Closing.{Parted}
use Rattle.rock_reader.specs.Reading.{ReadsAs, Standing}
use Rattle.rock_reader.specs.Responses.{HoldsFile}
use Rattle.rock_writer.specs.Entries.{Entry, WritesAs}
use Rattle.rock_writer.specs.Halting.{Halts}
use Rattle.store_serve.specs.Answers.{is_fault}
use Rattle.store_serve.specs.Reading.{Closes, Opens, ReadsOn}
use Rattle.store_serve.specs.Serving.{MayAsk, Serves, ServesRequest, Takes, offer_of}
use Rattle.store_serve.specs.Tabs.{IsFree, IsMet, IsOffered, IsReading, IsTurnedAway, IsWriting, Leaves}
use Rattle.store_serve.specs.Whole.{Gets, Purges, Puts, Wipes, whole_tab}
use Rattle.store_serve.specs.Writing.{AddsTo, Begins, Drops, EndsEntry}
use Rattle.worker_shelf.proofs.Holding.{Stays}
use Rattle.worker_shelf.specs.Typed.{IsTyped}
use Rattle.plain_runs.specs.Words.{IsLone, setting_of, whole_lot}
use Rattle.plain_runs.specs.Shows.{Shows, ShowsReading, ShowsTab, ShowsWriting}
use Rattle.plain_runs.proofs.OtherTabs.{IsOwn, KeepsElse, add_keeps, begin_keeps, close_else, end_keeps, get_else, give_up_keeps, more_else, open_else, purge_else, put_keeps}
use Rattle.plain_runs.proofs.OwnAnchors.{lot_lone}
use Rattle.plain_runs.proofs.Renamed.{IsAs}
use Rattle.plain_runs.proofs.ShownTabs.{of_free, of_reader, of_writer}
use Rattle.plain_runs.proofs.ShowingOthers.{OneBegins, ShowsOn, shows_after, within_whole}

module _ {C O : Type 0} (tells : Bool) (state : C → CellState) (offers : O → Offers) (s : Store C O) where
  abbrev g : Ground (List ℕ)
  g = basis tells state offers s

  abbrev setting : Setting
  setting = setting_of g

  -- the pass shows the plain store, with its own versions
  abbrev ShowsPlain : Pass C → Plain → Type 0
  ShowsPlain p plain = Shows tells state offers s (λ v. v) p plain

  -- What is known of requests that were met, each on a tab that the plain store has so.
  pub record RequestsRight : Type 0 where
    pub begins : (t offer : ℕ) (url : List ℕ) (body : Body) (p q : Pass C) (a : Answer) (plain : Plain) → t < 8 → ShowsPlain p plain → tab_at plain t ≡ Free → IsOffered tells state offers s offer url body → IsTyped a
        → Begins tells state offers s t p a q offer url → IsAs tells state offers s a q t (begin setting t url (bytes_of body) offer plain)
    pub adds : (t count anchor : ℕ) (p q : Pass C) (a : Answer) (plain : Plain) → t < 8 → ShowsPlain p plain → tab_at plain t ≡ Writing anchor → is_fault a ≡ false
        → ((e : Entry) → WritesAs tells state offers s p t e → AddsTo tells state offers s t p a q count e) → IsAs tells state offers s a q t (add setting t count plain)
    pub ends : (t anchor : ℕ) (p q : Pass C) (a : Answer) (plain : Plain) → t < 8 → ShowsPlain p plain → tab_at plain t ≡ Writing anchor → is_fault a ≡ false
        → ((e : Entry) → WritesAs tells state offers s p t e → EndsEntry tells state offers s t p a q e) → IsAs tells state offers s a q t (end setting t plain)
    pub drops : (t anchor : ℕ) (p q : Pass C) (a : Answer) (plain : Plain) → t < 8 → ShowsPlain p plain → tab_at plain t ≡ Writing anchor → Drops tells state offers s t p a q → IsAs tells state offers s a q t (give_up t plain)
    pub puts : (offer : ℕ) (url : List ℕ) (body : Body) (durable : Bool) (p q : Pass C) (a : Answer) (plain : Plain) → ShowsPlain p plain → tab_at plain whole_tab ≡ Free → is_fault a ≡ false
        → IsOffered tells state offers s offer url body → IsTyped a → Puts tells state offers s url p a q offer durable → IsAs tells state offers s a q whole_tab (put setting url (bytes_of body) offer plain)
    pub opens : (t : ℕ) (url : List ℕ) (p q : Pass C) (a : Answer) (plain : Plain) → t < 8 → ShowsPlain p plain → tab_at plain t ≡ Free → IsTyped a → Opens tells state offers s t p a q url → IsAs tells state offers s a q t (open_tab setting t url plain)
    pub mores : (t anchor given : ℕ) (is_other : Bool) (p q : Pass C) (a : Answer) (plain : Plain) → t < 8 → ShowsPlain p plain → tab_at plain t ≡ Reading anchor given is_other → is_fault a ≡ false
        → ((e : Standing) → ReadsAs tells state offers s p t e → ReadsOn tells state offers s t p a q e) → IsAs tells state offers s a q t (more setting t plain)
    pub closes : (t anchor given : ℕ) (is_other : Bool) (p q : Pass C) (a : Answer) (plain : Plain) → t < 8 → ShowsPlain p plain → tab_at plain t ≡ Reading anchor given is_other → Closes tells state offers s t p a q → IsAs tells state offers s a q t (close t plain)
    pub gets : (url : List ℕ) (p q : Pass C) (a : Answer) (plain : Plain) → ShowsPlain p plain → tab_at plain whole_tab ≡ Free → IsTyped a → is_fault a ≡ false → Gets tells state offers s url p a q → IsAs tells state offers s a q whole_tab (get setting url plain)
    pub purges : (url : List ℕ) (p q : Pass C) (a : Answer) (plain : Plain) → ShowsPlain p plain → tab_at plain whole_tab ≡ Free → IsTyped a → Purges tells state offers s url p a q → IsAs tells state offers s a q whole_tab (purge setting url plain)
    pub wipes : (url : List ℕ) (p q : Pass C) (a : Answer) (plain : Plain) → ShowsPlain p plain → tab_at plain whole_tab ≡ Free → IsTyped a → is_fault a ≡ false → Wipes tells state offers s url p a q → IsAs tells state offers s a q whole_tab (wipe setting url plain)

  module _ (p : Pass C) (plain : Plain) (h : ShowsPlain p plain) (t : ℕ) (below : t < 8) where
    shown : ShowsTab tells state offers s (λ v. v) p plain t (tab_at plain t)
    shown = h.tabs t below refl

    -- a tab that is turned away changed nothing
    turned_away : (a : Answer) (q : Pass C) (made : Step) → IsTurnedAway p a q → made ≡ step answer.Tab plain → IsAs tells state offers s a q t made
    turned_away a q made away is = record {
      answered = away.answered ∙ ap (λ (m : Step). m.answer) (sym is);
      shows = subst (λ (x : Plain). ShowsOn tells state offers s (λ v. v) whole_lot q x t) (ap (λ (m : Step). m.after) (sym is))
          (subst (λ (x : Pass C). ShowsOn tells state offers s (λ v. v) whole_lot x plain t) (sym away.still) record { knows = h.knows; hand = h.hand; tab = shown; within = within_whole (tab_at plain t) });
    }

    -- a request on a free tab, on one that writes, and on one that reads
    pub on_free : (a : Answer) (q : Pass C) (made : Step) (Met : Type 0) → IsMet (IsFree p t) Met p a q → (tab_at plain t ≡ Free → Met → IsAs tells state offers s a q t made)
        → ((at : ℕ) → tab_at plain t ≡ Writing at → made ≡ step answer.Tab plain) → ((at given : ℕ) (is_other : Bool) → tab_at plain t ≡ Reading at given is_other → made ≡ step answer.Tab plain) → IsAs tells state offers s a q t made
    on_free a q made Met met right writes reads = of_free tells state offers s (λ v. v) p plain t shown a q Met met right
        (λ at is away. turned_away a q made away (writes at is)) (λ at given is_other is away. turned_away a q made away (reads at given is_other is))

    pub on_writer : (a : Answer) (q : Pass C) (made : Step) (Met : Type 0) → IsMet (IsWriting tells state offers s p t) Met p a q → ((at : ℕ) → tab_at plain t ≡ Writing at → Met → IsAs tells state offers s a q t made)
        → (tab_at plain t ≡ Free → made ≡ step answer.Tab plain) → ((at given : ℕ) (is_other : Bool) → tab_at plain t ≡ Reading at given is_other → made ≡ step answer.Tab plain) → IsAs tells state offers s a q t made
    on_writer a q made Met met right free reads = of_writer tells state offers s (λ v. v) p plain t shown a q Met met right
        (λ is away. turned_away a q made away (free is)) (λ at given is_other is away. turned_away a q made away (reads at given is_other is))

    pub on_reader : (a : Answer) (q : Pass C) (made : Step) (Met : Type 0) → IsMet (IsReading tells state offers s p t) Met p a q → ((at given : ℕ) (is_other : Bool) → tab_at plain t ≡ Reading at given is_other → Met → IsAs tells state offers s a q t made)
        → (tab_at plain t ≡ Free → made ≡ step answer.Tab plain) → ((at : ℕ) → tab_at plain t ≡ Writing at → made ≡ step answer.Tab plain) → IsAs tells state offers s a q t made
    on_reader a q made Met met right free writes = of_reader tells state offers s (λ v. v) p plain t shown a q Met met right
        (λ is away. turned_away a q made away (free is)) (λ at is away. turned_away a q made away (writes at is))

  -- The lines of all requests.
  module _ (right : RequestsRight) (script : List Line) (number : ℕ) (p q : Pass C) (a : Answer) (plain : Plain) (h : ShowsPlain p plain) (whole : tab_at plain whole_tab ≡ Free) (fair : is_fault a ≡ false) (typed : IsTyped a) where
    -- what is left is what the plain store leaves, with all its tabs
    abbrev Goal : Step → Type 0
    Goal made = (a ≡ made.answer) × ShowsPlain q made.after

    module _ (begins : OneBegins) (stays : Stays tells state offers s) (lone : IsLone g) where
      after_all : (t : ℕ) (made : Step) → t < 8 → Leaves tells state offers s t p q → IsAs tells state offers s a q t made → KeepsElse t (IsOwn t plain) plain made.after → Goal made
      after_all t made below leaves is keeps = (is.answered, shows_after tells state offers s (λ v. v) begins stays whole_lot p q plain made.after t (lot_lone g lone whole_lot (view p).pass) h leaves keeps is.shows below refl)

      abbrev offer : ℕ
      offer = offer_of tells state offers s number

      pub request_right : (request : Request) → MayAsk tells state offers s number request → ServesRequest tells state offers s number p a q request
          → ((t : ℕ) → UsesTab request t → Leaves tells state offers s t p q) → Goal (serve setting script record { worker = 1; number = number; request = request } plain)
      request_right (Put url body) asks served leaves = after_all 7 _ (omega arith) (leaves 7 refl) (right.puts offer url body false p q a plain h whole fair asks typed served) (put_keeps setting plain url (bytes_of body) offer)
      request_right (Save url body) asks served leaves = after_all 7 _ (omega arith) (leaves 7 refl) (right.puts offer url body true p q a plain h whole fair asks typed served) (put_keeps setting plain url (bytes_of body) offer)
      request_right (Get url) asks served leaves = after_all 7 _ (omega arith) (leaves 7 refl) (right.gets url p q a plain h whole typed fair served) (get_else setting plain (IsOwn 7 plain) url)
      request_right (Purge url) asks served leaves = after_all 7 _ (omega arith) (leaves 7 refl) (right.purges url p q a plain h whole typed served) (purge_else 7 (IsOwn 7 plain) setting plain url)
      request_right (Wipe url) asks served leaves = after_all 7 _ (omega arith) (leaves 7 refl) (right.wipes url p q a plain h whole typed fair served) (purge_else 7 (IsOwn 7 plain) setting plain url)
      request_right (Begin t url body) asks served leaves = let below : t < 8 = let b = asks.0 in omega arith in after_all t _ below (leaves t refl)
          (on_free p plain h t below a q _ (Begins tells state offers s t p a q offer url) served (λ free met. right.begins t offer url body p q a plain below h free asks.1 typed met) (λ at is. rw is refl) (λ at given is_other is. rw is refl))
          (begin_keeps setting plain t url (bytes_of body) offer)
      request_right (Add t count) asks served leaves = let below : t < 8 = omega arith in after_all t _ below (leaves t refl)
          (on_writer p plain h t below a q _ ((e : Entry) → WritesAs tells state offers s p t e → AddsTo tells state offers s t p a q count e) served (λ at is met. right.adds t count at p q a plain below h is fair met) (λ is. rw is refl) (λ at given is_other is. rw is refl))
          (add_keeps t setting plain count)
      request_right (End t) asks served leaves = let below : t < 8 = omega arith in after_all t _ below (leaves t refl)
          (on_writer p plain h t below a q _ ((e : Entry) → WritesAs tells state offers s p t e → EndsEntry tells state offers s t p a q e) served (λ at is met. right.ends t at p q a plain below h is fair met) (λ is. rw is refl) (λ at given is_other is. rw is refl))
          (end_keeps t setting plain)
      request_right (DropTab t) asks served leaves = let below : t < 8 = omega arith in after_all t _ below (leaves t refl)
          (on_writer p plain h t below a q _ (Drops tells state offers s t p a q) served (λ at is met. right.drops t at p q a plain below h is met) (λ is. rw is refl) (λ at given is_other is. rw is refl))
          (give_up_keeps t setting plain)
      request_right (OpenTab t url) asks served leaves = let below : t < 8 = let b = asks.0 in omega arith in after_all t _ below (leaves t refl)
          (on_free p plain h t below a q _ (Opens tells state offers s t p a q url) served (λ free met. right.opens t url p q a plain below h free typed met) (λ at is. rw is refl) (λ at given is_other is. rw is refl))
          (open_else t (IsOwn t plain) setting plain url)
      request_right (More t) asks served leaves = let below : t < 8 = omega arith in after_all t _ below (leaves t refl)
          (on_reader p plain h t below a q _ ((e : Standing) → ReadsAs tells state offers s p t e → ReadsOn tells state offers s t p a q e) served (λ at given is_other is met. right.mores t at given is_other p q a plain below h is fair met) (λ is. rw is refl) (λ at is. rw is refl))
          (more_else t (IsOwn t plain) setting plain)
      request_right (CloseTab t) asks served leaves = let below : t < 8 = omega arith in after_all t _ below (leaves t refl)
          (on_reader p plain h t below a q _ (Closes tells state offers s t p a q) served (λ at given is_other is met. right.closes t at given is_other p q a plain below h is met) (λ is. rw is refl) (λ at is. rw is refl))
          (close_else t (IsOwn t plain) setting plain)
      request_right (Mark mark) asks served leaves = absurd served
      request_right (Await mark) asks served leaves = absurd served
