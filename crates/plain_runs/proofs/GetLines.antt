-- An entry is got as by the plain store: it is opened on the last tab, read as far as it goes, and closed.
use Rattle.std.proofs.Common.{Bool, List, None, Some, ap, arith, false, get_or, get_or-set_other, get_or-set_same, length, length-set, refl, subst, sym, true, ◌<◌, ◌∙◌, ◌≡◌, ℕ}
use Rattle.std.specs.Prelude.{IsTrue}
use Rattle.lock_word.specs.declared.cause.Cause.{Cause}
use Rattle.rock_disk.specs.Cell.{CellState}
use Rattle.script_text.specs.declared.answer.Answer.{Answer}
use Rattle.script_text.specs.declared.answer.Answer.TheVariants as answer
use Rattle.store_key.specs.Key.{key_of}
use Rattle.core_model.specs.Tabs as core
use Rattle.core_model.specs.Tabs.{InnerIsFree, inner}
use Rattle.core_model.specs.declared.tab.Tab as core_tab
use Rattle.plain_model.specs.declared.store.Plain.{Plain}
use Rattle.plain_model.specs.declared.store.Tab.TheVariants.{Free, Reading}
use Rattle.plain_model.specs.Reading.{close, judge, more}
use Rattle.plain_model.specs.Serving.{get, hit_by}
use Rattle.plain_model.specs.Store.{place_at, tab_at}
use Rattle.plain_model.specs.Writing.{Step, step}
use Rattle.plain_laws.specs.Renaming.{renamed}
use Rattle.store_rule.specs.declared.store.Pass.{Pass}
use Rattle.store_rule.specs.declared.store.Store.{Store}
use Rattle.store_rule.specs.Ground.{Ground, Offers, anchor_for}
use Rattle.store_rule.specs.Passes.{basis, view}
use Rattle.slice_chain.specs.Victims.{hand_in}
use Rattle.rock_reader.specs.Reading.{Standing, newly}
use Rattle.rock_reader.specs.Responses.{HoldsFile}
use Rattle.rock_reader.specs.declared.answer.More.{More}
use Rattle.rock_reader.specs.declared.answer.More.TheVariants as more_answer
use Rattle.store_serve.specs.Following.{WentOn}
use Rattle.store_serve.specs.Getting.{GotAs, GotEntry}
use Rattle.store_serve.specs.declared.getting.Got.{Got}
use Rattle.store_serve.specs.declared.getting.Got.TheVariants.{Found, Missing}
use Rattle.store_serve.specs.Answers.{AnswersGet, AnswersMore, AnswersWhole, is_fault}
use Rattle.store_serve.specs.Tabs.{IsFree}
use Rattle.store_serve.specs.Whole.{Gets, whole_tab}
use Rattle.worker_shelf.specs.Typed.{IsTyped}
use Rattle.crew_accounts.proofs.GivenBytes.{IsFromFront}
use Rattle.store_serve.proofs.Readers.{gave, opened}
use Rattle.crew_accounts.proofs.ReadingOn.{gives_on}
use Rattle.plain_runs.specs.Shows.{Shows, ShowsLot, ShowsTab}
use Rattle.plain_runs.specs.Words.{IsLone, Lot, setting_of, whole_lot}
use Rattle.plain_runs.proofs.OwnAnchors.{OwnsLot, lot_lone, lot_stays}
use Rattle.plain_runs.proofs.InnerTabs.{went_inner}
use Rattle.plain_runs.proofs.Opening.{OpenRight, closed_shows, opened_right, opened_store, other_url, refused_right}
use Rattle.plain_runs.proofs.Renamed.{IsAs, IsRenamed, own_step, renamed_step}
use Rattle.plain_runs.proofs.Reading.{ReadRight, more_hand, more_long, more_reads, went_right}
use Rattle.plain_runs.proofs.ShowingOthers.{OneBegins, ShowsOn, within_free}

-- the answer to the last bytes, where a whole response was read
whole_answer : (version : ℕ) (why : More) (bytes : List ℕ) (a : Answer) → AnswersWhole version why bytes a → (b : Answer) × AnswersMore why bytes b × (a ≡ hit_by version b)
whole_answer version (more_answer.Piece count) bytes a is = absurd is
whole_answer version (more_answer.NotYet epoch) bytes a is = (answer.Part epoch bytes, refl, is)
whole_answer version more_answer.End bytes a is = (answer.End bytes, refl, is)
whole_answer version more_answer.Halted bytes a is = (answer.Halted bytes, refl, is)
whole_answer version more_answer.OtherUrl bytes a is = (answer.OtherUrl, refl, is)
whole_answer version more_answer.Fault bytes a is = (answer.ReadFault bytes, refl, is)

whole_fault : (version : ℕ) (why : More) (bytes : List ℕ) (a : Answer) → AnswersWhole version why bytes a → is_fault a ≡ false → why ≡ more_answer.Fault → ⊥
whole_fault version why bytes a is fair e = let told : a ≡ answer.ReadFault bytes = subst (λ (w : More). AnswersWhole version w bytes a) e is in let z : true ≡ false = sym (ap is_fault told) ∙ fair in cc

hit_renamed : (rename : ℕ → ℕ) (version : ℕ) (a : Answer) → hit_by (rename version) (renamed rename a) ≡ renamed rename (hit_by version a)
hit_renamed rename version (answer.End bytes) = refl
hit_renamed rename version a = refl

module _ {C O : Type 0} (tells : Bool) (state : C → CellState) (offers : O → Offers) (s : Store C O) (rename : ℕ → ℕ) (lot : Lot) (begins : OneBegins) (known : IsTrue tells) (file : HoldsFile (basis tells state offers s))
    (from : IsFromFront) (sized : (basis tells state offers s).slot < 4294967296) (url : List ℕ) (p q : Pass C) (pl : Plain) (owns : OwnsLot (basis tells state offers s) lot (view p).pass)
    (h : ShowsLot tells state offers s rename p pl lot) (ours : lot.anchors (anchor_for (basis tells state offers s) url) ≡ true) where
  abbrev g : Ground (List ℕ)
  g = basis tells state offers s

  abbrev a : ℕ
  a = anchor_for g url

  below : 7 < 8
  below = omega arith

  -- What the plain store does.
  module _ (free : tab_at pl 7 ≡ Free) where
    get_misses : (c : Cause) → judge (setting_of g) pl a (key_of url) ≡ Some c → get (setting_of g) url pl ≡ step (answer.Miss c) pl
    get_misses c j = rw (free, j) refl

    get_hits : judge (setting_of g) pl a (key_of url) ≡ None → get (setting_of g) url pl ≡ step (hit_by (place_at pl a).version (more (setting_of g) 7 (opened_store tells state offers s rename lot 7 url p pl owns h ours below)).answer)
        (close 7 (more (setting_of g) 7 (opened_store tells state offers s rename lot 7 url p pl owns h ours below)).after).after
    get_hits j = rw (free, j) refl

  -- so it is answered
  abbrev GetsRight : Answer → Type 0
  GetsRight given = IsRenamed tells state offers s rename lot given q 7 (get (setting_of g) url pl)

  is_step : (given : Answer) (r : Step) → get (setting_of g) url pl ≡ r → given ≡ renamed rename r.answer → ShowsOn tells state offers s rename lot q r.after 7 → GetsRight given
  is_step given r e answered shows = renamed_step tells state offers s rename lot given q 7 (get (setting_of g) url pl) r e answered shows

  module _ (free : tab_at pl 7 ≡ Free) (given : Answer) (typed : IsTyped given) (fair : is_fault given ≡ false) (hand : q.hand ≡ p.hand) (freed : IsFree q 7) where
    hand_is : hand_in g.setting.anchors q.hand ≡ pl.hand
    hand_is = ap (hand_in g.setting.anchors) hand ∙ h.hand

    module _ (version : ℕ) (ended : More) (bytes : List ℕ) (is : AnswersWhole version ended bytes given) (got : GotEntry tells state offers s 7 url p q bytes version ended) where
      abbrev pl1 : Plain
      pl1 = opened_store tells state offers s rename lot 7 url p pl owns h ours below

      abbrev other : Bool
      other = other_url tells state offers s rename lot 7 url p pl owns h ours below

      r : OpenRight tells state offers s rename lot 7 url p pl owns h ours below version got.offer got.opened got.reads
      r = opened_right tells state offers s rename lot 7 url p pl owns h ours below free got.opened version got.opens got.offer got.reads

      eight1 : length pl1.tabs ≡ 8
      eight1 = length-set pl.tabs 7 _ ∙ h.eight

      at1 : tab_at pl1 7 ≡ Reading a 0 other
      at1 = get_or-set_same pl.tabs 7 (Reading a 0 other) Free (let e = h.eight in omega arith)

      went : WentOn tells state offers s 7 r.tab.standing got.opened got.read bytes ended
      went = subst (λ (z : Standing). WentOn tells state offers s 7 z got.opened got.read bytes ended) (sym r.standing) got.went

      -- the pass keeps its number
      opened_pass : (view got.opened).pass ≡ (view p).pass
      opened_pass = (opened g 7 got.opens).pass

      read_pass : (view got.read).pass ≡ (view p).pass
      read_pass = (gave tells state offers s 7 went.standing went.middle went.before went.after got.read ended went.ends).pass
          ∙ (gives_on tells state offers s 7 r.tab.standing got.opened went.calls went.standing went.middle _ r.tab.reads went.gives).keeps.pass ∙ opened_pass

      m : ReadRight tells state offers s rename 7 lot ended bytes got.read (more (setting_of g) 7 pl1)
      m = went_right tells state offers s rename 7 begins known file from sized got.opened got.read pl1 a 0 eight1 below lot r.knows (lot_stays g lot (view p) (view got.opened) opened_pass owns a r.tab.inside ours) ours other at1 r.tab ended bytes went (whole_fault version ended bytes given is fair)

      abbrev pl2 : Plain
      pl2 = (more (setting_of g) 7 pl1).after

      reads2 : (n : ℕ) × (o : Bool) × (tab_at pl2 7 ≡ Reading a n o)
      reads2 = more_reads (setting_of g) 7 a 0 other pl1 (let e = eight1 in omega arith) at1

      inner2 : InnerIsFree (view got.read)
      inner2 = ap core.is_free (went_inner tells state offers s 7 (λ e. omega arith) (newly (anchor_for g url) version got.offer url) got.opened got.read bytes ended got.went)
          ∙ ap (λ (xs : List (core_tab.Tab (List ℕ))). core.is_free (get_or xs inner core_tab.Tab.Free)) got.opens.tabs
          ∙ ap core.is_free (get_or-set_other (view p).tabs 7 inner _ core_tab.Tab.Free (λ e. omega arith)) ∙ h.inner_free

      closed : ShowsOn tells state offers s rename lot q (close 7 pl2).after 7
      closed = closed_shows tells state offers s rename lot 7 got.read q pl2 a reads2.0 reads2.1 (more_long (setting_of g) 7 a 0 other pl1 at1 ∙ eight1) below inner2 m.knows reads2.2
          (subst (ShowsTab tells state offers s rename got.read pl2 7) reads2.2 m.tab) (lot_stays g lot (view p) (view got.read) read_pass owns) ours got.parted freed (hand_is ∙ sym (more_hand (setting_of g) 7 pl1))

      answered : given ≡ renamed rename (hit_by (place_at pl a).version (more (setting_of g) 7 pl1).answer)
      answered = let b = whole_answer version ended bytes given is in
          b.2 ∙ (λ i. hit_by (r.version_is i) (m.answer b.0 b.1 i)) ∙ hit_renamed rename (place_at pl a).version (more (setting_of g) 7 pl1).answer

      of_entry : GetsRight given
      of_entry = is_step given (step (hit_by (place_at pl a).version (more (setting_of g) 7 pl1).answer) (close 7 pl2).after) (get_hits free r.judged) answered closed

    got_right : (got : Got) (bytes : List ℕ) → AnswersGet got bytes given → GotAs tells state offers s 7 url p q bytes got → GetsRight given
    got_right (Missing cause) bytes is got =
        let r = refused_right tells state offers s rename lot 7 url p pl owns h ours below (view q) cause (subst IsTyped is typed) got.1 in
        is_step given (step (answer.Miss r.cause) pl) (get_misses free r.cause r.judged) (is ∙ ap answer.Miss r.cause_is)
        record { knows = r.knows; hand = hand_is; tab = subst (ShowsTab tells state offers s rename q pl 7) (sym free) freed; within = within_free lot (tab_at pl 7) free }
    got_right (Found version ended) bytes is got = of_entry version ended bytes is got

  -- A request to get the entry of a URL.
  pub gets_right : (given : Answer) → tab_at pl whole_tab ≡ Free → IsTyped given → is_fault given ≡ false → q.hand ≡ p.hand → Gets tells state offers s url p given q → IsRenamed tells state offers s rename lot given q whole_tab (get (setting_of g) url pl)
  gets_right given free typed fair hand k = got_right free given typed fair hand k.free k.got k.bytes k.answer_is k.went

-- The request, where each version stands for itself.
module _ {C O : Type 0} (tells : Bool) (state : C → CellState) (offers : O → Offers) (s : Store C O) (lone : IsLone (basis tells state offers s)) where
  pub gets_as : OneBegins → IsTrue tells → HoldsFile (basis tells state offers s) → IsFromFront → (basis tells state offers s).slot < 4294967296 → (url : List ℕ) (p q : Pass C) (given : Answer) (plain : Plain)
      → Shows tells state offers s (λ v. v) p plain → tab_at plain whole_tab ≡ Free → IsTyped given → is_fault given ≡ false → q.hand ≡ p.hand → Gets tells state offers s url p given q
      → IsAs tells state offers s given q whole_tab (get (setting_of (basis tells state offers s)) url plain)
  gets_as begins known file from sized url p q given plain shows free typed fair hand h =
      own_step tells state offers s given q whole_tab _ (gets_right tells state offers s (λ v. v) whole_lot begins known file from sized url p q plain (lot_lone (basis tells state offers s) lone whole_lot (view p).pass) shows refl given free typed fair hand h)
