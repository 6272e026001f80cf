-- An entry that a line begins is begun as in the plain store.
use Rattle.std.proofs.Common.{Bool, Err, List, Ok, Result, Some, ap, arith, false, get_or-set_same, inl, inr, length, nat_lt, refl, subst, sym, true, ◌+◌, ◌<◌, ◌∙◌, ◌≡◌, ◌≤◌, ◌⊎◌, ℕ}
use Rattle.std.specs.Prelude.{IfErr, IfOk, OnErr, nat_le, ◌||◌, ◌↔◌}
use Rattle.std.proofs.lemmas.Bool.Decides.{nat_tests}
use Rattle.rock_disk.specs.Cell.{CellState}
use Rattle.lock_word.specs.Words.{is_idle, is_vacant, version_limit, word_number}
use Rattle.lock_word.specs.declared.word.Word.{Word}
use Rattle.script_text.specs.declared.answer.Answer.{Answer}
use Rattle.script_text.specs.declared.answer.Answer.TheVariants as answer
use Rattle.script_text.specs.declared.body.Body.{Body}
use Rattle.store_key.specs.Anchor.{anchor_of}
use Rattle.store_key.specs.Key.{key_of}
use Rattle.entry_cut.specs.Content.{LeavesRoom}
use Rattle.core_model.specs.declared.view.Place.TheVariants.{Anchor}
use Rattle.core_model.specs.declared.view.View.{View}
use Rattle.store_rule.specs.Words.{Mine, has}
use Rattle.plain_model.specs.declared.entry.Entry.{Entry}
use Rattle.plain_model.specs.declared.entry.Place.{Place as PlaceOf}
use Rattle.plain_model.specs.declared.store.Plain.{Plain}
use Rattle.plain_model.specs.declared.store.Setting.{Setting}
use Rattle.plain_model.specs.declared.store.Tab.TheVariants.{Free, Writing}
use Rattle.plain_model.specs.Place.{nothing}
use Rattle.plain_model.specs.Serving.{bytes_of, put}
use Rattle.plain_model.specs.Store.{is_idle_at, is_vacant_at, meta_size, place_at, tab_at, word_at}
use Rattle.plain_model.specs.Writing.{Step, begin, begin_free, end, entry_of, step, taken_by}
use Rattle.plain_laws.specs.Renaming.{renamed, renamed_word}
use Rattle.store_rule.specs.declared.store.Pass.{Pass}
use Rattle.store_rule.specs.declared.store.Store.{Store}
use Rattle.store_rule.specs.Ground.{Ground, Offers, anchor_for}
use Rattle.store_rule.specs.Passes.{basis, view}
use Rattle.slice_chain.specs.Victims.{hand_in}
use Rattle.rock_reader.specs.Responses.{IsOffered as IsResponseOf}
use Rattle.rock_writer.specs.Beginning.{Began, InUse, IsTooLong, NotTaken, Overtaken}
use Rattle.rock_writer.specs.declared.fault.BeginFault.{BeginFault}
use Rattle.rock_writer.specs.declared.fault.BeginFault.TheVariants.{Busy, LongUrl, Spent}
use Rattle.rw_anchor.specs.Calls.{SpentAtDraw, SpentAtLook}
use Rattle.store_serve.specs.Answers.{answer_to_begin, answer_to_refusal}
use Rattle.store_serve.specs.Tabs.{IsFree, IsOffered}
use Rattle.store_serve.specs.Writing.{Begins}
use Rattle.worker_shelf.specs.Typed.{IsTyped}
use Rattle.plain_runs.specs.Words.{IsLone, Knows, KnowsLot, Lot, no_guests, setting_of, whole_lot}
use Rattle.plain_runs.specs.Shows.{Shows, ShowsLot, ShowsTab, ShowsWriting}
use Rattle.plain_runs.proofs.Beginning.{DrewNext, began_knows, drew_next, looked_is, looked_same, never_overtaken, never_spent_at_draw, spent_at_look, took_open}
use Rattle.plain_runs.proofs.Frames.{knows_same}
use Rattle.plain_runs.proofs.Freeing.{FewReaders}
use Rattle.plain_runs.proofs.OwnAnchors.{OwnsLot, lot_lone}
use Rattle.plain_runs.proofs.Renamed.{IsAs}
use Rattle.plain_runs.proofs.ShowingOthers.{within_whole}
use Rattle.plain_runs.proofs.OwnVersions.{same_answer}
use Rattle.plain_runs.proofs.PlainWords.{idle_there, readers_fit, vacant_there, word_there}

-- What the plain store does by its tests.

module _ (s : Setting) (tab : ℕ) (url body : List ℕ) (offer : ℕ) (p : Plain) where
  abbrev there : ℕ
  there = anchor_of (key_of url) s.anchors

  begin_long : s.room < meta_size url → begin_free s tab url body offer p ≡ step answer.LongUrl p
  begin_long long = let t : nat_lt s.room (meta_size url) ≡ true = grind (arith, nat_tests) in rw t refl

  module _ (short : meta_size url ≤ s.room) where
    short_test : nat_lt s.room (meta_size url) ≡ false
    short_test = grind (arith, nat_tests)

    begin_busy : (is_vacant_at p there || is_idle_at p there) ≡ false → begin_free s tab url body offer p ≡ step (answer.Busy (word_at s p there) (word_at s p there)) p
    begin_busy busy = rw (short_test, busy) refl

    begin_spent : (is_vacant_at p there || is_idle_at p there) ≡ true → version_limit ≤ p.counter → begin_free s tab url body offer p ≡ step (answer.Spent p.counter) p
    begin_spent open_to spent = let t : nat_le 4294901760 p.counter ≡ true = grind (arith, nat_tests) in rw (short_test, open_to, t) refl

    begin_begun : (is_vacant_at p there || is_idle_at p there) ≡ true → p.counter < version_limit → begin_free s tab url body offer p ≡ step (answer.Begun (p.counter + 1)) (taken_by tab there (entry_of url body offer) p)
    begin_begun open_to left = let t : nat_le 4294901760 p.counter ≡ false = grind (arith, nat_tests) in rw (short_test, open_to, t) refl

module _ {C O : Type 0} (tells : Bool) (state : C → CellState) (offers : O → Offers) (s : Store C O) (rename : ℕ → ℕ) (lot : Lot) (pass : Pass C) (p : Plain)
    (owns : OwnsLot (basis tells state offers s) lot (view pass).pass) (shows : ShowsLot tells state offers s rename pass p lot) (t : ℕ) (free : tab_at p t ≡ Free) (below : t < 8) (offer : ℕ) (url : List ℕ) (body : Body) (offered : IsOffered tells state offers s offer url body)
    (ours : lot.anchors (anchor_for (basis tells state offers s) url) ≡ true) where
  abbrev g : Ground (List ℕ)
  g = basis tells state offers s

  abbrev a : ℕ
  a = anchor_for g url

  abbrev begins : Step
  begins = begin_free (setting_of g) t url (bytes_of body) offer p

  few : FewReaders p no_guests
  few b = readers_fit p b 0 shows.eight (omega arith)

  mine : a < g.setting.anchors → Mine g (view pass) (Anchor a)
  mine lt = (owns a lt ours).words (view pass) (Anchor a) refl refl

  inside_tabs : t < length p.tabs
  inside_tabs = let n = shows.eight in omega arith

  -- what the word of the anchor allows, the plain store allows
  open_is : (n : ℕ) → a < g.setting.anchors → n ≡ has g (view pass) (Anchor a) → (is_vacant n || is_idle n) ≡ (is_vacant_at p a || is_idle_at p a)
  open_is n lt is = let k : n ≡ word_number (renamed_word rename (word_at (setting_of g) p a)) + 0 = is ∙ (shows.knows.each a lt ours).word in
      ap (λ (z : Bool). z || is_idle n) (vacant_there rename (setting_of g) p 0 a n k (few a) refl) ∙ ap (λ (z : Bool). is_vacant_at p a || z) (idle_there rename (setting_of g) p 0 a n k (few a) refl)

  either_true : (x y : Bool) → (x ≡ true) ⊎ (y ≡ true) → (x || y) ≡ true
  either_true x y (inl e) = rw e refl
  either_true true y (inr e) = refl
  either_true false y (inr e) = e

  both_false : (x y : Bool) → x ≡ false → y ≡ false → (x || y) ≡ false
  both_false x y e f = rw (e, f) refl

  -- No entry was begun, there and in the plain store: why, and what is known then.
  pub record NotBegun (fault : BeginFault) (q : Pass C) : Type 0 where
    pub plain_fault : BeginFault
    pub begins_is : begins ≡ step (answer_to_refusal plain_fault) p
    pub answer_is : answer_to_refusal fault ≡ renamed rename (answer_to_refusal plain_fault)
    pub knows : KnowsLot g rename lot (view q) p no_guests

  -- What it is where no version was left: the plain store has none left either, or this is not asked.
  abbrev pub SpentRight : Pass C → ℕ → Type 0
  SpentRight q versions = (u : View (List ℕ)) → KnowsLot g rename lot u p no_guests → SpentAtLook g u versions (view q) ⊎ SpentAtDraw g u versions (view q)
      → (versions ≡ p.counter) × (version_limit ≤ p.counter) × KnowsLot g rename lot (view q) p no_guests

  pub not_begun : (fault : BeginFault) (q : Pass C) → ((versions : ℕ) → fault ≡ Spent versions → SpentRight q versions) → NotTaken g t a (view pass) fault (view q) → ((answer_to_refusal fault ≡ answer.LongUrl) ↔ IsTooLong g url) → IsTyped (answer_to_refusal fault) → NotBegun fault q
  not_begun LongUrl q spent same long typed = record {
    plain_fault = LongUrl;
    begins_is = begin_long (setting_of g) t url (bytes_of body) offer p (long.0 refl);
    answer_is = refl;
    knows = subst (λ (z : View (List ℕ)). KnowsLot g rename lot z p no_guests) (sym same) shows.knows;
  }
  not_begun (Busy looked found) q spent h long typed = of_busy h.0
    where
      short : meta_size url ≤ (setting_of g).room
      short = let no : IsTooLong g url → ⊥ = λ l. let z : answer.Busy looked found ≡ answer.LongUrl = long.1 l in cc in omega arith

      of_busy : InUse g t a (view pass) looked found (view q) ⊎ Overtaken g t a (view pass) looked found (view q) → NotBegun (Busy looked found) q
      of_busy (inr o) = absurd (never_overtaken g t a (view pass) (view q) looked found (owns a o.looks.may.allowed ours) o)
      of_busy (inl u) = record {
        plain_fault = Busy (word_at (setting_of g) p a) (word_at (setting_of g) p a);
        begins_is = begin_busy (setting_of g) t url (bytes_of body) offer p short (sym (open_is (word_number looked) lt found_is) ∙ both_false _ _ u.used.0 u.used.1);
        answer_is = ap (λ (w : Word). answer.Busy looked w) u.same ∙ ap (λ (w : Word). answer.Busy w w) looked_word;
        knows = knows_same g rename (view pass) (view q) p no_guests shows.knows (looked_same g (view pass) (view q) a (word_number looked) (mine lt) u.looks);
      }
        where
          lt : a < g.setting.anchors
          lt = u.looks.may.allowed

          found_is : word_number looked ≡ has g (view pass) (Anchor a)
          found_is = looked_is g (view pass) (view q) a (word_number looked) (mine lt) u.looks

          looked_word : looked ≡ renamed_word rename (word_at (setting_of g) p a)
          looked_word = word_there rename (setting_of g) p a looked (found_is ∙ (shows.knows.each a lt ours).word) typed.0 (let f = few a in omega arith)
  not_begun (Spent versions) q spent h long typed = record {
    plain_fault = Spent p.counter;
    begins_is = begin_spent (setting_of g) t url (bytes_of body) offer p short open_to none.1;
    answer_is = ap answer.Spent none.0;
    knows = none.2;
  }
    where
      short : meta_size url ≤ (setting_of g).room
      short = let no : IsTooLong g url → ⊥ = λ l. let z : answer.Spent versions ≡ answer.LongUrl = long.1 l in cc in omega arith

      lt : a < g.setting.anchors
      lt = h.looks.may.allowed

      seen_knows : KnowsLot g rename lot h.seen p no_guests
      seen_knows = knows_same g rename (view pass) h.seen p no_guests shows.knows (looked_same g (view pass) h.seen a h.n (mine lt) h.looks)

      open_to : (is_vacant_at p a || is_idle_at p a) ≡ true
      open_to = sym (open_is h.n lt (looked_is g (view pass) h.seen a h.n (mine lt) h.looks)) ∙ either_true _ _ h.open_to

      none : (versions ≡ p.counter) × (version_limit ≤ p.counter) × KnowsLot g rename lot (view q) p no_guests
      none = spent versions refl h.seen seen_knows h.spent

  -- An entry was begun, with the next version.
  pub record IsBegun (version : ℕ) (q : Pass C) : Type 0 where
    pub version_is : version ≡ rename (p.counter + 1)
    pub open_to : (is_vacant_at p a || is_idle_at p a) ≡ true
    pub begins_is : begins ≡ step (answer.Begun (p.counter + 1)) (taken_by t a (entry_of url (bytes_of body) offer) p)
    pub knows : KnowsLot g rename lot (view q) (taken_by t a (entry_of url (bytes_of body) offer) p) no_guests
    pub tab : ShowsWriting tells state offers s rename q (taken_by t a (entry_of url (bytes_of body) offer) p) t a

  -- where the version that was drawn stands for the next one of the plain store
  pub is_begun : (durable : Bool) (version : ℕ) (q : Pass C) (b : Began tells state offers s t offer url durable pass q version) → DrewNext g lot rename b.took.took.drawn version p no_guests → IsBegun version q
  is_begun durable version q b d = record {
    version_is = d.version_is;
    open_to = took_open g lot rename t a b.n version (view pass) b.middle shows.inner_free p owns ours shows.knows few free inside_tabs b.took d;
    begins_is = begin_begun (setting_of g) t url (bytes_of body) offer p short
        (took_open g lot rename t a b.n version (view pass) b.middle shows.inner_free p owns ours shows.knows few free inside_tabs b.took d) d.left;
    knows = began_knows g lot rename t a b.n version (view pass) b.middle shows.inner_free p owns ours shows.knows few free inside_tabs b.took d offer url (bytes_of body) response offered.from refl (view q) b.named;
    tab = writing;
  }
    where
      begun : Entry
      begun = entry_of url (bytes_of body) offer

      response : IsResponseOf g a offer url (bytes_of body)
      response = record { url_is = offered.url_is; body_is = offered.body_is; short = subst (LeavesRoom g.slot) offered.url_is b.writes.rests.fits.short }

      short : meta_size url ≤ (setting_of g).room
      short = let l = response.short in omega arith

      lt : a < g.setting.anchors
      lt = b.took.took.looks.may.allowed

      placed : place_at (taken_by t a begun p) a ≡ record { version = p.counter + 1; doom = false; entry = Some begun }
      placed = get_or-set_same p.places a (record { version = p.counter + 1; doom = false; entry = Some begun }) nothing (let m = shows.knows.many in let l = lt in omega arith)

      writing : ShowsWriting tells state offers s rename q (taken_by t a begun p) t a
      writing = record {
        inside = lt;
        entry = begun;
        there = ap (λ (x : PlaceOf). x.entry) placed;
        grows = refl;
        written = _;
        writes = b.writes;
        anchor_is = refl;
        version_is = d.version_is ∙ ap (λ (x : PlaceOf). rename x.version) (sym placed);
        offer_is = refl;
        size = ap (λ (u : List ℕ). 32 + length u + 0) offered.url_is ∙ (omega arith);
      }

  pub begun_tab : (version : ℕ) (q : Pass C) → IsBegun version q → ShowsTab tells state offers s rename q (taken_by t a (entry_of url (bytes_of body) offer) p) t (tab_at (taken_by t a (entry_of url (bytes_of body) offer) p) t)
  begun_tab version q b = subst (ShowsTab tells state offers s rename q (taken_by t a (entry_of url (bytes_of body) offer) p) t) (sym (get_or-set_same p.tabs t (Writing a) Free inside_tabs)) b.tab

  -- What is answered to a line that begins an entry on a free tab, and what it leaves.
  pub record BeginsRight (given : Answer) (q : Pass C) : Type 0 where
    pub answer_is : given ≡ renamed rename begins.answer
    pub knows : KnowsLot g rename lot (view q) begins.after no_guests
    pub hand : hand_in g.setting.anchors q.hand ≡ begins.after.hand
    pub tab : ShowsTab tells state offers s rename q begins.after t (tab_at begins.after t)

  pub seen_knows : (durable : Bool) (version : ℕ) (q : Pass C) (b : Began tells state offers s t offer url durable pass q version) → KnowsLot g rename lot b.took.took.seen p no_guests
  seen_knows durable version q b = knows_same g rename (view pass) b.took.took.seen p no_guests shows.knows
      (looked_same g (view pass) b.took.took.seen a b.n (mine b.took.took.looks.may.allowed) b.took.took.looks)

  pub begins_right : (given : Answer) (q : Pass C) → ((version : ℕ) → given ≡ answer.Begun version → (b : Began tells state offers s t offer url false pass q version) → DrewNext g lot rename b.took.took.drawn version p no_guests)
      → ((versions : ℕ) → given ≡ answer.Spent versions → SpentRight q versions) → Begins tells state offers s t pass given q offer url → IsTyped given → q.hand ≡ pass.hand → BeginsRight given q
  begins_right given q drew spent h typed hand = of_outcome h.outcome h.answer_is h.began h.refused h.free
    where
      right : (r : Step) → begins ≡ r → given ≡ renamed rename r.answer → r.after.hand ≡ p.hand → KnowsLot g rename lot (view q) r.after no_guests → ShowsTab tells state offers s rename q r.after t (tab_at r.after t) → BeginsRight given q
      right r is answered same knows tab = record {
        answer_is = answered ∙ ap (λ (x : Step). renamed rename x.answer) (sym is);
        knows = subst (λ (x : Step). KnowsLot g rename lot (view q) x.after no_guests) (sym is) knows;
        hand = ap (hand_in g.setting.anchors) hand ∙ shows.hand ∙ sym same ∙ ap (λ (x : Step). x.after.hand) (sym is);
        tab = subst (λ (x : Step). ShowsTab tells state offers s rename q x.after t (tab_at x.after t)) (sym is) tab;
      }

      of_outcome : (outcome : Result ℕ BeginFault) → given ≡ answer_to_begin outcome → IfOk outcome (λ version. Began tells state offers s t offer url false pass q version)
          → IfErr outcome (λ fault. NotTaken g t a (view pass) fault (view q)) → OnErr outcome (IsFree q t) → BeginsRight given q
      of_outcome (Ok version) is began refused free_there = let b = is_begun false version q began (drew version is began) in
          right (step (answer.Begun (p.counter + 1)) (taken_by t a (entry_of url (bytes_of body) offer) p)) b.begins_is (is ∙ ap answer.Begun b.version_is) refl b.knows (begun_tab version q b)
      of_outcome (Err fault) is began refused free_there = let b = not_begun fault q (λ versions e. spent versions (is ∙ ap answer_to_refusal e)) refused (subst (λ (z : Answer). (z ≡ answer.LongUrl) ↔ IsTooLong g url) is h.long) (subst IsTyped is typed) in
          right (step (answer_to_refusal b.plain_fault) p) b.begins_is (is ∙ b.answer_is) refl b.knows (subst (ShowsTab tells state offers s rename q p t) (sym free) free_there)

-- A whole response is stored by beginning its entry on the last tab and ending it, or its entry is not begun.
module _ (s : Setting) (url body : List ℕ) (offer : ℕ) (p : Plain) (free : tab_at p 7 ≡ Free) where
  pub put_ends : (version : ℕ) (after : Plain) → begin_free s 7 url body offer p ≡ step (answer.Begun version) after → put s url body offer p ≡ end s 7 after
  put_ends version after is = rw (free, is) refl

  pub put_refused : (fault : BeginFault) → begin_free s 7 url body offer p ≡ step (answer_to_refusal fault) p → put s url body offer p ≡ step (answer_to_refusal fault) p
  put_refused LongUrl is = rw (free, is) refl
  put_refused (Busy looked found) is = rw (free, is) refl
  put_refused (Spent versions) is = rw (free, is) refl

-- In a store with one pass the counter tells all draws.
module _ {C O : Type 0} (tells : Bool) (state : C → CellState) (offers : O → Offers) (s : Store C O) (rename : ℕ → ℕ) (lone : IsLone (basis tells state offers s)) (pass : Pass C) (p : Plain)
    (shows : Shows tells state offers s rename pass p) (t : ℕ) (free : tab_at p t ≡ Free) (below : t < 8) (offer : ℕ) (url : List ℕ) (body : Body) (offered : IsOffered tells state offers s offer url body) where
  abbrev own : OwnsLot (basis tells state offers s) whole_lot (view pass).pass
  own = lot_lone (basis tells state offers s) lone whole_lot (view pass).pass

  pub drew_lone : (durable : Bool) (version : ℕ) (q : Pass C) (b : Began tells state offers s t offer url durable pass q version) → rename (p.counter + 1) ≡ p.counter + 1
      → DrewNext (basis tells state offers s) whole_lot rename b.took.took.drawn version p no_guests
  drew_lone durable version q b next = drew_next (basis tells state offers s) lone rename b.took.took.seen b.took.took.drawn version p no_guests next
      (seen_knows tells state offers s rename whole_lot pass p own shows t free below offer url body offered refl durable version q b) b.took.took.drew

  pub spent_lone : (q : Pass C) (versions : ℕ) → SpentRight tells state offers s rename whole_lot pass p own shows t free below offer url body offered refl q versions
  spent_lone q versions u k (inl l) = spent_at_look (basis tells state offers s) lone rename u (view q) versions p no_guests k l
  spent_lone q versions u k (inr d) = absurd (never_spent_at_draw (basis tells state offers s) lone rename u (view q) versions p no_guests k d)

-- What a begin answers is as the request says, where each version stands for itself.
module _ {C O : Type 0} (tells : Bool) (state : C → CellState) (offers : O → Offers) (s : Store C O) (lone : IsLone (basis tells state offers s)) where
  pub begins_as : (t offer : ℕ) (url : List ℕ) (body : Body) (p q : Pass C) (given : Answer) (plain : Plain) → t < 8 → Shows tells state offers s (λ v. v) p plain → tab_at plain t ≡ Free
      → IsOffered tells state offers s offer url body → IsTyped given → q.hand ≡ p.hand → Begins tells state offers s t p given q offer url
      → IsAs tells state offers s given q t (begin (setting_of (basis tells state offers s)) t url (bytes_of body) offer plain)
  begins_as t offer url body p q given plain below shows free offered typed hand h = let r = begins_right tells state offers s (λ v. v) whole_lot p plain (lot_lone (basis tells state offers s) lone whole_lot (view p).pass) shows t free below offer url body offered refl
      given q (λ version is b. drew_lone tells state offers s (λ v. v) lone p plain shows t free below offer url body offered false version q b refl)
      (λ versions is. spent_lone tells state offers s (λ v. v) lone p plain shows t free below offer url body offered q versions) h typed hand in
      let e : begin (setting_of (basis tells state offers s)) t url (bytes_of body) offer plain ≡ begin_free (setting_of (basis tells state offers s)) t url (bytes_of body) offer plain = rw free refl in
      subst (IsAs tells state offers s given q t) (sym e) record { answered = r.answer_is ∙ same_answer _; shows = record { knows = r.knows; hand = r.hand; tab = r.tab; within = within_whole (tab_at (begin_free (setting_of (basis tells state offers s)) t url (bytes_of body) offer plain).after t) } }
