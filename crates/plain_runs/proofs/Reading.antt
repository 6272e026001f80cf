-- A tab that reads on is given what the plain store gives.
use Rattle.std.proofs.Common.{Bool, cond, ◌==◌, List, None, Option, Some, [], add-one, ap, append_assoc, arith, drop, false, get_or-set_same, inl, inr, length, length-set, refl, subst, sym, take, true, ⊎_elim, ◌++◌, ◌<◌, ◌∙◌, ◌∷◌, ◌≡◌, ◌≢◌, ◌≤◌, ◌⊎◌, ℕ}
use Rattle.std.specs.Prelude.{IsTrue, not}
use Rattle.std.specs.Str.{bytes_eq}
use Rattle.std.proofs.Math.Seq.{drop-append_seam}
use Rattle.std.proofs.lemmas.Bool.{cases_lt}
use Rattle.std.proofs.lemmas.List.{append-nil}
use Rattle.std.proofs.lemmas.Slice.Eq.{bytes_eq-Decides}
use mathlib.Core.Option.{some}
use lib.ListN.{get_elem?}
use Rattle.lock_word.specs.Words.{version_of}
use Rattle.lock_word.specs.declared.epoch.Epoch.{Epoch}
use Rattle.lock_word.specs.declared.stage.Stage.TheVariants as stage
use Rattle.link_word.specs.declared.link.Link.TheVariants.{NotWritten}
use Rattle.rock_disk.specs.Cell.{CellState}
use Rattle.script_text.specs.declared.answer.Answer.{Answer}
use Rattle.script_text.specs.declared.answer.Answer.TheVariants as answer
use Rattle.store_key.specs.Key.{key_of}
use Rattle.core_model.specs.Anchors.{IsReadAt}
use Rattle.core_model.specs.State.{State, chain_of}
use Rattle.core_model.specs.Tabs as core
use Rattle.core_model.specs.Told.{LinkFound}
use Rattle.core_model.specs.Trails.{seen_at}
use Rattle.core_model.specs.declared.moves.Move.TheVariants.{Look}
use Rattle.core_model.specs.declared.moves.Side.TheVariants.{Offer}
use Rattle.core_model.specs.declared.tab.Reader.{Reader}
use Rattle.core_model.specs.declared.tab.Tab as core_tab
use Rattle.core_model.specs.declared.view.Place.TheVariants.{Anchor, Beside}
use Rattle.core_model.specs.declared.view.View.{View}
use Rattle.core_model.proofs.Tabs.{tab_there}
use Rattle.entry_cut.specs.Content.{room_of}
use Rattle.plain_model.specs.declared.entry.Entry.{Entry}
use Rattle.plain_model.specs.declared.entry.Life.{Life}
use Rattle.plain_model.specs.declared.entry.Life.TheVariants.{GivenUp, Growing, Whole}
use Rattle.plain_model.specs.declared.store.Plain.{Plain}
use Rattle.plain_model.specs.declared.store.Setting.{Setting}
use Rattle.plain_model.specs.declared.store.Tab.{Tab}
use Rattle.plain_model.specs.declared.store.Tab.TheVariants.{Free, Reading, Writing}
use Rattle.plain_model.specs.Reading.{more, told}
use Rattle.plain_model.specs.Store as plain
use Rattle.plain_model.specs.Store.{available, entry_at, place_at, published, stage_of_entry, tab_at, with_tab}
use Rattle.plain_model.specs.Writing.{Step, step}
use Rattle.plain_laws.specs.Renaming.{renamed, renamed_epoch}
use Rattle.plain_laws.proofs.ReadingRoomed.{more_is}
use Rattle.store_rule.specs.declared.store.Pass.{Pass}
use Rattle.store_rule.specs.declared.store.Store.{Store}
use Rattle.store_rule.specs.Ground.{Ground, Offers}
use Rattle.store_rule.specs.Passes.{basis, view}
use Rattle.store_rule.specs.Told.{Stands}
use Rattle.store_rule.proofs.Moves.{known_of}
use Rattle.store_rule.proofs.Passing.{pass_of}
use Rattle.store_rule.specs.Words.{has}
use Rattle.store_rule.proofs.MyWords.{found_mine}
use Rattle.rock_reader.specs.Reading.{Gave, LookedAt, ReadsAs, Standing, StaysOther, TurnsOut, Waits, halting, turned}
use Rattle.rock_reader.specs.Responses.{HoldsFile, IsResponse, body_at, body_below, pieces_of}
use Rattle.rock_reader.specs.declared.answer.More.{More}
use Rattle.rock_reader.specs.declared.answer.More.TheVariants as more_answer
use Rattle.rock_reader.proofs.LookedTab.{at_slot, middle_tab}
use Rattle.store_serve.specs.Following.{Given, Gives, WentOn}
use Rattle.store_serve.specs.Answers.{AnswersMore, is_fault}
use Rattle.crew_accounts.proofs.GivenBytes.{IsFromFront}
use Rattle.crew_accounts.proofs.ReadingOn.{IsSameEntry, ReadOn, gives_on}
use Rattle.crew_accounts.proofs.WaitsAt.{waits_some}
use Rattle.plain_runs.specs.Shows.{ShowsReading, ShowsTab}
use Rattle.plain_runs.specs.Words.{IsOfOffer, KnowsLot, Lot, ShowsEntry, ShowsEntryIf, no_guests, setting_of, slots_published}
use Rattle.plain_runs.proofs.AnchorWords.{read_knows}
use Rattle.plain_runs.proofs.Bodies.{not_all, published_bytes}
use Rattle.plain_runs.proofs.OwnAnchors.{OwnsAnchor, own_chain, stands_before}
use Rattle.plain_runs.proofs.Frames.{knows_same}
use Rattle.plain_runs.proofs.Judging.{epoch_found}
use Rattle.plain_runs.proofs.PlainWords.{readers_fit}
use Rattle.plain_runs.proofs.QuietSteps.{gives_quiet, located_first, located_pass, went_quiet}
use Rattle.plain_runs.proofs.ShowingOthers.{OneBegins, one_url}

-- the stage of an entry tells how it ended
grows_at : (room content : ℕ) (life : Life) → stage_of_entry room life content ≡ stage.Appending → life ≡ Growing
grows_at room content Growing e = refl
grows_at room content Whole e = absurd (let z : stage.Closed ≡ stage.Appending = e in cc)
grows_at room content GivenUp e = absurd (let z : stage.Halted ≡ stage.Appending = e in cc)

halts_at : (room content : ℕ) (life : Life) → stage_of_entry room life content ≡ stage.Halted → life ≡ GivenUp
halts_at room content Growing e = absurd (by_some (published room content == 0) e)
  where
    by_some : (b : Bool) → cond b stage.Taken stage.Appending ≡ stage.Halted → ⊥
    by_some true e = let z : stage.Taken ≡ stage.Halted = e in cc
    by_some false e = let z : stage.Appending ≡ stage.Halted = e in cc
halts_at room content Whole e = absurd (let z : stage.Closed ≡ stage.Halted = e in cc)
halts_at room content GivenUp e = refl

-- who reads moves no hand
more_hand_to : (st : Setting) (t a given : ℕ) (p : Plain) (o : Option Entry) → entry_at p a ≡ o → tab_at p t ≡ Reading a given false → (more st t p).after.hand ≡ p.hand
more_hand_to st t a given p None there at = rw (at, there) refl
more_hand_to st t a given p (Some x) there at = rw (at, there) refl

more_hand_at : (st : Setting) (t : ℕ) (p : Plain) (x : Tab) → tab_at p t ≡ x → (more st t p).after.hand ≡ p.hand
more_hand_at st t p Free at = rw at refl
more_hand_at st t p (Writing a) at = rw at refl
more_hand_at st t p (Reading a given true) at = rw at refl
more_hand_at st t p (Reading a given false) at = more_hand_to st t a given p (entry_at p a) refl at

pub more_hand : (st : Setting) (t : ℕ) (p : Plain) → (more st t p).after.hand ≡ p.hand
more_hand st t p = more_hand_at st t p (tab_at p t) refl

-- and its tab reads there still
more_reads_to : (st : Setting) (t a given : ℕ) (p : Plain) (o : Option Entry) → entry_at p a ≡ o → t < length p.tabs → tab_at p t ≡ Reading a given false → (n : ℕ) × (o : Bool) × (tab_at (more st t p).after t ≡ Reading a n o)
more_reads_to st t a given p None there lt at = (given, false, rw (at, there) at)
more_reads_to st t a given p (Some x) there lt at = (length (available st.room x), false, rw (at, there) (get_or-set_same p.tabs t (Reading a (length (available st.room x)) false) Free lt))

pub more_reads : (st : Setting) (t a given : ℕ) (other : Bool) (p : Plain) → t < length p.tabs → tab_at p t ≡ Reading a given other → (n : ℕ) × (o : Bool) × (tab_at (more st t p).after t ≡ Reading a n o)
more_reads st t a given true p lt at = (given, true, rw at at)
more_reads st t a given false p lt at = more_reads_to st t a given p (entry_at p a) refl lt at

-- it has as many tabs
more_long_to : (st : Setting) (t a given : ℕ) (p : Plain) (o : Option Entry) → entry_at p a ≡ o → tab_at p t ≡ Reading a given false → length (more st t p).after.tabs ≡ length p.tabs
more_long_to st t a given p None there at = rw (at, there) refl
more_long_to st t a given p (Some x) there at = rw (at, there) (length-set p.tabs t (Reading a (length (available st.room x)) false))

pub more_long : (st : Setting) (t a given : ℕ) (other : Bool) (p : Plain) → tab_at p t ≡ Reading a given other → length (more st t p).after.tabs ≡ length p.tabs
more_long st t a given true p at = rw at refl
more_long st t a given false p at = more_long_to st t a given p (entry_at p a) refl at

-- an answer that tells no fault came of none
pub no_fault : (why : More) (bytes : List ℕ) (a : Answer) → AnswersMore why bytes a → is_fault a ≡ false → why ≡ more_answer.Fault → ⊥
no_fault why bytes a is fair e = let told : a ≡ answer.ReadFault bytes = subst (λ (w : More). AnswersMore w bytes a) e is in let z : true ≡ false = sym (ap is_fault told) ∙ fair in cc

module _ {C O : Type 0} (tells : Bool) (state : C → CellState) (offers : O → Offers) (s : Store C O) (rename : ℕ → ℕ) (t : ℕ) where
  abbrev g : Ground (List ℕ)
  g = basis tells state offers s

  -- Of a tab that reads at an anchor that is its pass's own: the state in which its pass stands.
  module _ (q : Pass C) (e : Standing) (h : ReadsAs tells state offers s q t e) (own : OwnsAnchor g (view q).pass e.anchor) where
    abbrev st : Stands g (view q)
    st = h.own.stands

    there : get_elem? (view q).tabs t ≡ some (core_tab.Tab.Reading h.reader)
    there = tab_there (view q) t (core_tab.Tab.Reading h.reader) (let nine = pass_of q in let b = h.below in omega arith) h.is

    at_anchor : (h.reader.anchor < g.setting.anchors) × IsReadAt st.state h.reader.anchor h.reader.version × (h.reader.version ≤ version_of (seen_at h.reader.anchor (view q).seen))
    at_anchor = st.rule.sound.anchors.tabs st.index (view q) st.at t (core_tab.Tab.Reading h.reader) there

    pub read_inside : e.anchor < g.setting.anchors
    read_inside = subst (λ (a : ℕ). a < g.setting.anchors) h.anchor_is at_anchor.0

    read_at : IsReadAt st.state e.anchor h.reader.version
    read_at = subst (λ (a : ℕ). IsReadAt st.state a h.reader.version) h.anchor_is at_anchor.1

    -- its offer is the word beside its anchor
    pub read_offer : e.offer ≡ has g (view q) (Beside Offer e.anchor)
    read_offer = sym (st.rule.sound.anchors.seen.named st.index (view q) st.at e.anchor e.version Offer e.offer h.offer_seen (read_at.version_is ∙ h.version_is)).0
        ∙ own.stands (view q) st (Beside Offer e.anchor) refl (pass_of q) refl read_inside

    -- it was given no more slots than are published
    pub place_most : {lot : Lot} (p : Plain) (n : ℕ → ℕ) (x : Entry) → lot.anchors e.anchor ≡ true → KnowsLot g rename lot (view q) p n → entry_at p e.anchor ≡ Some x → e.place ≤ slots_published (room_of g.slot) x.life x.content
    place_most p n x ours k is =
        let shown : ShowsEntry g (view q) e.anchor (place_at p e.anchor).version x = subst (ShowsEntryIf g (view q) e.anchor (place_at p e.anchor).version) is (k.each e.anchor read_inside ours).entry in
        let holds = st.rule.sound.slots.tabs st.index (view q) st.at t (core_tab.Tab.Reading h.reader) there in
        let c = own_chain g (view q) e.anchor own st (pass_of q) read_inside x shown.chain read_at.from read_at.to in
        let i = holds.inside in let m = shown.chain.many in let l = ap length c.0 in let a = ap (λ (z : ℕ). length (chain_of st.state z).slots) h.anchor_is in let z = h.place_is in omega arith

  -- A tab that found the link at its place not written was given all that are published.
  module _ (m q : Pass C) (e : Standing) (h : ReadsAs tells state offers s m t e) (own : OwnsAnchor g (view m).pass e.anchor) (epoch : Epoch) (found : LookedAt g t epoch NotWritten (view m) (view q)) where
    abbrev v1 : View (List ℕ)
    v1 = found.linked.middle

    abbrev s1 : State (List ℕ)
    s1 = found.linked.step.state

    abbrev r1 : Reader (List ℕ)
    r1 = at_slot h.reader found.linked.slot

    at0 : core.anchor_of (core.tab_at (view m) t) ≡ e.anchor
    at0 = ap core.anchor_of h.is ∙ h.anchor_is

    own1 : OwnsAnchor g v1.pass e.anchor
    own1 = subst (λ (n : ℕ). OwnsAnchor g n e.anchor) (sym (located_pass g (view m).pass e.anchor own t epoch NotWritten (view m) (view q) refl at0 found)) own

    low : t ≤ core.inner
    low = let b = h.below in omega arith

    tab1 : core.tab_at v1 t ≡ core_tab.Tab.Reading r1
    tab1 = middle_tab g t (view m) (view q) epoch NotWritten (pass_of m) low h.reader h.is found

    there1 : get_elem? v1.tabs t ≡ some (core_tab.Tab.Reading r1)
    there1 = tab_there v1 t (core_tab.Tab.Reading r1) (let nine = found.linked.step.may.pass in let b = low in omega arith) tab1

    at1 : (h.reader.anchor < g.setting.anchors) × IsReadAt s1 h.reader.anchor h.reader.version × (h.reader.version ≤ version_of (seen_at h.reader.anchor v1.seen))
    at1 = found.linked.step.rule.sound.anchors.tabs found.linked.step.index v1 found.linked.step.at t (core_tab.Tab.Reading r1) there1

    behind : h.reader.place ≡ length (chain_of s1 h.reader.anchor).slots
    behind = ⊎_elim (λ (z : (h.reader.place < length (chain_of s1 h.reader.anchor).slots) × _ × (0 < 0)). absurd (let y = z.2 in omega arith)) (λ (z : (h.reader.place ≡ length (chain_of s1 h.reader.anchor).slots) × (0 ≡ 0)). z.0)
        (subst (λ (x : core_tab.Tab (List ℕ)). LinkFound s1 x 0) tab1 (known_of g v1 _ _ (view q) found.linked.step).slots)

    inside1 : e.anchor < g.setting.anchors
    inside1 = subst (λ (a : ℕ). a < g.setting.anchors) h.anchor_is at1.0

    read1 : IsReadAt s1 e.anchor h.reader.version
    read1 = subst (λ (a : ℕ). IsReadAt s1 a h.reader.version) h.anchor_is at1.1

    pub place_all : {lot : Lot} (p : Plain) (n : ℕ → ℕ) (x : Entry) → lot.anchors e.anchor ≡ true → KnowsLot g rename lot (view m) p n → entry_at p e.anchor ≡ Some x → e.place ≡ slots_published (room_of g.slot) x.life x.content
    place_all p n x ours k is =
        let k1 = knows_same g rename (view m) v1 p n k (located_first g (view m).pass e.anchor own t epoch NotWritten (view m) (view q) refl at0 found) in
        let shown : ShowsEntry g v1 e.anchor (place_at p e.anchor).version x = subst (ShowsEntryIf g v1 e.anchor (place_at p e.anchor).version) is (k1.each e.anchor inside1 ours).entry in
        let c = own_chain g v1 e.anchor own1 (stands_before found.linked.step) found.linked.step.may.pass inside1 x shown.chain read1.from read1.to in
        let i = behind in let y = shown.chain.many in let l = ap length c.0 in let a = ap (λ (z : ℕ). length (chain_of s1 z).slots) h.anchor_is in let z = h.place_is in omega arith

    -- and the epoch that it found is that of the plain store
    pub epoch_looked : {lot : Lot} (p : Plain) → length p.tabs ≡ 8 → lot.anchors e.anchor ≡ true → KnowsLot g rename lot (view m) p no_guests → epoch ≡ renamed_epoch rename (plain.epoch_of (room_of g.slot) (place_at p e.anchor))
    epoch_looked p eight ours k = epoch_found g rename (view m) p 0 e.anchor (k.each e.anchor inside1 ours) (readers_fit p e.anchor 0 eight (omega arith)) found.word epoch
        (found_mine g (view m) found.looked (Look (core.anchor_of (core.tab_at (view m) t))) found.word (Anchor (core.anchor_of (core.tab_at (view m) t))) found.look
        (own.words (view m) (Anchor (core.anchor_of (core.tab_at (view m) t))) refl at0) refl
        ∙ ap (λ (x : core_tab.Tab (List ℕ)). has g (view m) (Anchor (core.anchor_of x))) h.is ∙ ap (λ (a : ℕ). has g (view m) (Anchor a)) h.anchor_is)
        found.epoch_is

  -- the bytes of pieces go on with the body
  pub gives_below : IsTrue tells → HoldsFile g → (e : Standing) (p : Pass C) (calls : List (Given C)) (f : Standing) (q : Pass C) (bytes : List ℕ) → ReadsAs tells state offers s p t e → Gives tells state offers s t e p calls f q bytes
      → body_below g e.anchor e.offer e.place ++ bytes ≡ body_below g e.anchor e.offer f.place
  gives_below told file e p [] f q bytes h k = ap (λ (xs : List ℕ). body_below g e.anchor e.offer e.place ++ xs) k.2 ∙ append-nil (body_below g e.anchor e.offer e.place) ∙ ap (λ (z : Standing). body_below g e.anchor e.offer z.place) (sym k.0)
  gives_below told file e p (c ∷ earlier) f q bytes h k =
      let first = gives_below told file e p earlier k.0 k.1 k.2 h k.3 in
      let same = (gives_on tells state offers s t e p earlier k.0 k.1 k.2 h k.3).entry in
      let piece = k.4.bytes told file in
      ap (λ (xs : List ℕ). body_below g e.anchor e.offer e.place ++ xs) k.7
      ∙ sym (append_assoc (body_below g e.anchor e.offer e.place) k.2 (take c.count c.after))
      ∙ (λ i. first i ++ piece i)
      ∙ (λ i. body_below g e.anchor e.offer k.0.place ++ body_at g (same.anchor i) (same.offer i) k.0.place)
      ∙ ap (body_below g e.anchor e.offer) (sym (add-one k.0.place))
      ∙ ap (λ (z : Standing). body_below g e.anchor e.offer z.place) (sym k.5)

  -- How reading on ended, and what it left: it is answered as the plain store answers, which the pass shows again, and the tab too.
  pub record ReadRight (lot : Lot) (why : More) (bytes : List ℕ) (q : Pass C) (r : Step) : Type 0 where
    pub answer : (a : Answer) → AnswersMore why bytes a → a ≡ renamed rename r.answer
    pub knows : KnowsLot g rename lot (view q) r.after no_guests
    pub tab : ShowsTab tells state offers s rename q r.after t (tab_at r.after t)

  module _ (begins : OneBegins) (known : IsTrue tells) (file : HoldsFile g) (from : IsFromFront) (sized : g.slot < 4294967296) (p q : Pass C) (pl : Plain) (a given : ℕ) (eight : length pl.tabs ≡ 8) (lt : t < 8)
      (lot : Lot) (k : KnowsLot g rename lot (view p) pl no_guests) (own : OwnsAnchor g (view p).pass a) (ours : lot.anchors a ≡ true) where
    abbrev room : ℕ
    room = room_of g.slot

    module _ (other : Bool) (at : tab_at pl t ≡ Reading a given other) (sh : ShowsReading tells state offers s rename p pl t a given other) (why : More) (bytes : List ℕ) (went : WentOn tells state offers s t sh.standing p q bytes why) where
      abbrev e : Standing
      e = sh.standing

      abbrev f : Standing
      f = went.standing

      abbrev m : Pass C
      m = went.middle

      abbrev x : Entry
      x = sh.entry

      so : ReadOn tells state offers s t e p f m
      so = gives_on tells state offers s t e p went.calls f m bytes sh.reads went.gives

      km : KnowsLot g rename lot (view m) pl no_guests
      km = knows_same g rename (view p) (view m) pl no_guests k (gives_quiet tells state offers s t (view p).pass a own e p refl sh.anchor_is sh.reads went.calls f m bytes went.gives)

      kq : KnowsLot g rename lot (view q) pl no_guests
      kq = knows_same g rename (view p) (view q) pl no_guests k (went_quiet tells state offers s t (view p).pass a own e p refl sh.anchor_is sh.reads q bytes why went)

      f_anchor : f.anchor ≡ a
      f_anchor = so.entry.anchor ∙ sh.anchor_is

      ours_f : lot.anchors f.anchor ≡ true
      ours_f = ap lot.anchors f_anchor ∙ ours

      own_f : OwnsAnchor g (view m).pass f.anchor
      own_f = subst (OwnsAnchor g (view m).pass) (sym f_anchor) (subst (λ (n : ℕ). OwnsAnchor g n a) (sym so.keeps.pass) own)

      f_offer : f.offer ≡ x.offer
      f_offer = so.entry.offer ∙ sh.offer_is

      there_f : entry_at pl f.anchor ≡ Some x
      there_f = ap (entry_at pl) f_anchor ∙ sh.there

      of : IsOfOffer g a x
      of = let shown : ShowsEntry g (view p) a (place_at pl a).version x = subst (ShowsEntryIf g (view p) a (place_at pl a).version) sh.there (k.each a sh.inside ours).entry in shown.offer

      -- the offer's response under the URL of the entry is the one that the standing knows
      moved : (u b : List ℕ) → IsResponse g f.anchor f.offer u b → IsResponse g a x.offer u b
      moved u b h = subst (λ (n : ℕ). IsResponse g a n u b) f_offer (subst (λ (n : ℕ). IsResponse g n f.offer u b) f_anchor h)

      moved_back : (u b : List ℕ) → IsResponse g a x.offer u b → IsResponse g f.anchor f.offer u b
      moved_back u b h = subst (λ (n : ℕ). IsResponse g n f.offer u b) (sym f_anchor) (subst (λ (n : ℕ). IsResponse g a n u b) (sym f_offer) h)

      -- the tab as it is shown, with another place
      shows_read : (after : Plain) (more : ℕ) (turns : Bool) (z : Standing) → entry_at after a ≡ Some x → (place_at after a).version ≡ (place_at pl a).version → ReadsAs tells state offers s q t z → IsSameEntry f z
          → turns ≡ other → (z.is_other ≡ true → turns ≡ true) → (turns ≡ true → z.is_other ≡ false → z.place ≡ 0) → (turns ≡ false → more ≡ length (body_below g a x.offer z.place)) → ShowsReading tells state offers s rename q after t a more turns
      shows_read after more turns z there version reads same turns_is turned unread given_is = record {
        inside = sh.inside;
        entry = x;
        there = there;
        standing = z;
        reads = reads;
        anchor_is = same.anchor ∙ f_anchor;
        version_is = same.version ∙ so.entry.version ∙ sh.version_is ∙ ap rename (sym version);
        offer_is = same.offer ∙ f_offer;
        key_is = sh.key_is ∙ ap key_of (sym (same.url ∙ so.entry.url));
        other_is = turns_is ∙ sh.other_is ∙ ap (λ (u : List ℕ). not (bytes_eq x.url u)) (sym (same.url ∙ so.entry.url));
        turned = turned;
        unread = unread;
        given_is = given_is;
      }

      itself : IsSameEntry f f
      itself = record { anchor = refl; version = refl; offer = refl; url = refl }

      abbrev HasResponseAt : Standing → Type 0
      HasResponseAt z = (body : List ℕ) × IsResponse g z.anchor z.offer z.url body

      -- Of an entry with another URL nothing is given.
      module _ (is : other ≡ true) where
        differs : x.url ≢ f.url
        differs same = let b = (bytes_eq-Decides x.url e.url).1 (same ∙ so.entry.url) in let z : true ≡ false = sym is ∙ sh.other_is ∙ ap not b in cc

        no_response : HasResponseAt f → ⊥
        no_response h = differs (one_url begins g a x.offer x.url f.url x.body h.0 of.response (moved f.url h.0 h.1))

        none_given : f.is_other ≡ false → f.place ≡ 0
        none_given was = ⊎_elim {C = f.place ≡ 0}
            (λ (some : 0 < f.place). absurd (no_response ((so.reads.given was some).1 known file)))
            (λ (none : f.place ≤ 0). omega arith)
            (cases_lt 0 f.place)

        more_other : more (setting_of g) t pl ≡ step answer.OtherUrl pl
        more_other = let r = at ∙ ap (Reading a given) is in rw r refl

        stays_other : StaysOther tells state offers s t m f went.before went.after q ⊎ TurnsOut tells state offers s t m f went.before went.after q → ShowsReading tells state offers s rename q pl t a given other
        stays_other (inl h) = shows_read pl given other f sh.there refl (subst (λ (z : Pass C). ReadsAs tells state offers s z t f) (sym h.still) so.reads) itself refl (λ z. is)
            (λ z was. none_given was) (λ z. absurd (let y : true ≡ false = sym is ∙ z in cc))
        stays_other (inr h) = shows_read pl given other (turned f) sh.there refl h.reads record { anchor = refl; version = refl; offer = refl; url = refl } refl (λ z. is)
            (λ z was. absurd (let y : true ≡ false = was in cc)) (λ z. absurd (let y : true ≡ false = sym is ∙ z in cc))

        waited : (epoch : Epoch) → Waits tells state offers s t m f went.before went.after q epoch → ⊥
        waited epoch h = let z = none_given h.was in let w = waits_some tells state offers s t m q f went.before went.after epoch so.reads h in absurd (omega arith)

        other_right : (why ≡ more_answer.Fault → ⊥) → ReadRight lot why bytes q (more (setting_of g) t pl)
        other_right fine = subst (λ (r : Step). ReadRight lot why bytes q r) (sym more_other) (by_end why refl went.ends went.no_piece)
          where
            by_end : (w : More) → why ≡ w → Gave tells state offers s t m f went.before went.after q w → ((count : ℕ) → w ≢ more_answer.Piece count) → ReadRight lot w bytes q (step answer.OtherUrl pl)
            by_end (more_answer.Piece count) e h none = absurd (none count refl)
            by_end (more_answer.NotYet epoch) e h none = absurd (waited epoch h.waits)
            by_end more_answer.End e h none = absurd (let z = none_given h.was in let w = h.some in omega arith)
            by_end more_answer.Halted e h none = absurd (waited h.epoch h.waits)
            by_end more_answer.OtherUrl e h none = record {
              answer = λ z is_so. is_so;
              knows = kq;
              tab = subst (ShowsTab tells state offers s rename q pl t) (sym at) (stays_other h);
            }
            by_end more_answer.Fault e h none = absurd (fine e)

      -- Of the entry that is wanted all is given that a reader may have.
      module _ (is : other ≡ false) where
        same_url : x.url ≡ f.url
        same_url = (bytes_eq-Decides x.url e.url).0 (not_false (bytes_eq x.url e.url) (sym sh.other_is ∙ is)) ∙ sym so.entry.url
          where
            not_false : (b : Bool) → not b ≡ false → b ≡ true
            not_false true z = refl
            not_false false z = absurd (let y : true ≡ false = z in cc)

        not_turned : f.is_other ≡ true → ⊥
        not_turned z = let y : true ≡ false = sym (sh.turned (sym so.other ∙ z)) ∙ is in cc

        at_read : tab_at pl t ≡ Reading a given false
        at_read = at ∙ ap (Reading a given) is

        abbrev all_there : List ℕ
        all_there = available room x

        abbrev after : Plain
        after = with_tab pl t (Reading a (length (available (room_of g.slot) x)) false)

        more_all : more (setting_of g) t pl ≡ step (told x.life (plain.epoch_of room (place_at pl a)) (drop given all_there)) after
        more_all = more_is (setting_of g) t a given pl x sh.there at_read

        after_tab : tab_at after t ≡ Reading a (length all_there) false
        after_tab = get_or-set_same pl.tabs t (Reading a (length (available (room_of g.slot) x)) false) Free (omega arith)

        given_to : body_below g a x.offer e.place ++ bytes ≡ body_below g a x.offer f.place
        given_to = ap (λ (n : ℕ). body_below g a n e.place ++ bytes) (sym sh.offer_is) ∙ ap (λ (n : ℕ). body_below g n e.offer e.place ++ bytes) (sym sh.anchor_is)
            ∙ gives_below known file e p went.calls f m bytes sh.reads went.gives
            ∙ ap (λ (n : ℕ). body_below g n e.offer f.place) sh.anchor_is ∙ ap (λ (n : ℕ). body_below g a n f.place) sh.offer_is

        -- where it was given all that is published
        module _ (all : f.place ≡ slots_published room x.life x.content) (was : f.is_other ≡ false) (z : Standing) (same : IsSameEntry f z) (place_is : z.place ≡ f.place) (turns_is : z.is_other ≡ f.is_other) (reads : ReadsAs tells state offers s q t z) where
          whole_there : body_below g a x.offer f.place ≡ all_there
          whole_there = ap (body_below g a x.offer) all ∙ published_bytes g a x of from sized

          bytes_are : drop given all_there ≡ bytes
          bytes_are = ap (λ (n : ℕ). drop n all_there) (sh.given_is is) ∙ ap (drop (length (body_below g a x.offer e.place))) (sym whole_there ∙ sym given_to)
              ∙ drop-append_seam (body_below g a x.offer e.place) bytes

          read_tab : ShowsTab tells state offers s rename q after t (tab_at after t)
          read_tab = subst (ShowsTab tells state offers s rename q after t) (sym after_tab)
              (shows_read after (length all_there) false z sh.there refl reads same (sym is) (λ y. absurd (not_turned (sym turns_is ∙ y))) (λ y. absurd (let w : true ≡ false = sym y in cc))
              (λ y. ap length (sym whole_there ∙ ap (body_below g a x.offer) (sym place_is))))

          after_knows : KnowsLot g rename lot (view q) after no_guests
          after_knows = read_knows g rename (view q) pl t a given false eight lt (length all_there) false at_read kq

          read_right : (w : More) → ((z : Answer) → AnswersMore w bytes z → z ≡ renamed rename (told x.life (plain.epoch_of room (place_at pl a)) bytes)) → ReadRight lot w bytes q (more (setting_of g) t pl)
          read_right w tells_so = subst (λ (r : Step). ReadRight lot w bytes q r) (sym more_all) record {
            answer = λ z so_told. tells_so z so_told ∙ ap (λ (ys : List ℕ). renamed rename (told x.life (plain.epoch_of room (place_at pl a)) ys)) (sym bytes_are);
            knows = after_knows;
            tab = read_tab;
          }

        stage_there : (plain.epoch_of room (place_at pl a)).stage ≡ stage_of_entry room x.life x.content
        stage_there = ap (plain.stage_of room (place_at pl a).version) sh.there

        epoch_there : (epoch : Epoch) → (h : Waits tells state offers s t m f went.before went.after q epoch) → epoch ≡ renamed_epoch rename (plain.epoch_of room (place_at pl a))
        epoch_there epoch h = epoch_looked m q f so.reads own_f epoch h.found pl eight ours_f km ∙ ap (λ (n : ℕ). renamed_epoch rename (plain.epoch_of room (place_at pl n))) f_anchor

        all_given : (epoch : Epoch) → (h : Waits tells state offers s t m f went.before went.after q epoch) → f.place ≡ slots_published room x.life x.content
        all_given epoch h = place_all m q f so.reads own_f epoch h.found pl no_guests x ours_f km there_f

        told_as : (life : Life) → x.life ≡ life → renamed rename (told life (plain.epoch_of room (place_at pl a)) bytes) ≡ renamed rename (told x.life (plain.epoch_of room (place_at pl a)) bytes)
        told_as life l = ap (λ (y : Life). renamed rename (told y (plain.epoch_of room (place_at pl a)) bytes)) (sym l)

        -- at the end the entry is whole
        whole_at_end : f.place ≡ pieces_of g f.anchor f.offer → x.life ≡ Whole
        whole_at_end end = by_life x.life refl
          where
            most : f.place ≤ slots_published room x.life x.content
            most = place_most m f so.reads own_f pl no_guests x ours_f km there_f

            pieces : f.place ≡ pieces_of g a x.offer
            pieces = end ∙ ap (λ (n : ℕ). pieces_of g n f.offer) f_anchor ∙ ap (pieces_of g a) f_offer

            short : x.life ≢ Whole → slots_published room x.life x.content ≡ published room x.content → ⊥
            short ne few = let n = not_all g a x of from sized ne in let y = most in let z = pieces in absurd (omega arith)

            by_life : (life : Life) → x.life ≡ life → x.life ≡ Whole
            by_life Whole l = l
            by_life Growing l = absurd (short (λ z. let y : Growing ≡ Whole = sym l ∙ z in cc) (ap (λ (y : Life). slots_published room y x.content) l))
            by_life GivenUp l = absurd (short (λ z. let y : GivenUp ≡ Whole = sym l ∙ z in cc) (ap (λ (y : Life). slots_published room y x.content) l))

        own_right : (why ≡ more_answer.Fault → ⊥) → ReadRight lot why bytes q (more (setting_of g) t pl)
        own_right fine = by_end why refl went.ends went.no_piece
          where
            by_end : (w : More) → why ≡ w → Gave tells state offers s t m f went.before went.after q w → ((count : ℕ) → w ≢ more_answer.Piece count) → ReadRight lot w bytes q (more (setting_of g) t pl)
            by_end (more_answer.Piece count) e h none = absurd (none count refl)
            by_end (more_answer.NotYet epoch) e h none =
                let there = epoch_there epoch h.waits in
                let life = grows_at room x.content x.life (sym stage_there ∙ sym (ap Epoch.stage there) ∙ h.grows) in
                read_right (all_given epoch h.waits) h.waits.was f itself refl refl h.stays (more_answer.NotYet epoch)
                (λ z is_so. is_so ∙ ap (λ (y : Epoch). answer.Part y bytes) there ∙ told_as Growing life)
            by_end more_answer.End e h none =
                let life = whole_at_end h.all in
                read_right (h.all ∙ ap (λ (n : ℕ). pieces_of g n f.offer) f_anchor ∙ ap (pieces_of g a) f_offer ∙ of.whole life ∙ ap (λ (y : Life). slots_published room y x.content) (sym life))
                h.was f itself refl refl (subst (λ (z : Pass C). ReadsAs tells state offers s z t f) (sym h.still) so.reads) more_answer.End (λ z is_so. is_so ∙ told_as Whole life)
            by_end more_answer.Halted e h none =
                let there = epoch_there h.epoch h.waits in
                let life = halts_at room x.content x.life (sym stage_there ∙ sym (ap Epoch.stage there) ∙ h.halted) in
                read_right (all_given h.epoch h.waits) h.waits.was (halting f) record { anchor = refl; version = refl; offer = refl; url = refl } refl refl h.stays more_answer.Halted (λ z is_so. is_so ∙ told_as GivenUp life)
            by_end more_answer.OtherUrl e h none = absurd (of_other h)
              where
                of_other : StaysOther tells state offers s t m f went.before went.after q ⊎ TurnsOut tells state offers s t m f went.before went.after q → ⊥
                of_other (inl y) = not_turned y.was
                of_other (inr y) = (y.url known file).1 x.url x.body (moved_back x.url x.body of.response) same_url
            by_end more_answer.Fault e h none = absurd (fine e)

    -- whichever URL the entry has
    pub went_right : (other : Bool) (at : tab_at pl t ≡ Reading a given other) (sh : ShowsReading tells state offers s rename p pl t a given other) (why : More) (bytes : List ℕ) → WentOn tells state offers s t sh.standing p q bytes why
        → (why ≡ more_answer.Fault → ⊥) → ReadRight lot why bytes q (more (setting_of g) t pl)
    went_right other at sh why bytes went fine = by_url other refl
      where
        by_url : (b : Bool) → other ≡ b → ReadRight lot why bytes q (more (setting_of g) t pl)
        by_url true is = other_right other at sh why bytes went is fine
        by_url false is = own_right other at sh why bytes went is fine
