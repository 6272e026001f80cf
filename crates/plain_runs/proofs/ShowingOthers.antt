-- Tabs that a request does not use are shown still.
use Rattle.std.proofs.Common.{Bool, Contains, List, None, Option, Some, ap, arith, false, inl, inr, length, nat_lt, not, refl, subst, sym, true, ◌+◌, ◌-◌, ◌<◌, ◌≤◌, ◌∙◌, ◌≡◌, ◌≢◌, ◌⊎◌, ◌∷◌, ℕ, zero, suc, eq-eqb, ne_eqb}
use Rattle.std.proofs.lemmas.Bool.{false≢true}
use mathlib.Core.Logic.{dite}
use mathlib.Core.Option.{some}
use native.Mathlib.Decide.{ℕ_discrete}
use lib.ListN.{get_elem?}
use Rattle.std.specs.Str.{bytes_eq}
use Rattle.rock_disk.specs.Cell.{CellState}
use Rattle.lock_word.specs.Words.{epoch_of, stage_of, version_of}
use Rattle.lock_word.specs.Words.{stage_number}
use Rattle.store_key.specs.Key.{key_of}
use Rattle.rebuild_model.specs.Entry.{Entry as FileEntry, IsComplete}
use Rattle.core_model.specs.Anchors.{IsReadAt}
use Rattle.core_model.specs.Layout.{word_in}
use Rattle.core_model.specs.State.{word}
use Rattle.core_model.specs.declared.moves.Side.TheVariants.{Offer}
use Rattle.core_model.specs.Tabs as core
use Rattle.core_model.specs.declared.tab.Tab as core_tab
use Rattle.core_model.specs.declared.tab.Tab.TheVariants as tab
use Rattle.core_model.specs.declared.view.Place.TheVariants as place
use Rattle.core_model.proofs.Matching.{one_writer}
use Rattle.plain_model.specs.declared.entry.Entry.{Entry}
use Rattle.plain_model.specs.declared.store.Plain.{Plain}
use Rattle.plain_model.specs.declared.store.Tab.{Tab}
use Rattle.plain_model.specs.declared.store.Tab.TheVariants.{Free, Reading, Writing}
use Rattle.plain_model.specs.Store.{entry_at, place_at, readers, stage_of as stage_in, tab_at}
use Rattle.plain_laws.specs.Holding.{IsGrowing}
use Rattle.store_rule.specs.declared.store.Pass.{Pass}
use Rattle.store_rule.specs.declared.store.Store.{Store}
use Rattle.store_rule.specs.Ground.{Ground, Offers}
use Rattle.store_rule.specs.Passes.{IsOf, basis, view}
use Rattle.store_rule.specs.Told.{Stands}
use Rattle.store_rule.proofs.Passing.{pass_of}
use Rattle.store_rule.specs.Words.{has}
use Rattle.slice_chain.specs.Victims.{hand_in}
use Rattle.rock_reader.specs.Reading.{ReadsAs, Standing}
use Rattle.rock_reader.specs.Responses.{IsOpened, IsResponse, body_below}
use Rattle.store_serve.specs.Tabs.{Leaves}
use Rattle.worker_shelf.proofs.Holding.{Stays}
use Rattle.plain_runs.specs.Words.{IsOfOffer, KnowsLot, Lot, ShowsEntry, ShowsEntryIf, no_guests, setting_of, whole_lot}
use Rattle.plain_runs.specs.Shows.{IsWithin, ShowsLot, ShowsReading, ShowsTab, ShowsWriting}
use Rattle.core_model.proofs.Tabs.{tab_there}
use Rattle.plain_runs.proofs.OwnAnchors.{OwnsAnchor, OwnsLot, lot_stays}
use Rattle.plain_runs.proofs.OtherTabs.{IsOwn, KeepsElse}
use Rattle.plain_runs.proofs.PlainWords.{readers_fit, stage_there, version_there}

-- complete entries that begin at one slot are one
abbrev pub OneBegins : Type 0
OneBegins = (slot : ℕ) (images : List (List ℕ)) (e f : FileEntry) → IsComplete slot images e → IsComplete slot images f → e.first ≡ f.first → e ≡ f

-- an offer has one response
module _ (begins : OneBegins) (g : Ground (List ℕ)) (a offer : ℕ) where
  pub one_url : (url other body more : List ℕ) → IsResponse g a offer url body → IsResponse g a offer other more → url ≡ other
  one_url url other body more h k = dite (ℕ_discrete (g.setting.slots - offer) 0)
      (λ e. let x = h.new (omega arith) in let y = k.new (omega arith) in sym x.url_is ∙ y.url_is)
      (λ ne. of_file (h.old (omega arith)) (k.old (omega arith)))
    where
      firsts : {x y : ℕ} {xs ys : List ℕ} → x ∷ xs ≡ y ∷ ys → x ≡ y
      firsts e = cc

      of_file : IsOpened g a offer url body → IsOpened g a offer other more → url ≡ other
      of_file x y = sym x.url_is ∙ ap (λ (e : FileEntry). e.url) (begins g.slot g.setting.contents x.entry y.entry x.complete y.complete
          (firsts (sym x.complete.chain.begins ∙ (x.chain_is ∙ sym y.chain_is) ∙ y.complete.chain.begins))) ∙ y.url_is

-- In the whole store no tab is outside, and one that is free is nowhere.
pub within_whole : (x : Tab) → IsWithin whole_lot x
within_whole Free = tt
within_whole (Writing a) = refl
within_whole (Reading a given is_other) = refl

pub within_free : (lot : Lot) (x : Tab) → x ≡ Free → IsWithin lot x
within_free lot x is = subst (IsWithin lot) (sym is) tt

module _ {C O : Type 0} (tells : Bool) (state : C → CellState) (offers : O → Offers) (s : Store C O) (rename : ℕ → ℕ) where
  -- What a request on one tab has to say of a lot: what the pass knows, where its hand is, and what the tab is. The other tabs are shown then.
  pub record ShowsOn (lot : Lot) (q : Pass C) (p' : Plain) (t : ℕ) : Type 0 where
    pub knows : KnowsLot (basis tells state offers s) rename lot (view q) p' no_guests
    pub hand : hand_in (basis tells state offers s).setting.anchors q.hand ≡ p'.hand
    pub tab : ShowsTab tells state offers s rename q p' t (tab_at p' t)
    pub within : IsWithin lot (tab_at p' t)

module _ {C O : Type 0} (tells : Bool) (state : C → CellState) (offers : O → Offers) (s : Store C O) (rename : ℕ → ℕ) (begins : OneBegins) (stays : Stays tells state offers s) where
  abbrev g : Ground (List ℕ)
  g = basis tells state offers s

  -- an anchor where an entry may be read or was given up has one, in the plain store
  module _ (lot : Lot) (q : Pass C) (p' : Plain) (own : IsOf tells state offers s q) (knows : KnowsLot g rename lot (view q) p' no_guests) (eight : length p'.tabs ≡ 8) where
    abbrev st : Stands g (view q)
    st = own.stands

    few : (a : ℕ) → readers p' a + 0 < 65536
    few a = readers_fit p' a 0 eight (omega arith)

    anchor_word : (a : ℕ) → OwnsAnchor g (view q).pass a → a < g.setting.anchors → word st.state a ≡ has g (view q) (place.Anchor a)
    anchor_word a owns lt = owns.stands (view q) st (place.Anchor a) refl (pass_of q) refl lt

    stage_known : (a : ℕ) → OwnsAnchor g (view q).pass a → a < g.setting.anchors → lot.anchors a ≡ true → stage_of (epoch_of (word st.state a)) ≡ stage_number (stage_in (setting_of g).room (place_at p' a).version (entry_at p' a))
    stage_known a owns lt ours = stage_there rename (setting_of g) p' 0 a (word st.state a) (anchor_word a owns lt ∙ (knows.each a lt ours).word) (few a)

    version_known : (a : ℕ) → OwnsAnchor g (view q).pass a → a < g.setting.anchors → lot.anchors a ≡ true → version_of (epoch_of (word st.state a)) ≡ rename (place_at p' a).version
    version_known a owns lt ours = version_there rename (setting_of g) p' 0 a (word st.state a) (anchor_word a owns lt ∙ (knows.each a lt ours).word) (few a)

    pub some_entry : (a : ℕ) → OwnsAnchor g (view q).pass a → a < g.setting.anchors → lot.anchors a ≡ true → 2 ≤ stage_of (epoch_of (word st.state a)) → stage_of (epoch_of (word st.state a)) ≤ 4 → (e : Entry) × (entry_at p' a ≡ Some e) × ShowsEntry g (view q) a (place_at p' a).version e
    some_entry a owns lt ours least most = of_entry (entry_at p' a) refl ((knows.each a lt ours).entry)
      where
        no_stage : (version : ℕ) → stage_number (stage_in (setting_of g).room version None) ≢ 0 → 5 ≤ stage_number (stage_in (setting_of g).room version None)
        no_stage version ne = dite (ℕ_discrete version 0) (λ e. absurd (ne (empty e))) (λ other. gone other)
          where
            empty : version ≡ 0 → stage_number (stage_in (setting_of g).room version None) ≡ 0
            empty e = let b = eq-eqb version 0 e in rw b refl

            gone : version ≢ 0 → 5 ≤ stage_number (stage_in (setting_of g).room version None)
            gone other = let b = ne_eqb version 0 other in rw b (omega arith)

        of_entry : (o : Option Entry) → entry_at p' a ≡ o → ShowsEntryIf g (view q) a (place_at p' a).version (entry_at p' a) → (e : Entry) × (entry_at p' a ≡ Some e) × ShowsEntry g (view q) a (place_at p' a).version e
        of_entry (Some e) is h = (e, is, subst (ShowsEntryIf g (view q) a (place_at p' a).version) is h)
        of_entry None is h = absurd (let k : stage_of (epoch_of (word st.state a)) ≡ stage_number (stage_in (setting_of g).room (place_at p' a).version None) = stage_known a owns lt ours ∙ ap (λ (o : Option Entry). stage_number (stage_in (setting_of g).room (place_at p' a).version o)) is in
            let five = no_stage (place_at p' a).version (λ z. omega arith) in omega arith)

    -- what a tab that reads there has seen of its offer is what the entry has
    pub read_shows : (p : Plain) (j a given : ℕ) (is_other : Bool) (old : Entry) → OwnsAnchor g (view q).pass a → lot.anchors a ≡ true → IsOfOffer g a old → (standing : Standing) → ReadsAs tells state offers s q j standing → a < g.setting.anchors
        → standing.anchor ≡ a → standing.offer ≡ old.offer → old.key ≡ key_of standing.url → is_other ≡ not (bytes_eq old.url standing.url) → (standing.is_other ≡ true → is_other ≡ true)
        → (is_other ≡ true → standing.is_other ≡ false → standing.place ≡ 0) → (is_other ≡ false → given ≡ length (body_below g a old.offer standing.place)) → ShowsReading tells state offers s rename q p' j a given is_other
    read_shows p j a given is_other old owns ours offer standing reads lt anchor_is offer_is key_is other_is turned unread given_is = let r = at_anchor in let e = some_entry a owns lt ours r.from r.to in let same_offer = offers_are r e.0 e.2 in
        let url = one_url begins g a old.offer e.0.url old.url e.0.body old.body (subst (λ (n : ℕ). IsResponse g a n e.0.url e.0.body) (sym same_offer) e.2.offer.response) offer.response in record {
          inside = lt;
          entry = e.0;
          there = e.1;
          standing = standing;
          reads = reads;
          anchor_is = anchor_is;
          version_is = sym reads.version_is ∙ sym r.version_is ∙ version_known a owns lt ours;
          offer_is = offer_is ∙ same_offer;
          key_is = e.2.offer.key ∙ ap key_of url ∙ sym offer.key ∙ key_is;
          other_is = other_is ∙ ap (λ (u : List ℕ). not (bytes_eq u standing.url)) (sym url);
          turned = turned;
          unread = unread;
          given_is = λ z. given_is z ∙ ap (λ (n : ℕ). length (body_below g a n standing.place)) same_offer;
        }
      where
        there : get_elem? (view q).tabs j ≡ some (tab.Reading reads.reader)
        there = tab_there (view q) j (tab.Reading reads.reader) (let nine = pass_of q in let b = reads.below in omega arith) reads.is

        at_anchor : IsReadAt st.state a reads.reader.version
        at_anchor = subst (λ (b : ℕ). IsReadAt st.state b reads.reader.version) (reads.anchor_is ∙ anchor_is) (st.rule.sound.anchors.tabs st.index (view q) st.at j (tab.Reading reads.reader) there).1

        offers_are : IsReadAt st.state a reads.reader.version → (e : Entry) → ShowsEntry g (view q) a (place_at p' a).version e → old.offer ≡ e.offer
        offers_are r e h = let seen = st.rule.sound.anchors.seen.named st.index (view q) st.at standing.anchor standing.version Offer standing.offer reads.offer_seen
            (ap (λ (b : ℕ). version_of (epoch_of (word st.state b))) anchor_is ∙ r.version_is ∙ reads.version_is) in
            sym offer_is ∙ sym seen.0 ∙ ap (λ (b : ℕ). word_in g.setting st.state.words (place.Beside Offer b)) anchor_is ∙ owns.stands (view q) st (place.Beside Offer a) refl (pass_of q) refl lt ∙ h.names.offer

    -- A tab of the pass p that showed p is shown by q, where q has the tab and its desk still, and the plain store has it, and what it writes.
    module _ (pass : Pass C) (p : Plain) (t : ℕ) (leaves : Leaves tells state offers s t pass q) (old : (a : ℕ) (e : Entry) → a < g.setting.anchors → lot.anchors a ≡ true → entry_at p a ≡ Some e → IsOfOffer g a e) where
      pub reading_shows : (j a given : ℕ) (is_other : Bool) → OwnsAnchor g (view q).pass a → lot.anchors a ≡ true → j ≢ t → ShowsReading tells state offers s rename pass p j a given is_other → ShowsReading tells state offers s rename q p' j a given is_other
      reading_shows j a given is_other owns ours ne h = read_shows p j a given is_other h.entry owns ours (old a h.entry h.inside ours h.there) h.standing (stays.reads pass q t j h.standing leaves ne h.reads) h.inside h.anchor_is h.offer_is h.key_is h.other_is h.turned h.unread h.given_is

      pub writing_shows : (j a : ℕ) → j ≢ t → (h : ShowsWriting tells state offers s rename pass p j a) → entry_at p' a ≡ entry_at p a → (place_at p' a).version ≡ (place_at p a).version → ShowsWriting tells state offers s rename q p' j a
      writing_shows j a ne h same version = record {
        inside = h.inside;
        entry = h.entry;
        there = same ∙ h.there;
        grows = h.grows;
        written = h.written;
        writes = stays.writes pass q t j h.written leaves ne h.writes;
        anchor_is = h.anchor_is;
        version_is = h.version_is ∙ ap rename (sym version);
        offer_is = h.offer_is;
        size = h.size;
      }

  -- two tabs that write do so at different anchors
  pub writers_apart : (pass : Pass C) (p : Plain) (t j a : ℕ) → ShowsWriting tells state offers s rename pass p t a → ShowsWriting tells state offers s rename pass p j a → t ≡ j
  writers_apart pass p t j a h k = let st = h.writes.rests.own.stands in
      (one_writer g.setting st.state st.rule.sound.anchors a st.index st.index t j _ _ h.inside
      record { view = view pass; at = st.at; there = tab_there (view pass) t _ (let nine = pass_of pass in let b = h.writes.rests.below in omega arith) h.writes.rests.is }
      record { view = view pass; at = st.at; there = tab_there (view pass) j _ (let nine = pass_of pass in let b = k.writes.rests.below in omega arith) k.writes.rests.is }
      h.anchor_is k.anchor_is).1

  -- What the pass shows of the lot once a request on one of its tabs was served.
  module _ (lot : Lot) (pass q : Pass C) (p p' : Plain) (t : ℕ) (owns : OwnsLot g lot (view pass).pass) (h : ShowsLot tells state offers s rename pass p lot) (leaves : Leaves tells state offers s t pass q)
      (keeps : KeepsElse t (IsOwn t p) p p') (served : ShowsOn tells state offers s rename lot q p' t) (below : t < 8) (mine : lot.tabs t ≡ true) where
    old : (a : ℕ) (e : Entry) → a < g.setting.anchors → lot.anchors a ≡ true → entry_at p a ≡ Some e → IsOfOffer g a e
    old a e lt ours is = (subst (ShowsEntryIf g (view pass) a (place_at p a).version) is (h.knows.each a lt ours).entry).offer

    eight_still : length p'.tabs ≡ 8
    eight_still = keeps.eight ∙ h.eight

    tab_still : (j : ℕ) → j ≢ t → j < 8 → core.tab_at (view q) j ≡ core.tab_at (view pass) j
    tab_still j ne lt = leaves.others j ne (λ e. let z = e in omega arith)

    writer : (j a : ℕ) → j ≢ t → ShowsWriting tells state offers s rename pass p j a → tab_at p j ≡ Writing a → ShowsWriting tells state offers s rename q p' j a
    writer j a ne w is = writing_shows lot q p' leaves.own served.knows eight_still pass p t leaves old j a ne w (keeps.entries a grows apart) (keeps.versions a grows apart)
      where
        grows : IsGrowing (entry_at p a)
        grows = subst IsGrowing (sym w.there) w.grows

        apart : IsOwn t p a → ⊥
        apart own = ne (sym (writers_apart pass p t j a (subst (ShowsTab tells state offers s rename pass p t) own (h.tabs t below mine)) w))

    other : (j : ℕ) → j ≢ t → j < 8 → (x : Tab) → tab_at p j ≡ x → IsWithin lot x → ShowsTab tells state offers s rename pass p j x → ShowsTab tells state offers s rename q p' j x
    other j ne lt Free is within shown = tab_still j ne lt ∙ shown
    other j ne lt (Writing a) is within shown = writer j a ne shown is
    other j ne lt (Reading a given is_other) is within shown = reading_shows lot q p' leaves.own served.knows eight_still pass p t leaves old j a given is_other
        (lot_stays g lot (view pass) (view q) leaves.keeps.pass owns a shown.inside within) within ne shown

    pub shows_after : ShowsLot tells state offers s rename q p' lot
    shows_after = record {
      own = leaves.own;
      inner_free = leaves.inner_free;
      knows = served.knows;
      hand = served.hand;
      eight = eight_still;
      tabs = λ j lt own. dite (ℕ_discrete j t)
          (λ e. subst (λ (n : ℕ). ShowsTab tells state offers s rename q p' n (tab_at p' n)) (sym e) served.tab)
          (λ ne. subst (ShowsTab tells state offers s rename q p' j) (sym (keeps.tabs j ne)) (other j ne lt (tab_at p j) refl (h.within j lt own) (h.tabs j lt own)));
      within = λ j lt own. dite (ℕ_discrete j t)
          (λ e. subst (λ (n : ℕ). IsWithin lot (tab_at p' n)) (sym e) served.within)
          (λ ne. subst (IsWithin lot) (sym (keeps.tabs j ne)) (h.within j lt own));
      away = λ j lt no. let ne = another j no in let still = tab_still j ne lt in (
        keeps.tabs j ne ∙ (h.away j lt no).0,
        λ used. subst (λ (x : core_tab.Tab (List ℕ)). lot.anchors (core.anchor_of x) ≡ false) (sym still)
            ((h.away j lt no).1 (ap core.is_free (sym still) ∙ used)),
      );
    }
      where
        another : (j : ℕ) → lot.tabs j ≡ false → j ≢ t
        another j outside e = false≢true (sym outside ∙ (ap lot.tabs e ∙ mine))
