-- What is known of the plain store once an anchor was taken for a new entry.
use Rattle.std.proofs.Common.{Bool, Contains, List, Some, [], ap, arith, cond, eq-eqb, false, get_or, get_or-set_other, get_or-set_same, inl, inr, length, length-set, refl, set, subst, sym, true, ◌+◌, ◌-◌, ◌<◌, ◌∙◌, ◌≡◌, ◌≤◌, ◌⊎◌, ℕ}
use Rattle.std.proofs.lemmas.Bool.{false≢true}
use Rattle.std.specs.Prelude.{◌||◌}
use Rattle.std.proofs.Math.Nat.{div-eq_of_lt}
use Rattle.lock_word.specs.declared.word.Word.{Word}
use Rattle.lock_word.specs.Words.{is_idle, is_vacant, readers_of, version_limit, word_at as word_of, word_number}
use Rattle.lock_word.proofs.Testing.{readers_of-idle, readers_of-vacant}
use Rattle.link_word.specs.declared.link.Link.TheVariants.{Last, NotWritten}
use Rattle.store_key.specs.Anchor.{back_half, front_half}
use Rattle.store_key.specs.Key.{key_of}
use Rattle.entry_cut.specs.Content.{LeavesRoom, room_of}
use Rattle.core_model.specs.AnchorMoves.{freer_of, writer_of}
use Rattle.core_model.specs.Layout.{index}
use Rattle.core_model.specs.Table.{place}
use Rattle.core_model.specs.SlotMoves.{stores}
use Rattle.core_model.specs.Steps.{chain_found}
use Rattle.core_model.specs.Tabs.{InnerIsFree, IsPass, anchor_of, inner, tab_at as tab_in}
use Rattle.core_model.specs.Trails.{last_find}
use Rattle.core_model.specs.declared.chain.Chain.{Chain}
use Rattle.core_model.specs.declared.moves.Move.TheVariants.{Count, Draw, Look, StoreSide, Take}
use Rattle.core_model.specs.declared.tab.Freer.{Freer}
use Rattle.core_model.specs.declared.moves.Side.{Side}
use Rattle.core_model.specs.declared.moves.Side.TheVariants.{Key0, Key1, Offer, Start}
use Rattle.core_model.specs.declared.tab.Tab.{Tab as TabOf}
use Rattle.core_model.specs.declared.tab.Tab.TheVariants.{Freeing}
use Rattle.core_model.specs.declared.view.Place.{Place}
use Rattle.core_model.specs.declared.view.Place.TheVariants.{Anchor, Beside, Counter, Link}
use Rattle.core_model.specs.declared.view.View.{View}
use Rattle.plain_model.specs.declared.entry.Entry.{Entry}
use Rattle.plain_model.specs.declared.store.Plain.{Plain}
use Rattle.plain_model.specs.declared.store.Tab.{Tab}
use Rattle.plain_model.specs.declared.store.Tab.TheVariants.{Free, Writing}
use Rattle.plain_model.specs.declared.entry.Life.TheVariants.{Growing, Whole}
use Rattle.plain_model.specs.declared.entry.Place.{Place as PlaceOf}
use Rattle.plain_model.specs.Place.{nothing}
use Rattle.plain_model.specs.Store.{epoch_of, meta_size, is_idle_at, is_vacant_at, place_at, published, readers, reads_at, tab_at, word_at}
use Rattle.plain_model.specs.Writing.{entry_of, taken_by}
use Rattle.plain_laws.specs.Renaming.{renamed_word}
use Rattle.rock_reader.specs.Responses.{IsOffered}
use Rattle.store_rule.specs.Ground.{Ground, anchor_for}
use Rattle.store_rule.specs.Told.{Steps}
use Rattle.store_rule.specs.Words.{Mine, has}
use Rattle.core_alone.specs.Touched.{places_in}
use Rattle.store_rule.proofs.AddingUp.{has_left}
use Rattle.store_rule.proofs.MyWords.{found_mine}
use Rattle.rw_anchor.specs.Calls.{Drew, SpentAtDraw, SpentAtLook}
use Rattle.rw_anchor.proofs.Drawing.{same_find}
use Rattle.slice_chain.specs.Freeing.{Freed}
use Rattle.slice_chain.specs.Names.{Named}
use Rattle.rock_writer.specs.Beginning.{Overtaken, Took, TookAnchor, WasIdle, WasVacant}
use Rattle.rock_writer.proofs.Begun.{drew_pass, looked_last, took_idle, took_vacant}
use Rattle.plain_runs.specs.Words.{HasChain, IsLone, IsOfOffer, Knows, KnowsLot, Lot, ShowsAt, ShowsEntryIf, no_guests, setting_of, whole_lot}
use Rattle.plain_runs.proofs.Frames.{SameBut, knows_same, same_on, shows_elsewhere, step_same}
use Rattle.plain_runs.proofs.Freeing.{FewReaders, KnowsLotBut, SameElse, but_moved, but_step, same_else, freed_but, knows_all, knows_but, same_freer}
use Rattle.plain_runs.proofs.OwnAnchors.{OwnsAnchor, OwnsLot, lot_stays, mine_lone, pass_stays}
use Rattle.plain_runs.proofs.PlainWords.{idle_there, readers_put, readers_there, vacant_there}
use Rattle.plain_runs.proofs.QuietSteps.{step_quiet}

-- a version more was given out
abbrev pub counted_on : Plain → Plain
counted_on p = record p { counter = p.counter + 1 }

-- A look at an anchor whose word nobody else changes finds the word that is known, and leaves all words.
module _ (g : Ground (List ℕ)) where
  pub looked_is : (v w : View (List ℕ)) (a n : ℕ) → Mine g v (Anchor a) → Steps g v (Look a) n w → n ≡ has g v (Anchor a)
  looked_is v w a n mine st = found_mine g v w (Look a) n (Anchor a) st mine refl

  pub looked_same : (v w : View (List ℕ)) (a n : ℕ) → Mine g v (Anchor a) → Steps g v (Look a) n w → SameBut g v w (λ q. ⊥)
  looked_same v w a n mine st = step_quiet g v w (Look a) n (Anchor a) st refl refl refl mine

-- What a draw tells: the version stands for the next one of the plain store.
pub record DrewNext (g : Ground (List ℕ)) (lot : Lot) (rename : ℕ → ℕ) (w : View (List ℕ)) (version : ℕ) (p : Plain) (guests : ℕ → ℕ) : Type 0 where
  pub version_is : version ≡ rename (p.counter + 1)
  pub left : p.counter < version_limit
  pub knows : KnowsLot g rename lot w (counted_on p) guests

-- Of a lot without the counter a draw leaves all that is known.
pub drew_lot : (g : Ground (List ℕ)) (lot : Lot) (rename : ℕ → ℕ) (v w : View (List ℕ)) (version : ℕ) (p : Plain) (guests : ℕ → ℕ) → lot.counter ≡ false → KnowsLot g rename lot v p guests → Drew g v version w
    → KnowsLot g rename lot w (counted_on p) guests
drew_lot g lot rename v w version p guests none h d = record {
  counter = λ has. absurd (false≢true (sym none ∙ has));
  many = h.many;
  each = λ a lt ours. shows_elsewhere g rename v w (λ q. (q ≡ Counter) ⊎ (q ≡ Counter)) p (counted_on p) (guests a) a lt (h.each a lt ours) refl refl
      (same_on g v d.middle w (λ q. q ≡ Counter) (λ q. q ≡ Counter) (step_same g v d.middle Count d.counted Counter d.look refl tt) (step_same g d.middle w Draw d.found Counter d.draw refl tt))
      record { word = λ e. no_word a e; sides = λ side e. no_side side a e; links = λ x there chain j c e. no_link j e };
}
  where
    no_word : (a : ℕ) → (Anchor a ≡ Counter) ⊎ (Anchor a ≡ Counter) → ⊥
    no_word a (inl e) = cc
    no_word a (inr e) = cc

    no_side : (side : Side) (a : ℕ) → (Beside side a ≡ Counter) ⊎ (Beside side a ≡ Counter) → ⊥
    no_side side a (inl e) = cc
    no_side side a (inr e) = cc

    no_link : (j : ℕ) → (Link j ≡ Counter) ⊎ (Link j ≡ Counter) → ⊥
    no_link j (inl e) = cc
    no_link j (inr e) = cc

module _ (g : Ground (List ℕ)) (lone : IsLone g) where
  -- so does a look at the counter
  pub counted_is : (v w : View (List ℕ)) (n : ℕ) → Steps g v Count n w → n ≡ has g v Counter
  counted_is v w n st = found_mine g v w Count n Counter st (mine_lone g lone v Counter) refl

  pub counted_same : (v w : View (List ℕ)) (n : ℕ) → Steps g v Count n w → SameBut g v w (λ q. ⊥)
  counted_same v w n st = step_quiet g v w Count n Counter st refl refl refl (mine_lone g lone v Counter)

  module _ (rename : ℕ → ℕ) where
    pub drew_knows : (v w : View (List ℕ)) (m : ℕ) (p : Plain) (guests : ℕ → ℕ) → Knows g rename v p guests → Steps g v Draw m w → Knows g rename w (counted_on p) guests
    drew_knows v w m p guests h st = record {
      counter = λ own. has_left g v w Draw m Counter st refl ∙ ap (λ (z : ℕ). z + 1) (found_mine g v w Draw m Counter st (mine_lone g lone v Counter) refl ∙ h.counter refl);
      many = h.many;
      each = λ a lt own. shows_elsewhere g rename v w (λ q. q ≡ Counter) p (counted_on p) (guests a) a lt (h.each a lt own) refl refl (step_same g v w Draw m Counter st refl tt)
          record { word = λ e. cc; sides = λ side e. cc; links = λ x there chain j c e. cc };
    }

    pub drew_next : (v w : View (List ℕ)) (version : ℕ) (p : Plain) (guests : ℕ → ℕ) → rename (p.counter + 1) ≡ p.counter + 1 → Knows g rename v p guests → Drew g v version w → DrewNext g whole_lot rename w version p guests
    drew_next v w version p guests next h d =
        let k : Knows g rename d.middle p guests = knows_same g rename v d.middle p guests h (counted_same v d.middle d.counted d.look) in
        let f : d.found ≡ p.counter = found_mine g d.middle w Draw d.found Counter d.draw (mine_lone g lone d.middle Counter) refl ∙ k.counter refl in record {
          version_is = sym d.version_is ∙ (ap (λ (z : ℕ). z + 1) f ∙ sym next);
          left = subst (λ (z : ℕ). z < version_limit) f d.left;
          knows = drew_knows d.middle w d.found p guests k d.draw;
        }

    -- none is left where the counter is looked at, and then the draw is not tried
    pub spent_at_look : (v w : View (List ℕ)) (versions : ℕ) (p : Plain) (guests : ℕ → ℕ) → Knows g rename v p guests → SpentAtLook g v versions w → (versions ≡ p.counter) × (version_limit ≤ p.counter) × Knows g rename w p guests
    spent_at_look v w versions p guests h s =
        let is : versions ≡ p.counter = counted_is v w versions s.look ∙ h.counter refl in
        (is, subst (λ (z : ℕ). version_limit ≤ z) is s.spent, knows_same g rename v w p guests h (counted_same v w versions s.look))

    pub never_spent_at_draw : (v w : View (List ℕ)) (versions : ℕ) (p : Plain) (guests : ℕ → ℕ) → Knows g rename v p guests → SpentAtDraw g v versions w → ⊥
    never_spent_at_draw v w versions p guests h s =
        let c : s.counted ≡ p.counter = counted_is v s.middle s.counted s.look ∙ h.counter refl in
        let k : Knows g rename s.middle p guests = knows_same g rename v s.middle p guests h (counted_same v s.middle s.counted s.look) in
        let f : versions ≡ p.counter = found_mine g s.middle w Draw versions Counter s.draw (mine_lone g lone s.middle Counter) refl ∙ k.counter refl in
        let room : s.counted < version_limit = s.room in let spent : version_limit ≤ versions = s.spent in omega arith

-- The anchor is taken.

-- a tab that stores a name stays at its anchor
stores_anchor : (x : TabOf (List ℕ)) (side : Side) (value : ℕ) → anchor_of (stores x side value) ≡ anchor_of x
stores_anchor (TabOf.Writing w) Key0 value = refl
stores_anchor (TabOf.Writing w) Key1 value = refl
stores_anchor (TabOf.Writing w) Offer value = refl
stores_anchor (TabOf.Writing w) Start value = refl
stores_anchor TabOf.Free side value = refl
stores_anchor (TabOf.Retreating a) side value = refl
stores_anchor (TabOf.Reading r) side value = refl
stores_anchor (TabOf.Last a) side value = refl
stores_anchor (TabOf.Freeing f) side value = refl

which_of : Place → ℕ
which_of (Beside side a) = a
which_of q = 0

same_beside : (side other : Side) (a b : ℕ) → Beside side a ≡ Beside other b → a ≡ b
unfolding which_of
same_beside side other a b e = ap which_of e

-- no tab reads there more or less than before
readers_taken : (t a b : ℕ) (e : Entry) (p : Plain) → tab_at p t ≡ Free → t < length p.tabs → readers (taken_by t a e p) b ≡ readers p b
readers_taken t a b e p free inside = let none : cond {A = ℕ} (reads_at b (tab_at p t)) 1 0 ≡ 0 = ap (λ (x : Tab). cond (reads_at b x) 1 0) free in
    let k : readers (taken_by t a e p) b + cond {A = ℕ} (reads_at b (tab_at p t)) 1 0 ≡ readers p b + 0 = readers_put p t b (Writing a) inside in omega arith

taken_else : (t a : ℕ) (e : Entry) (p : Plain) → tab_at p t ≡ Free → t < length p.tabs → SameElse (counted_on p) (taken_by t a e p) a
taken_else t a e p free inside = record {
  counter = refl;
  many = length-set p.places a (record { version = p.counter + 1; doom = false; entry = Some e });
  places = λ b ne. get_or-set_other p.places a b (record { version = p.counter + 1; doom = false; entry = Some e }) nothing ne;
  readers = λ b ne. readers_taken t a b e p free inside;
}

module _ (g : Ground (List ℕ)) (lot : Lot) (rename : ℕ → ℕ) where
  module _ (t a n version : ℕ) (v w : View (List ℕ)) (took : TookAnchor g t a v n version w) (p : Plain) (owns : OwnsLot g lot v.pass) (ours : lot.anchors a ≡ true)
      (drew : DrewNext g lot rename took.drawn version p no_guests) where
    pub inside : a < g.setting.anchors
    inside = took.looks.may.allowed

    -- the word was the one that is known
    pub took_found : n ≡ has g v (Anchor a)
    took_found = looked_is g v took.seen a n ((owns a inside ours).words v (Anchor a) refl refl) took.looks

    pub found_last : n ≡ last_find a took.drawn.trail
    found_last = sym (same_find g took.seen took.drawn version took.drew a ∙ looked_last g v took.seen a n took.looks)

    -- the pass keeps its number
    pub took_pass : w.pass ≡ v.pass
    took_pass = pass_stays g took.drawn w (Take t a version) n took.takes ∙ (drew_pass g took.seen took.drawn version took.drew ∙ pass_stays g v took.seen (Look a) n took.looks)

    -- what stands there now
    pub took_word : has g w (Anchor a) ≡ word_of version 1
    took_word = has_left g took.drawn w (Take t a version) n (Anchor a) took.takes refl ∙ (let e = eq-eqb n (last_find a took.drawn.trail) found_last in rw e refl)

    pub took_but : (e : Entry) → tab_at p t ≡ Free → t < length p.tabs → KnowsLotBut g rename lot w (taken_by t a e p) no_guests a
    took_but e free below = but_step g rename took.drawn w (Take t a version) n (counted_on p) (taken_by t a e p) no_guests a took.takes refl inside (taken_else t a e p free below)
        (knows_but g rename took.drawn (counted_on p) no_guests a drew.knows)

module _ (g : Ground (List ℕ)) where
  -- A try that another pass overtook finds the word that was looked at, at an anchor that is the pass's own.
  pub never_overtaken : (t a : ℕ) (v w : View (List ℕ)) (looked found : Word) → OwnsAnchor g v.pass a → Overtaken g t a v looked found w → ⊥
  never_overtaken t a v w looked found own o = o.other (found_mine g o.drawn w (Take t a o.version) (word_number found) (Anchor a) o.misses (own.words o.drawn (Anchor a) drawn_pass refl) refl
      ∙ drawn_word ∙ seen_word ∙ sym (looked_is g v o.seen a (word_number looked) mine o.looks))
    where
      lt : a < g.setting.anchors
      lt = o.looks.may.allowed

      mine : Mine g v (Anchor a)
      mine = own.words v (Anchor a) refl refl

      drawn_pass : o.drawn.pass ≡ v.pass
      drawn_pass = pass_stays g o.drew.middle o.drawn Draw o.drew.found o.drew.draw
          ∙ (pass_stays g o.seen o.drew.middle Count o.drew.counted o.drew.look ∙ pass_stays g v o.seen (Look a) (word_number looked) o.looks)

      seen_word : has g o.seen (Anchor a) ≡ has g v (Anchor a)
      seen_word = (looked_same g v o.seen a (word_number looked) mine o.looks).same (Anchor a) tt lt (λ none. none)

      drawn_word : has g o.drawn (Anchor a) ≡ has g o.seen (Anchor a)
      drawn_word = (step_same g o.drew.middle o.drawn Draw o.drew.found Counter o.drew.draw refl tt).same (Anchor a) tt lt (λ e. cc)
          ∙ (step_same g o.seen o.drew.middle Count o.drew.counted Counter o.drew.look refl tt).same (Anchor a) tt lt (λ e. cc)

  -- Where an idle entry was there, its slots are given back. The word stays.
  module _ (v w : View (List ℕ)) (freed : Freed g v w) (a n : ℕ) (c : Chain) (was : tab_in v inner ≡ Freeing (freer_of a false n c)) where
    freer_is : freed.freer ≡ freer_of a false n c
    freer_is = same_freer (freed.freer) (freer_of a false n c) (sym freed.was ∙ was)

    pub freed_word : Mine g v (Anchor a) → a < g.setting.anchors → has g w (Anchor a) ≡ has g v (Anchor a)
    freed_word mine lt = freed.went.steady (Anchor a) tt lt mine (λ q k e. of_one q e (freed.changed q k))
      where
        no_link : (slot : ℕ) → index g.setting (Link slot) ≡ index g.setting (Anchor a) → ⊥
        no_link slot e = omega arith

        of_one : (q : Place) → index g.setting q ≡ index g.setting (Anchor a) → ((slot : ℕ) × (q ≡ Link slot) × Contains freed.freer.rest slot) ⊎ ((freed.freer.is_freeing ≡ true) × (q ≡ Anchor freed.freer.anchor)) → ⊥
        of_one q e (inl x) = no_link x.0 (ap (index g.setting) (sym x.1) ∙ e)
        of_one q e (inr x) = false≢true (sym (ap (λ (f : Freer (List ℕ)). f.is_freeing) freer_is) ∙ x.0)

    pub freed_else : {lot : Lot} → OwnsLot g lot v.pass → IsPass v → (rename : ℕ → ℕ) (p : Plain) → FewReaders p no_guests → KnowsLotBut g rename lot v p no_guests a → KnowsLotBut g rename lot w p no_guests a
    freed_else owns nine rename p few h = freed_but g rename v w nine freed p no_guests a few owns (ap (λ (f : Freer (List ℕ)). f.anchor) freer_is) h

module _ (g : Ground (List ℕ)) (rename : ℕ → ℕ) where
  -- The entry is named.

  -- a word beside the anchor is stored
  module _ (t a n : ℕ) (side : Side) (value : ℕ) (v w : View (List ℕ)) (st : Steps g v (StoreSide t side value) n w) (at : anchor_of (tab_in v t) ≡ a) where
    here : place v (StoreSide t side value) ≡ Some (Beside side a)
    here = ap (λ (z : ℕ). Some (Beside side z)) at

    pub stored_same : a < g.setting.anchors → SameBut g v w (λ q. q ≡ Beside side a)
    stored_same lt = step_same g v w (StoreSide t side value) n (Beside side a) st (ap places_in here) lt

    pub stored_is : has g w (Beside side a) ≡ value
    stored_is = has_left g v w (StoreSide t side value) n (Beside side a) st here

    pub stored_anchor : anchor_of (tab_in w t) ≡ a
    stored_anchor = ap (λ (z : View (List ℕ)). anchor_of (tab_in z t)) st.leaves
        ∙ ap anchor_of (get_or-set_same v.tabs t (stores (tab_in v t) side value) TabOf.Free (let nine = st.may.pass in let b = st.may.allowed.0 in omega arith))
        ∙ stores_anchor (tab_in v t) side value ∙ at

    pub stored_but : {lot : Lot} (p : Plain) (guests : ℕ → ℕ) → a < g.setting.anchors → KnowsLotBut g rename lot v p guests a → KnowsLotBut g rename lot w p guests a
    stored_but p guests lt h = but_moved g rename v w (λ q. q ≡ Beside side a) p p guests a (stored_same lt) (same_else p a) (λ e. cc)
        (λ b there own ne. record { word = λ e. cc; sides = λ other e. ne (same_beside other side b a e); links = λ x is chain j c e. cc }) h

  -- all its names were, one after the other
  pub record IsNamed (lot : Lot) (a : ℕ) (key : List ℕ) (offer : ℕ) (v w : View (List ℕ)) (p : Plain) (guests : ℕ → ℕ) : Type 0 where
    pub key0 : has g w (Beside Key0 a) ≡ front_half key
    pub key1 : has g w (Beside Key1 a) ≡ back_half key
    pub offer_is : has g w (Beside Offer a) ≡ offer
    pub start : has g w (Beside Start a) ≡ 0
    pub word : has g w (Anchor a) ≡ has g v (Anchor a)
    pub but : KnowsLotBut g rename lot w p guests a

  pub named_right : {lot : Lot} (t a : ℕ) (key : List ℕ) (offer : ℕ) (v w : View (List ℕ)) (p : Plain) (guests : ℕ → ℕ) → a < g.setting.anchors → anchor_of (tab_in v t) ≡ a → Named g t v key offer w → KnowsLotBut g rename lot v p guests a → IsNamed lot a key offer v w p guests
  named_right t a key offer v w p guests lt at n h = record {
    key0 = s3.same (Beside Key0 a) tt lt (λ e. cc) ∙ s2.same (Beside Key0 a) tt lt (λ e. cc) ∙ s1.same (Beside Key0 a) tt lt (λ e. cc) ∙ stored_is t a n.found0 Key0 (front_half key) v n.middle0 n.front at;
    key1 = s3.same (Beside Key1 a) tt lt (λ e. cc) ∙ s2.same (Beside Key1 a) tt lt (λ e. cc) ∙ stored_is t a n.found1 Key1 (back_half key) n.middle0 n.middle1 n.back a0;
    offer_is = s3.same (Beside Offer a) tt lt (λ e. cc) ∙ stored_is t a n.found2 Offer offer n.middle1 n.middle2 n.stored a1;
    start = stored_is t a n.found3 Start 0 n.middle2 w n.start a2;
    word = s3.same (Anchor a) tt lt (λ e. cc) ∙ s2.same (Anchor a) tt lt (λ e. cc) ∙ s1.same (Anchor a) tt lt (λ e. cc) ∙ s0.same (Anchor a) tt lt (λ e. cc);
    but = stored_but t a n.found3 Start 0 n.middle2 w n.start a2 p guests lt
        (stored_but t a n.found2 Offer offer n.middle1 n.middle2 n.stored a1 p guests lt
        (stored_but t a n.found1 Key1 (back_half key) n.middle0 n.middle1 n.back a0 p guests lt
        (stored_but t a n.found0 Key0 (front_half key) v n.middle0 n.front at p guests lt h)));
  }
    where
      a0 : anchor_of (tab_in n.middle0 t) ≡ a
      a0 = stored_anchor t a n.found0 Key0 (front_half key) v n.middle0 n.front at

      a1 : anchor_of (tab_in n.middle1 t) ≡ a
      a1 = stored_anchor t a n.found1 Key1 (back_half key) n.middle0 n.middle1 n.back a0

      a2 : anchor_of (tab_in n.middle2 t) ≡ a
      a2 = stored_anchor t a n.found2 Offer offer n.middle1 n.middle2 n.stored a1

      s0 : SameBut g v n.middle0 (λ q. q ≡ Beside Key0 a)
      s0 = stored_same t a n.found0 Key0 (front_half key) v n.middle0 n.front at lt

      s1 : SameBut g n.middle0 n.middle1 (λ q. q ≡ Beside Key1 a)
      s1 = stored_same t a n.found1 Key1 (back_half key) n.middle0 n.middle1 n.back a0 lt

      s2 : SameBut g n.middle1 n.middle2 (λ q. q ≡ Beside Offer a)
      s2 = stored_same t a n.found2 Offer offer n.middle1 n.middle2 n.stored a1 lt

      s3 : SameBut g n.middle2 w (λ q. q ≡ Beside Start a)
      s3 = stored_same t a n.found3 Start 0 n.middle2 w n.start a2 lt

-- What is shown of an entry that was begun.

abbrev pub new_place : ℕ → Entry → PlaceOf
new_place counter e = record { version = counter + 1; doom = false; entry = Some e }

-- its metadata fit into a slot
none_published : (slot : ℕ) (url : List ℕ) → LeavesRoom slot url → published (room_of slot) (meta_size url) ≡ 0
none_published slot url short = let small : meta_size url - 1 < room_of slot = omega arith in div-eq_of_lt small

new_word : (rename : ℕ → ℕ) (room counter readers offer : ℕ) (url body : List ℕ) → readers ≡ 0 → published room (meta_size url) ≡ 0
    → word_number (renamed_word rename record { epoch = epoch_of room (new_place counter (entry_of url body offer)); readers = readers }) + 0 ≡ word_of (rename (counter + 1)) 1
new_word rename room counter readers offer url body none small = rw (none, small) (omega arith)

module _ (g : Ground (List ℕ)) (a offer : ℕ) (url body : List ℕ) (response : IsOffered g a offer url body) (from : g.setting.slots ≤ offer) (at : anchor_for g url ≡ a) where
  abbrev begun : Entry
  begun = entry_of url body offer

  begun_offer : IsOfOffer g a begun
  begun_offer = record {
    response = record { old = λ less. absurd (omega arith); new = λ above. response };
    key = refl;
    at = at;
    old = λ less. absurd (omega arith);
    more = λ above. omega arith;
    most = λ above. omega arith;
    whole = λ w. absurd (not_whole w);
    all = λ above w. absurd (not_whole w);
  }
    where
      not_whole : Growing ≡ Whole → ⊥
      not_whole e = cc

  module _ (rename : ℕ → ℕ) (w : View (List ℕ)) where
    begun_chain : has g w (Beside Start a) ≡ 0 → HasChain g w a begun
    begun_chain start = record {
      slots = [];
      end = NotWritten;
      spelled = record { starts = start; spelled = tt; fits = tt; ends = tt };
      many = sym (none_published g.slot url response.short);
      ends = λ e. not_last e;
    }
      where
        not_last : NotWritten ≡ Last → ⊥
        not_last e = cc

    pub begun_shown : (t : ℕ) (p : Plain) → a < length p.places → tab_at p t ≡ Free → t < length p.tabs → readers p a ≡ 0 → has g w (Anchor a) ≡ word_of (rename (p.counter + 1)) 1
        → has g w (Beside Key0 a) ≡ front_half (key_of url) → has g w (Beside Key1 a) ≡ back_half (key_of url) → has g w (Beside Offer a) ≡ offer → has g w (Beside Start a) ≡ 0
        → ShowsAt g rename w (taken_by t a begun p) 0 a
    begun_shown t p inside free below unread word key0 key1 offer_is start = record {
      word = word ∙ sym (new_word rename (room_of g.slot) p.counter (readers (taken_by t a begun p) a) offer url body (readers_taken t a a begun p free below ∙ unread) (none_published g.slot url response.short))
          ∙ ap (λ (x : PlaceOf). word_number (renamed_word rename record { epoch = epoch_of (room_of g.slot) x; readers = readers (taken_by t a begun p) a }) + 0) (sym there);
      entry = subst (λ (x : PlaceOf). ShowsEntryIf g w a x.version x.entry) (sym there) record {
        names = record { key0 = key0; key1 = key1; offer = offer_is };
        chain = begun_chain start;
        offer = begun_offer;
        drawn = omega arith;
      };
    }
      where
        there : place_at (taken_by t a begun p) a ≡ new_place p.counter begun
        there = get_or-set_same p.places a (new_place p.counter begun) nothing inside

module _ (g : Ground (List ℕ)) (lot : Lot) (rename : ℕ → ℕ) (t a n version : ℕ) (v w : View (List ℕ)) (inner_free : InnerIsFree v) (p : Plain) (owns : OwnsLot g lot v.pass) (ours : lot.anchors a ≡ true)
    (h : KnowsLot g rename lot v p no_guests) (few : FewReaders p no_guests) (free : tab_at p t ≡ Free) (below : t < length p.tabs) (took : Took g t a v n version w) (drew : DrewNext g lot rename took.took.drawn version p no_guests) where
  lt : a < g.setting.anchors
  lt = inside g lot rename t a n version v took.taken took.took p owns ours drew

  writes_below : t < inner
  writes_below = took.took.takes.may.allowed.1.writes

  nine : IsPass v
  nine = took.took.looks.may.pass

  found_is : n ≡ word_number (renamed_word rename (word_at (setting_of g) p a)) + 0
  found_is = took_found g lot rename t a n version v took.taken took.took p owns ours drew ∙ (h.each a lt ours).word

  -- the anchor was vacant or idle, and so nobody read there
  pub took_open : (is_vacant_at p a || is_idle_at p a) ≡ true
  took_open = of_open took.took.open_to
    where
      first : (x y : Bool) → x ≡ true → (x || y) ≡ true
      first x y e = rw e refl

      second : (x y : Bool) → y ≡ true → (x || y) ≡ true
      second true y e = refl
      second false y e = e

      of_open : (is_vacant n ≡ true) ⊎ (is_idle n ≡ true) → (is_vacant_at p a || is_idle_at p a) ≡ true
      of_open (inl e) = first _ _ (sym (vacant_there rename (setting_of g) p 0 a n found_is (few a) refl) ∙ e)
      of_open (inr e) = second _ _ (sym (idle_there rename (setting_of g) p 0 a n found_is (few a) refl) ∙ e)

  pub unread : readers p a ≡ 0
  unread = let r = readers_there rename (setting_of g) p 0 a n found_is (few a) in let z = none_read took.took.open_to in omega arith
    where
      none_read : (is_vacant n ≡ true) ⊎ (is_idle n ≡ true) → readers_of n ≡ 0
      none_read (inl e) = readers_of-vacant n e
      none_read (inr e) = readers_of-idle n e

  -- The anchor is taken, and an idle entry that was there given back.
  pub record IsTaken (e : Entry) : Type 0 where
    pub word : has g w (Anchor a) ≡ word_of version 1
    pub tab : tab_in w t ≡ TabOf.Writing (writer_of a version)
    pub but : KnowsLotBut g rename lot w (taken_by t a e p) no_guests a

  few_after : (e : Entry) → FewReaders (taken_by t a e p) no_guests
  few_after e b = let k = readers_taken t a b e p free below in let f = few b in omega arith

  pub is_taken : (e : Entry) → IsTaken e
  is_taken e = of_cleared took.cleared
    where
      number : took.taken.pass ≡ v.pass
      number = took_pass g lot rename t a n version v took.taken took.took p owns ours drew

      taken_word : has g took.taken (Anchor a) ≡ word_of version 1
      taken_word = took_word g lot rename t a n version v took.taken took.took p owns ours drew

      taken_but : KnowsLotBut g rename lot took.taken (taken_by t a e p) no_guests a
      taken_but = took_but g lot rename t a n version v took.taken took.took p owns ours drew e free below

      cleared_first : List (TabOf (List ℕ))
      cleared_first = set took.took.drawn.tabs inner (Freeing (freer_of a false n (chain_found took.took.takes.state (Take t a version))))

      taken_tabs : is_idle n ≡ true → length took.taken.tabs ≡ length (set cleared_first t (TabOf.Writing (writer_of a version)))
      taken_tabs idle = ap (λ (z : View (List ℕ)). length z.tabs) took.took.takes.leaves
          ∙ (let z = eq-eqb n (last_find a took.took.drawn.trail) (found_last g lot rename t a n version v took.taken took.took p owns ours drew) in rw (z, idle) refl)

      taken_long : is_idle n ≡ true → IsPass took.taken
      taken_long idle = taken_tabs idle ∙ (length-set cleared_first t (TabOf.Writing (writer_of a version))
          ∙ (length-set took.took.drawn.tabs inner (Freeing (freer_of a false n (chain_found took.took.takes.state (Take t a version)))) ∙ took.took.takes.may.pass))

      of_idle : (idle : is_idle n ≡ true) → Freed g took.taken w → IsTaken e
      of_idle idle f = let k = took_idle g t a n version v took.taken nine writes_below inner_free took.took idle in record {
        word = freed_word g took.taken w f a n (chain_found took.took.takes.state (Take t a version)) k.1 ((owns a lt ours).words took.taken (Anchor a) number refl) lt ∙ taken_word;
        tab = ap (λ (xs : List (TabOf (List ℕ))). get_or xs t TabOf.Free) f.tabs ∙ get_or-set_other took.taken.tabs inner t TabOf.Free TabOf.Free (λ z. let b = writes_below in omega arith) ∙ k.0;
        but = freed_else g took.taken w f a n (chain_found took.took.takes.state (Take t a version)) k.1 (lot_stays g lot v took.taken number owns)
            (taken_long idle) rename (taken_by t a e p) (few_after e) taken_but;
      }

      of_cleared : WasVacant g t a v n took.taken w ⊎ WasIdle g t a v n took.taken w → IsTaken e
      of_cleared (inl x) = record {
        word = ap (λ (z : View (List ℕ)). has g z (Anchor a)) x.same ∙ taken_word;
        tab = ap (λ (z : View (List ℕ)). tab_in z t) x.same ∙ (took_vacant g t a n version v took.taken nine writes_below inner_free took.took x.vacant).0;
        but = subst (λ (z : View (List ℕ)). KnowsLotBut g rename lot z (taken_by t a e p) no_guests a) (sym x.same) taken_but;
      }
      of_cleared (inr x) = of_idle x.idle x.freed

  -- and the entry named
  module _ (offer : ℕ) (url body : List ℕ) (response : IsOffered g a offer url body) (from : g.setting.slots ≤ offer) (at : anchor_for g url ≡ a)
      (u : View (List ℕ)) (named : Named g t w (key_of url) offer u) where
    pub began_knows : KnowsLot g rename lot u (taken_by t a (entry_of url body offer) p) no_guests
    began_knows =
        let e = entry_of url body offer in
        let k = is_taken e in
        let m = named_right g rename t a (key_of url) offer w u (taken_by t a e p) no_guests lt (ap anchor_of k.tab) named k.but in
        knows_all g rename u (taken_by t a e p) no_guests a m.but (λ inside own. begun_shown g a offer url body response from at rename u t p (let many = h.many in let l = lt in omega arith) free below unread
        (m.word ∙ k.word ∙ ap (λ (z : ℕ). word_of z 1) drew.version_is) m.key0 m.key1 m.offer_is m.start)
