-- What is known of the plain store once the inner tab has given back the chain of an anchor.
use Rattle.std.proofs.Common.{Contains, List, None, Option, Some, [], ap, arith, eq-eqb, false, get_or, get_or-set_other, get_or-set_same, inl, inr, length, length-set, refl, set, subst, sym, true, ◌+◌, ◌-◌, ◌*◌, ◌<◌, ◌==◌, ◌≤◌, ◌∙◌, ◌≡◌, ◌≢◌, ◌⊎◌, ◌∷◌, ℕ, ◌++◌, ne_eqb}
use Rattle.std.proofs.lemmas.Bool.{false≢true}
use Rattle.std.proofs.lemmas.List.{get_or_past}
use mathlib.Core.Logic.{dite}
use mathlib.Core.Option.{some}
use native.Mathlib.Decide.{ℕ_discrete}
use lib.ListN.{get_elem?}
use Rattle.lock_word.specs.Words.{epoch_of as epoch_in, evicted, is_idle, raised, stage_number, stage_of as stage_in, word_at as word_at_stage, word_number}
use Rattle.lock_word.specs.declared.stage.Stage.TheVariants as stage
use Rattle.lock_word.specs.declared.word.Word.{Word}
use Rattle.lock_word.proofs.Parts.{epoch_of-word_number, stage_of-epoch_number}
use Rattle.core_model.specs.AnchorMoves.{freer_of, writer_of}
use Rattle.core_model.specs.Anchors.{tabs_in}
use Rattle.link_word.specs.declared.link.Link.{Link as LinkOf}
use Rattle.link_word.specs.declared.link.Link.TheVariants.{Last as LastLink, Next, NotWritten}
use Rattle.core_model.specs.Chains.{Fits, no_chain, slots_of_link}
use Rattle.core_model.specs.State.{chain_of, word}
use Rattle.core_model.specs.Layout.{IsPlace}
use Rattle.core_model.specs.Table.{place}
use Rattle.core_model.specs.Tabs.{IsPass, inner, tab_at}
use Rattle.core_model.specs.Trails.{last_find}
use Rattle.core_model.specs.declared.moves.Move.{Move}
use Rattle.core_model.specs.declared.moves.Move.TheVariants.{Evict, Take}
use Rattle.core_model.specs.declared.moves.Side.{Side}
use Rattle.core_model.specs.declared.moves.Side.TheVariants.{Start}
use Rattle.core_model.specs.declared.tab.Freer.{Freer}
use Rattle.core_model.specs.declared.tab.Tab.{Tab}
use Rattle.core_model.specs.declared.tab.Tab.TheVariants.{Free, Freeing, Writing}
use Rattle.core_model.specs.declared.view.Place.{Place}
use Rattle.core_model.specs.declared.view.Place.TheVariants.{Anchor, Beside, Counter, Link}
use Rattle.core_model.specs.declared.view.View.{View}
use Rattle.core_model.proofs.Lists.{contains_none, le_sum_at}
use Rattle.core_model.proofs.ReservesKept.{held_slot}
use Rattle.core_model.proofs.Tabs.{contains_times, tab_there}
use Rattle.plain_model.specs.declared.entry.Entry.{Entry}
use Rattle.plain_model.specs.declared.entry.Place.{Place as PlaceOf}
use Rattle.plain_model.specs.declared.store.Plain.{Plain}
use Rattle.plain_model.specs.Place.{nothing, vacated}
use Rattle.plain_model.specs.declared.entry.Life.{Life}
use Rattle.plain_model.specs.declared.entry.Life.TheVariants.{GivenUp, Growing, Whole}
use Rattle.plain_model.specs.Store.{entry_at, epoch_of, place_at, published, readers, stage_of, word_at}
use Rattle.entry_cut.specs.Content.{room_of}
use Rattle.plain_laws.specs.Renaming.{renamed_word}
use Rattle.plain_laws.proofs.Choosing.{either}
use Rattle.store_rule.specs.Ground.{Ground}
use Rattle.store_rule.specs.Told.{Stands, Steps}
use Rattle.store_rule.specs.Runs.{Added, Went}
use Rattle.store_rule.specs.Words.{Mine, has}
use Rattle.core_alone.specs.Touched.{touched_by}
use Rattle.store_rule.proofs.AddingUp.{has_left}
use Rattle.store_rule.proofs.MyWords.{found_mine}
use Rattle.slice_chain.specs.Freeing.{Freed}
use Rattle.plain_runs.specs.Words.{HasChain, KnowsLot, Lot, ShowsAt, whole_lot, ShowsEntryIf, setting_of}
use Rattle.plain_runs.proofs.Frames.{LeavesAlone, SameBut, same_none, shows_elsewhere, step_same, went_touched}
use Rattle.plain_runs.proofs.Chains.{not_resting, own_tab}
use Rattle.plain_runs.proofs.OwnAnchors.{OwnsAnchor, OwnsLot, own_chain}
use Rattle.plain_runs.proofs.PlainWords.{stage_there}

anchor_in : Place → ℕ
anchor_in (Anchor a) = a
anchor_in q = 0

link_in : Place → ℕ
link_in (Link slot) = slot
link_in q = 0

pub same_anchor : (a b : ℕ) → Anchor a ≡ Anchor b → a ≡ b
unfolding anchor_in
same_anchor a b e = ap anchor_in e

side_in : Place → ℕ
side_in (Beside side a) = a
side_in q = 0

pub same_side : (side other : Side) (a b : ℕ) → Beside side a ≡ Beside other b → a ≡ b
unfolding side_in
same_side side other a b e = ap side_in e

pub same_link : (a b : ℕ) → Link a ≡ Link b → a ≡ b
unfolding link_in
same_link a b e = ap link_in e

-- The plain store q is p, but for what it has at the anchor a.
pub record SameElse (p q : Plain) (a : ℕ) : Type 0 where
  pub counter : q.counter ≡ p.counter
  pub many : length q.places ≡ length p.places
  pub places : (b : ℕ) → b ≢ a → place_at q b ≡ place_at p b
  pub readers : (b : ℕ) → b ≢ a → readers q b ≡ readers p b

pub same_else : (p : Plain) (a : ℕ) → SameElse p p a
same_else p a = record { counter = refl; many = refl; places = λ b ne. refl; readers = λ b ne. refl }

-- the anchor a has another place
abbrev pub put_at : ℕ → PlaceOf → Plain → Plain
put_at a x p = record p { places = set p.places a x }

pub put_else : (p : Plain) (a : ℕ) (x : PlaceOf) → SameElse p (put_at a x p) a
put_else p a x = record {
  counter = refl;
  many = length-set p.places a x;
  places = λ b ne. get_or-set_other p.places a b x nothing ne;
  readers = λ b ne. refl;
}

-- its entry is gone
abbrev pub vacated_at : ℕ → Plain → Plain
vacated_at a p = put_at a (vacated (place_at p a)) p

module _ (g : Ground (List ℕ)) (rename : ℕ → ℕ) where
  -- What the pass knows of its lot is the plain store p, but for the anchor a, of which this says nothing.
  pub record KnowsLotBut (lot : Lot) (v : View (List ℕ)) (p : Plain) (guests : ℕ → ℕ) (a : ℕ) : Type 0 where
    pub counter : lot.counter ≡ true → has g v Counter ≡ p.counter
    pub many : length p.places ≡ g.setting.anchors
    pub each : (b : ℕ) → b < g.setting.anchors → lot.anchors b ≡ true → b ≢ a → ShowsAt g rename v p (guests b) b

  -- and of the whole store
  abbrev pub KnowsBut : View (List ℕ) → Plain → (guests : ℕ → ℕ) → ℕ → Type 0
  KnowsBut v p guests a = KnowsLotBut whole_lot v p guests a

  pub knows_but : {lot : Lot} (v : View (List ℕ)) (p : Plain) (guests : ℕ → ℕ) (a : ℕ) → KnowsLot g rename lot v p guests → KnowsLotBut lot v p guests a
  knows_but v p guests a h = record { counter = h.counter; many = h.many; each = λ b lt own ne. h.each b lt own }

  pub knows_all : {lot : Lot} (v : View (List ℕ)) (p : Plain) (guests : ℕ → ℕ) (a : ℕ) → KnowsLotBut lot v p guests a → (a < g.setting.anchors → lot.anchors a ≡ true → ShowsAt g rename v p (guests a) a)
      → KnowsLot g rename lot v p guests
  knows_all {lot} v p guests a h here = record {
    counter = h.counter;
    many = h.many;
    each = λ b lt own. dite (ℕ_discrete b a)
        (λ e. subst (λ (z : ℕ). ShowsAt g rename v p (guests z) z) (sym e) (here (subst (λ (z : ℕ). z < g.setting.anchors) e lt) (subst (λ (z : ℕ). lot.anchors z ≡ true) e own)))
        (λ ne. h.each b lt own ne);
  }

  -- where other readers are counted beside those of the plain store at no other anchor
  pub but_guests : {lot : Lot} (v : View (List ℕ)) (p : Plain) (guests others : ℕ → ℕ) (a : ℕ) → ((b : ℕ) → b ≢ a → others b ≡ guests b) → KnowsLotBut lot v p guests a → KnowsLotBut lot v p others a
  but_guests v p guests others a same h = record {
    counter = h.counter;
    many = h.many;
    each = λ b lt own ne. subst (λ (n : ℕ). ShowsAt g rename v p n b) (sym (same b ne)) (h.each b lt own ne);
  }

  -- the words change, and the plain store at the anchor a
  pub but_moved : {lot : Lot} (v w : View (List ℕ)) (Changed : Place → Type 0) (p q : Plain) (guests : ℕ → ℕ) (a : ℕ) → SameBut g v w Changed → SameElse p q a → (Changed Counter → ⊥)
      → ((b : ℕ) → b < g.setting.anchors → lot.anchors b ≡ true → b ≢ a → LeavesAlone g v Changed b (entry_at p b)) → KnowsLotBut lot v p guests a → KnowsLotBut lot w q guests a
  but_moved v w Changed p q guests a s other still alone h = record {
    counter = λ own. s.same Counter tt tt still ∙ h.counter own ∙ sym other.counter;
    many = other.many ∙ h.many;
    each = λ b lt own ne. shows_elsewhere g rename v w Changed p q (guests b) b lt (h.each b lt own ne) (other.places b ne) (other.readers b ne) s (alone b lt own ne);
  }

  -- a step on the word of the anchor a
  pub but_step : {lot : Lot} (v w : View (List ℕ)) (m : Move) (n : ℕ) (p q : Plain) (guests : ℕ → ℕ) (a : ℕ) → Steps g v m n w → touched_by v m n ≡ Anchor a ∷ [] → a < g.setting.anchors → SameElse p q a
      → KnowsLotBut lot v p guests a → KnowsLotBut lot w q guests a
  but_step v w m n p q guests a st is lt other h = but_moved v w (λ r. r ≡ Anchor a) p q guests a (step_same g v w m n (Anchor a) st is lt) other (λ e. cc)
      (λ b here own ne. record { word = λ e. ne (same_anchor b a e); sides = λ side e. cc; links = λ x there chain j c e. cc }) h

-- No more readers are counted than the word of an anchor has room for.
abbrev pub FewReaders : Plain → (ℕ → ℕ) → Type 0
FewReaders p guests = (b : ℕ) → readers p b + guests b < 65536

-- The slots of other entries are in no chain that is given back.
module _ (g : Ground (List ℕ)) (v : View (List ℕ)) (st : Stands g v) (pass : IsPass v) (f : Freer (List ℕ)) (is : tab_at v inner ≡ Freeing f)
    (b version : ℕ) (own : OwnsAnchor g v.pass b) (lt : b < g.setting.anchors) (e : Entry) (h : HasChain g v b e) where
  abbrev stage_here : ℕ
  stage_here = stage_in (epoch_in (word st.state b))

  -- an entry of which slots are published
  apart_spelled : 2 ≤ stage_here → stage_here ≤ 4 → (j : ℕ) → Contains (h.slots ++ slots_of_link h.end) j → Contains f.rest j → ⊥
  apart_spelled least most j c d = let same = own_chain g v b own st pass lt e h least most in
      not_resting g st.state st.rule b lt j st.index inner f
      (subst (λ (z : LinkOf). Contains ((chain_of st.state b).slots ++ slots_of_link z) j) same.1 (subst (λ (z : List ℕ). Contains (z ++ slots_of_link h.end) j) same.0 c))
      (own_tab st.state st.index v st.at pass inner (Freeing f) (omega arith) is) d

  -- one of which none is
  apart_none : length h.slots ≡ 0 → (j : ℕ) → Contains (h.slots ++ slots_of_link h.end) j → ⊥
  apart_none none j c = nothing_there h.slots h.end none h.spelled.fits c
    where
      nothing_there : (slots : List ℕ) (end : LinkOf) → length slots ≡ 0 → Fits slots end → Contains (slots ++ slots_of_link end) j → ⊥
      nothing_there [] NotWritten n fits c = contains_none j c
      nothing_there [] LastLink n fits c = fits
      nothing_there [] (Next x) n fits c = fits
      nothing_there (x ∷ xs) end n fits c = absurd (omega arith)

  apart_life : (life : Life) → e.life ≡ life → stage_here ≡ stage_number (stage_of (room_of g.slot) version (Some e)) → (j : ℕ) → Contains (h.slots ++ slots_of_link h.end) j → Contains f.rest j → ⊥
  apart_life Whole l s j c d = let k : stage_here ≡ 3 = s ∙ (rw l refl) in apart_spelled (omega arith) (omega arith) j c d
  apart_life GivenUp l s j c d = let k : stage_here ≡ 4 = s ∙ (rw l refl) in apart_spelled (omega arith) (omega arith) j c d
  apart_life Growing l s j c d = dite (ℕ_discrete (published (room_of g.slot) e.content) 0)
      (λ none. apart_none (h.many ∙ (rw l none)) j c)
      (λ some_. let k : stage_here ≡ 2 = s ∙ (let z = ne_eqb (published (room_of g.slot) e.content) 0 some_ in rw (l, z) refl) in apart_spelled (omega arith) (omega arith) j c d)

pub chained_apart_rest : (g : Ground (List ℕ)) (rename : ℕ → ℕ) (v : View (List ℕ)) → Stands g v → IsPass v → (p : Plain) (n b : ℕ) → OwnsAnchor g v.pass b → readers p b + n < 65536 → b < g.setting.anchors → ShowsAt g rename v p n b
    → (e : Entry) → entry_at p b ≡ Some e → (h : HasChain g v b e) → (f : Freer (List ℕ)) → tab_at v inner ≡ Freeing f → (j : ℕ) → Contains (h.slots ++ slots_of_link h.end) j → Contains f.rest j → ⊥
chained_apart_rest g rename v st pass p n b own few lt shown e there h f is j c d = apart_life g v st pass f is b (place_at p b).version own lt e h e.life refl
    (stage_there rename (setting_of g) p n b (word st.state b) (own.stands v st (Anchor b) refl pass refl lt ∙ shown.word) few ∙ ap (λ o. stage_number (stage_of (room_of g.slot) (place_at p b).version o)) there) j c d

module _ (g : Ground (List ℕ)) (v : View (List ℕ)) (f : Freer (List ℕ)) (st : Stands g v) (nine : IsPass v) (is : tab_at v inner ≡ Freeing f) where
  here : get_elem? v.tabs inner ≡ some (Freeing f)
  here = tab_there v inner (Freeing f) (let n = nine in omega arith) is

  pub freer_inside : f.anchor < g.setting.anchors
  freer_inside = (st.rule.sound.anchors.tabs st.index v st.at inner (Freeing f) here).0

  pub rest_inside : (slot : ℕ) → Contains f.rest slot → slot < g.setting.slots
  rest_inside slot c = held_slot g.setting st.state st.index v st.rule.sound.anchors st.rule.sound.slots st.at nine slot inner (Freeing f) here (let z = contains_times slot f.rest c in omega arith)

-- The word of an anchor whose entry is given back, with the readers that the plain store counts there.
abbrev pub freeing_word : Plain → ℕ → Word
freeing_word p a = record { epoch = record { version = (place_at p a).version; doom = (place_at p a).doom; stage = stage.Freeing }; readers = readers p a }

raised_word : (rename : ℕ → ℕ) (room : ℕ) (x : PlaceOf) (counted n : ℕ) → 0 < x.version
    → word_number (renamed_word rename record { epoch = epoch_of room (vacated x); readers = counted }) + n
    ≡ raised (word_number (renamed_word rename record { epoch = record { version = x.version; doom = x.doom; stage = stage.Freeing }; readers = counted }) + n) 1
raised_word rename room x counted n some_version = let none = ne_eqb x.version 0 (λ e. absurd (omega arith)) in rw none (omega arith)

-- a link of the chain that is given back, the word that tells where it starts, or the word of its anchor
abbrev pub IsGivenBack : Freer (List ℕ) → Place → Type 0
IsGivenBack f q = ((slot : ℕ) × (q ≡ Link slot) × Contains f.rest slot) ⊎ ((q ≡ Beside Start f.anchor) ⊎ (q ≡ Anchor f.anchor))

module _ (g : Ground (List ℕ)) (v : View (List ℕ)) (f : Freer (List ℕ)) (st : Stands g v) (nine : IsPass v) (is : tab_at v inner ≡ Freeing f) where
  pub given_place : (q : Place) → IsGivenBack f q → IsPlace g.setting q
  given_place q (inl x) = subst (IsPlace g.setting) (sym x.1) (rest_inside g v f st nine is x.0 x.2)
  given_place q (inr (inl e)) = subst (IsPlace g.setting) (sym e) (freer_inside g v f st nine is)
  given_place q (inr (inr e)) = subst (IsPlace g.setting) (sym e) (freer_inside g v f st nine is)

module _ (g : Ground (List ℕ)) (rename : ℕ → ℕ) where
  -- Where slots of a chain are given back, and no more changed than that, other entries of a lot that is the pass's own stay.
  pub gave_but : {lot : Lot} (v w : View (List ℕ)) (f : Freer (List ℕ)) (Changed : Place → Type 0) (p : Plain) (guests : ℕ → ℕ) → FewReaders p guests → OwnsLot g lot v.pass → Stands g v → IsPass v
      → tab_at v inner ≡ Freeing f → SameBut g v w Changed → ((q : Place) → Changed q → IsGivenBack f q) → KnowsLotBut g rename lot v p guests f.anchor → KnowsLotBut g rename lot w p guests f.anchor
  gave_but {lot} v w f Changed p guests few owns st nine is same only h = but_moved g rename v w Changed p p guests f.anchor same (same_else p f.anchor) (λ c. no_counter (only Counter c))
      (λ b lt mine ne. record { word = λ c. no_anchor b ne (only (Anchor b) c); sides = λ side c. no_side side b ne (only (Beside side b) c); links = λ e here chain j c k. no_link b lt mine ne e here chain j c (only (Link j) k) }) h
    where
      no_counter : IsGivenBack f Counter → ⊥
      no_counter (inl x) = let e = x.1 in cc
      no_counter (inr (inl e)) = cc
      no_counter (inr (inr e)) = cc

      no_anchor : (b : ℕ) → b ≢ f.anchor → IsGivenBack f (Anchor b) → ⊥
      no_anchor b ne (inl x) = let e = x.1 in cc
      no_anchor b ne (inr (inl e)) = cc
      no_anchor b ne (inr (inr e)) = ne (same_anchor b f.anchor e)

      no_side : (side : Side) (b : ℕ) → b ≢ f.anchor → IsGivenBack f (Beside side b) → ⊥
      no_side side b ne (inl x) = let e = x.1 in cc
      no_side side b ne (inr (inl e)) = ne (same_side side Start b f.anchor e)
      no_side side b ne (inr (inr e)) = cc

      no_link : (b : ℕ) → b < g.setting.anchors → lot.anchors b ≡ true → b ≢ f.anchor → (e : Entry) → entry_at p b ≡ Some e → (chain : HasChain g v b e) → (j : ℕ) → Contains (chain.slots ++ slots_of_link chain.end) j
          → IsGivenBack f (Link j) → ⊥
      no_link b lt mine ne e here chain j c (inl x) = chained_apart_rest g rename v st nine p (guests b) b (owns b lt mine) (few b) lt (h.each b lt mine ne) e here chain f is j c
          (subst (λ (z : ℕ). Contains f.rest z) (sym (same_link j x.0 x.1)) x.2)
      no_link b lt mine ne e here chain j c (inr (inl k)) = cc
      no_link b lt mine ne e here chain j c (inr (inr k)) = cc

  -- The pass had an inner tab that gave back a chain: so its view is that of some state.
  freed_stands : (v w : View (List ℕ)) → Freed g v w → Stands g v × Stands g w
  freed_stands v w h = of_went h.went.stands
    where
      of_went : (w ≡ v) ⊎ (Stands g v × Stands g w) → Stands g v × Stands g w
      of_went (inl e) = absurd (still (get_or_set_free v.tabs) (sym (ap (λ (u : View (List ℕ)). tab_at u inner) e) ∙ ap (λ (xs : List (Tab (List ℕ))). get_or xs inner Free) h.tabs) h.was)
        where
          get_or_set_free : (xs : List (Tab (List ℕ))) → get_or (set xs inner Free) inner Free ≡ Free
          get_or_set_free xs = dite (ℕ_discrete (length xs - 8) 0)
              (λ short. get_or_past (set xs inner Free) inner Free (let n = length-set xs inner Free in omega arith))
              (λ long. get_or-set_same xs inner Free Free (omega arith))

          still : {x y : Tab (List ℕ)} → x ≡ Free → y ≡ x → y ≡ Freeing h.freer → ⊥
          still {x} {y} e k is = let z : Free ≡ Freeing h.freer = sym e ∙ sym k ∙ is in cc
      of_went (inr s) = s

  module _ (v w : View (List ℕ)) (nine : IsPass v) (h : Freed g v w) where
    freed_from : Stands g v
    freed_from = (freed_stands v w h).0

    -- The anchor's word is a stage on from the one that the pass knew.
    pub raised_from : h.freer.is_freeing ≡ true → Mine g v (Anchor h.freer.anchor) → has g w (Anchor h.freer.anchor) ≡ raised (has g v (Anchor h.freer.anchor)) 1
    raised_from freeing mine = h.from freeing (freer_inside g v h.freer freed_from nine h.was) mine

    given_by : (q : Place) → Contains h.added.touched q → IsGivenBack h.freer q
    given_by q c = of_one (h.touched q c)
      where
        of_one : ((slot : ℕ) × (q ≡ Link slot) × Contains h.freer.rest slot) ⊎ ((q ≡ Beside Start h.freer.anchor) ⊎ ((h.freer.is_freeing ≡ true) × (q ≡ Anchor h.freer.anchor))) → IsGivenBack h.freer q
        of_one (inl x) = inl x
        of_one (inr (inl e)) = inr (inl e)
        of_one (inr (inr x)) = inr (inr x.1)

    freed_same : SameBut g v w (Contains h.added.touched)
    freed_same = went_touched g v w h.added h.went (λ q c. given_place g v h.freer freed_from nine h.was q (given_by q c))

    -- Whatever becomes of the anchor, other entries of the lot stay where a chain was given back.
    pub freed_but : {lot : Lot} (p : Plain) (guests : ℕ → ℕ) (a : ℕ) → FewReaders p guests → OwnsLot g lot v.pass → h.freer.anchor ≡ a → KnowsLotBut g rename lot v p guests a → KnowsLotBut g rename lot w p guests a
    freed_but {lot} p guests a few owns at but = subst (KnowsLotBut g rename lot w p guests) at
        (gave_but v w h.freer (Contains h.added.touched) p guests few owns freed_from nine h.was freed_same (λ q c. given_by q c) (subst (KnowsLotBut g rename lot v p guests) (sym at) but))

  -- the plain store changes at an anchor of which nothing is said
  pub but_put : {lot : Lot} (v : View (List ℕ)) (p : Plain) (guests : ℕ → ℕ) (a : ℕ) (x : PlaceOf) → KnowsLotBut g rename lot v p guests a → KnowsLotBut g rename lot v (put_at a x p) guests a
  but_put v p guests a x h = but_moved g rename v v (λ q. ⊥) p (put_at a x p) guests a (same_none g v (λ q. ⊥)) (put_else p a x) (λ none. none)
      (λ b lt own ne. record { word = λ none. none; sides = λ side none. none; links = λ e there chain j c none. none }) h

  -- An entry at FREEING was given back: the plain store has it no more.
  pub gave_right : {lot : Lot} (w : View (List ℕ)) (p : Plain) (guests : ℕ → ℕ) (a n : ℕ) → KnowsLotBut g rename lot w p guests a → 0 < (place_at p a).version → n ≡ word_number (renamed_word rename (freeing_word p a)) + guests a
      → has g w (Anchor a) ≡ raised n 1 → KnowsLot g rename lot w (vacated_at a p) guests
  gave_right {lot} w p guests a n but some_version was left = knows_all g rename w (vacated_at a p) guests a (but_put w p guests a (vacated (place_at p a)) but) here
    where
      here : a < g.setting.anchors → lot.anchors a ≡ true → ShowsAt g rename w (vacated_at a p) (guests a) a
      here lt own = record {
        word = left ∙ ap (λ z. raised z 1) was ∙ sym (raised_word rename (room_of g.slot) (place_at p a) (readers p a) (guests a) some_version)
            ∙ ap (λ (y : PlaceOf). word_number (renamed_word rename record { epoch = epoch_of (room_of g.slot) y; readers = readers p a }) + guests a) (sym there);
        entry = subst (λ (y : PlaceOf). ShowsEntryIf g w a y.version y.entry) (sym there) tt;
      }
        where
          there : place_at (vacated_at a p) a ≡ vacated (place_at p a)
          there = get_or-set_same p.places a (vacated (place_at p a)) nothing (let n = but.many in omega arith)

  pub freed_right : {lot : Lot} (v w : View (List ℕ)) → IsPass v → (p : Plain) (guests : ℕ → ℕ) (a : ℕ) → FewReaders p guests → OwnsLot g lot v.pass → Mine g v (Anchor a) → (h : Freed g v w) → h.freer.anchor ≡ a → h.freer.is_freeing ≡ true
      → KnowsLotBut g rename lot v p guests a → 0 < (place_at p a).version → has g v (Anchor a) ≡ word_number (renamed_word rename (freeing_word p a)) + guests a → KnowsLot g rename lot w (vacated_at a p) guests
  freed_right v w nine p guests a few owns mine h at freeing but some_version was = gave_right w p guests a (has g v (Anchor a)) (freed_but v w nine h p guests a few owns at but) some_version was
      (subst (λ (z : ℕ). has g w (Anchor z) ≡ raised (has g v (Anchor z)) 1) at (raised_from v w nine h freeing (subst (λ (z : ℕ). Mine g v (Anchor z)) (sym at) mine)))

-- the word that an eviction leaves
low_stage : (room version : ℕ) (e : Entry) (life : Life) → e.life ≡ life → stage_number (stage_of room version (Some e)) ≤ 5
low_stage room version e Whole l = rw l (omega arith)
low_stage room version e GivenUp l = rw l (omega arith)
low_stage room version e Growing l = rw l (either (λ s. stage_number s ≤ 5) (published room e.content == 0) stage.Taken stage.Appending (λ y. omega arith) (λ y. omega arith))

evicted_number : (w : Word) → w.readers ≡ 0 → stage_number w.epoch.stage ≤ 5 → evicted (word_number w) ≡ word_number (record w { epoch = record w.epoch { stage = stage.Freeing } })
evicted_number w none low = let e = epoch_of-word_number w (omega arith) in let s = stage_of-epoch_number w.epoch in let t : stage_in (epoch_in (word_number w)) ≡ stage_number w.epoch.stage = ap stage_in e ∙ s in omega arith

freer_in : Tab (List ℕ) → Freer (List ℕ)
freer_in (Freeing f) = f
freer_in tab = freer_of 0 true 0 no_chain

abbrev freeing_tab : Freer (List ℕ) → Tab (List ℕ)
freeing_tab f = Freeing f

pub same_freer : (f h : Freer (List ℕ)) → freeing_tab f ≡ freeing_tab h → f ≡ h
unfolding freer_in
same_freer f h e = ap freer_in e

module _ (g : Ground (List ℕ)) where
  -- the chain of an entry that is evicted goes to the inner tab
  pub evict_freer : (v u : View (List ℕ)) (t a n : ℕ) → (st : Steps g v (Evict t a) n u) → n ≡ last_find a v.trail → tab_at u inner ≡ Freeing (freer_of a true n (chain_of st.state a))
  evict_freer v u t a n st won = ap (λ (z : View (List ℕ)). tab_at z inner) st.leaves ∙ (let z = eq-eqb n (last_find a v.trail) won in rw z refl)
      ∙ get_or-set_same (set v.tabs t Free) inner (Freeing (freer_of a true n (chain_of st.state a))) Free (let n = st.may.pass in let m = length-set v.tabs t Free in omega arith)

  -- its tabs are nine still
  evict_long : (v u : View (List ℕ)) (t a n : ℕ) → (st : Steps g v (Evict t a) n u) → n ≡ last_find a v.trail → IsPass u
  evict_long v u t a n st won = ap (λ (z : View (List ℕ)). length z.tabs) st.leaves ∙ (let z = eq-eqb n (last_find a v.trail) won in rw z refl)
      ∙ (length-set (set v.tabs t Free) inner (Freeing (freer_of a true n (chain_of st.state a))) ∙ (length-set v.tabs t Free ∙ st.may.pass))

module _ (g : Ground (List ℕ)) (rename : ℕ → ℕ) where
  -- After an entry that nobody reads was evicted its chain is at the inner tab, and its anchor at FREEING.
  pub record EvictedAt (lot : Lot) (u : View (List ℕ)) (a : ℕ) (p : Plain) (guests : ℕ → ℕ) : Type 0 where
    pub inside : a < g.setting.anchors
    pub nine : IsPass u
    pub freer : Freer (List ℕ)
    pub is : tab_at u inner ≡ Freeing freer
    pub anchor_is : freer.anchor ≡ a
    pub freeing : freer.is_freeing ≡ true
    pub others : KnowsLotBut g rename lot u p guests a
    pub drawn : 0 < (place_at p a).version
    pub word : has g u (Anchor a) ≡ word_number (renamed_word rename (freeing_word p a)) + guests a

  pub evict_leaves : {lot : Lot} (v u : View (List ℕ)) (t a n : ℕ) (p : Plain) (guests : ℕ → ℕ) (e : Entry) → Mine g v (Anchor a) → lot.anchors a ≡ true → KnowsLot g rename lot v p guests → (st : Steps g v (Evict t a) n u) → n ≡ last_find a v.trail
      → entry_at p a ≡ Some e → readers p a ≡ 0 → guests a ≡ 0 → EvictedAt lot u a p guests
  evict_leaves v u t a n p guests e mine own knows st won there unread alone = record {
    inside = inside_;
    nine = evict_long g v u t a n st won;
    freer = freer_of a true n (chain_of st.state a);
    is = evict_freer g v u t a n st won;
    anchor_is = refl;
    freeing = refl;
    others = but_step g rename v u (Evict t a) n p p guests a st refl inside_ (same_else p a) (knows_but g rename v p guests a knows);
    drawn = drawn_ (entry_at p a) there shown.entry;
    word = has_left g v u (Evict t a) n (Anchor a) st refl ∙ (let z = eq-eqb n (last_find a v.trail) won in rw z refl) ∙ ap evicted found
        ∙ evicted_number (renamed_word rename (word_at (setting_of g) p a)) unread (subst (λ o. stage_number (stage_of (room_of g.slot) (place_at p a).version o) ≤ 5) (sym there) (low_stage (room_of g.slot) (place_at p a).version e e.life refl))
        ∙ (let z = alone in omega arith);
  }
    where
      inside_ : a < g.setting.anchors
      inside_ = st.may.allowed.0

      shown : ShowsAt g rename v p (guests a) a
      shown = knows.each a inside_ own

      drawn_ : (o : Option Entry) → o ≡ Some e → ShowsEntryIf g v a (place_at p a).version o → 0 < (place_at p a).version
      drawn_ None is h = let k : None ≡ Some e = is in absurd (cc)
      drawn_ (Some x) is h = h.drawn

      found : n ≡ word_number (renamed_word rename (word_at (setting_of g) p a))
      found = found_mine g v u (Evict t a) n (Anchor a) st mine refl ∙ shown.word ∙ (let z = alone in omega arith)

  -- Then it was given back: the plain store has it no more.
  pub evict_freed : {lot : Lot} (u w : View (List ℕ)) (a : ℕ) (p : Plain) (guests : ℕ → ℕ) → FewReaders p guests → OwnsLot g lot u.pass → Mine g u (Anchor a) → EvictedAt lot u a p guests → Freed g u w
      → KnowsLot g rename lot w (vacated_at a p) guests
  evict_freed u w a p guests few owns mine h freed = freed_right g rename u w h.nine p guests a few owns mine freed (ap (λ (z : Freer (List ℕ)). z.anchor) same ∙ h.anchor_is) (ap (λ (z : Freer (List ℕ)). z.is_freeing) same ∙ h.freeing) h.others h.drawn h.word
    where
      same : freed.freer ≡ h.freer
      same = same_freer freed.freer h.freer (sym freed.was ∙ h.is)
