-- What is known of the plain store once a tab has written and published a piece.
use Rattle.std.proofs.Common.{Bool, List, None, Option, Some, [], ap, arith, get_or, get_or-set_other, get_or-set_same, inl, inr, length, ne_eqb, eq-eqb, refl, subst, sym, true, ◌*◌, ◌+◌, ◌-◌, ◌<◌, ◌∙◌, ◌≡◌, ◌≢◌, ◌≤◌, ◌⊎◌, ◌∷◌, ℕ}
use Rattle.link_word.specs.declared.link.Link.{Link as LinkOf}
use Rattle.link_word.specs.declared.link.Link.TheVariants.{Next}
use Rattle.lock_word.specs.Words.{epoch_of as epoch_in, raised, stage_number, stage_of as stage_in, word_number}
use Rattle.lock_word.specs.declared.stage.Stage.{Stage}
use Rattle.lock_word.specs.declared.stage.Stage.TheVariants as stage
use Rattle.entry_cut.specs.Content.{room_of}
use Rattle.core_model.specs.Chains.{slots_of_link}
use Rattle.core_model.specs.SlotMoves.{publishes, stores}
use Rattle.core_model.specs.Table.{left_by}
use Rattle.core_model.specs.Tabs.{InnerIsFree, IsPass, OfWriter, inner, tab_at, with_tab}
use Rattle.core_model.specs.declared.moves.Move.TheVariants.{Publish, Raise, StoreSide}
use Rattle.core_model.specs.declared.moves.Side.TheVariants.{Start}
use Rattle.core_model.specs.declared.tab.Tab.{Tab}
use Rattle.core_model.specs.declared.tab.Tab.TheVariants.{Free, Writing}
use Rattle.core_model.specs.declared.tab.Writer.{Writer}
use Rattle.core_model.specs.declared.view.Place.{Place}
use Rattle.core_model.specs.declared.view.Place.TheVariants.{Anchor}
use Rattle.core_model.specs.declared.view.View.{View}
use Rattle.plain_model.specs.declared.entry.Entry.{Entry}
use Rattle.plain_model.specs.declared.entry.Life.{Life}
use Rattle.plain_model.specs.declared.entry.Life.TheVariants.{Growing, Whole}
use Rattle.plain_model.specs.declared.entry.Place.{Place as PlaceOf}
use Rattle.plain_model.specs.declared.store.Plain.{Plain}
use Rattle.plain_model.specs.declared.store.Setting.{Setting}
use Rattle.plain_model.specs.Place.{nothing, resized}
use Rattle.plain_model.specs.Slots.{grown_as, limit, publish, resize}
use Rattle.plain_model.specs.Store.{entry_at, epoch_of, meta_size, place_at, published, readers, stage_of, stage_of_entry}
use Rattle.plain_laws.specs.Renaming.{renamed_word}
use Rattle.plain_laws.proofs.Sums.{inside}
use Rattle.store_rule.specs.Calls.{Others}
use Rattle.store_rule.specs.Words.{has}
use Rattle.store_rule.proofs.OtherTabs.{others_go_on, others_stay}
use Rattle.rock_writer.specs.Entries.{Entry as Writing_, GoesOn, writer_as}
use Rattle.rock_writer.specs.Flushing.{Flushed, RaisedBefore, RaisedFirst, WrotePiece}
use Rattle.rock_writer.proofs.Growing.{linked, linked_as}
use Rattle.rock_writer.proofs.Publishing.{writer_in}
use Rattle.rock_writer.proofs.Resting.{nine_now, tab_now}
use Rattle.slice_chain.specs.Links.{Published, next_link}
use Rattle.slice_chain.specs.Writes.{chose}
use Rattle.slice_chain.specs.Victims.{hand_in}
use Rattle.store_rule.specs.Ground.{Ground}
use Rattle.store_serve.proofs.Slots.{published as publishing, wrote_slot}
use Rattle.plain_runs.specs.Words.{HasChain, HasNames, IsOfOffer, KnowsLot, Lot, ShowsAt, ShowsEntry, ShowsEntryIf, no_guests, setting_of}
use Rattle.plain_runs.proofs.Frames.{SameBut, same_none, same_on, same_weaker}
use Rattle.plain_runs.proofs.Freeing.{KnowsLotBut, but_moved, knows_all, knows_but, put_else, same_else}
use Rattle.plain_runs.proofs.PlainWords.{readers_fit, stage_counted}
use Rattle.plain_runs.proofs.OwnAnchors.{OwnsLot, lot_stays, pass_stays}
use Rattle.plain_runs.proofs.Published.{Linking, Touched, anchor_there, no_anchor, published_same, raise_left, raise_same, touched_but, touched_either, touched_linking, touched_names, wrote_same}
use Rattle.plain_runs.proofs.Publishing.{HasGrown, both_right}
use Rattle.plain_runs.proofs.Reserving.{ClaimStays, IsReadied, Supply, supply_on}

-- The word of the anchor with this stage, and with the version, the doom and the readers of the plain store.
abbrev pub staged : (ℕ → ℕ) → Plain → ℕ → Stage → ℕ
staged rename p a st = word_number (renamed_word rename record { epoch = record { version = (place_at p a).version; doom = (place_at p a).doom; stage = st }; readers = readers p a })

-- raising it changes the stage alone
pub staged_raised : (rename : ℕ → ℕ) (p : Plain) (a : ℕ) (from to : Stage) → stage_number from ≤ stage_number to → raised (staged rename p a from) (stage_number to - stage_number from) ≡ staged rename p a to
staged_raised rename p a from to le = omega arith

module _ (g : Ground (List ℕ)) (rename : ℕ → ℕ) (v : View (List ℕ)) (p : Plain) (a : ℕ) (h : ShowsAt g rename v p 0 a) (x : Entry) (there : entry_at p a ≡ Some x) where
  -- the word of an anchor that has this entry
  pub word_staged : (st : Stage) → stage_of_entry (room_of g.slot) x.life x.content ≡ st → has g v (Anchor a) ≡ staged rename p a st
  word_staged st is = h.word ∙ (let z = ap (λ (o : Option Entry). word_number (renamed_word rename record { epoch = record { version = (place_at p a).version; doom = (place_at p a).doom; stage = stage_of (room_of g.slot) (place_at p a).version o }; readers = readers p a })) there in
      let y = ap (λ (k : Stage). staged rename p a k) is in omega arith)

  pub entry_shown : ShowsEntry g v a (place_at p a).version x
  entry_shown = subst (ShowsEntryIf g v a (place_at p a).version) there h.entry

-- Of the entry of an offer more bytes may be there.
pub resized_offer : (g : Ground (List ℕ)) (a c : ℕ) (x : Entry) → IsOfOffer g a x → x.life ≡ Growing → meta_size x.url ≤ c → c ≤ meta_size x.url + length x.body → IsOfOffer g a (record x { content = c })
resized_offer g a c x h grows more most = record {
  response = h.response;
  key = h.key;
  at = h.at;
  old = h.old;
  more = λ le. more;
  most = λ le. most;
  whole = λ w. absurd (not_whole w);
  all = λ le w. absurd (not_whole w);
}
  where
    not_whole : x.life ≡ Whole → ⊥
    not_whole w = let k : Growing ≡ Whole = sym grows ∙ w in cc

-- The place of the entry that was given another size.
pub resized_at : (a c : ℕ) (p : Plain) (x : Entry) → entry_at p a ≡ Some x → place_at (resize a c p) a ≡ record (place_at p a) { entry = Some (record x { content = c }) }
resized_at a c p x there = get_or-set_same p.places a (resized c (place_at p a)) nothing (inside p.places a x there)
    ∙ ap (λ (o : Option Entry). record (place_at p a) { entry = Rattle.plain_model.specs.Place.changed (λ d. record d { content = c }) o }) there

module _ (g : Ground (List ℕ)) (rename : ℕ → ℕ) where
  abbrev s : Setting
  s = setting_of g

  -- The growing entry at the anchor has so many bytes now, and all else is known.
  pub knows_grown : {lot : Lot} (v : View (List ℕ)) (p : Plain) (a c : ℕ) (x : Entry) (st : Stage) → KnowsLotBut g rename lot v p no_guests a → entry_at p a ≡ Some x → x.life ≡ Growing → has g v (Anchor a) ≡ staged rename p a st
      → stage_of_entry (room_of g.slot) Growing c ≡ st → HasNames g v a x → HasChain g v a (record x { content = c }) → IsOfOffer g a (record x { content = c }) → 0 < (place_at p a).version → KnowsLot g rename lot v (resize a c p) no_guests
  knows_grown v p a c x st but there grows word is names chain offer drawn = knows_all g rename v (resize a c p) no_guests a
      (but_moved g rename v v (λ q. ⊥) p (resize a c p) no_guests a (same_none g v (λ q. ⊥)) (put_else p a (resized c (place_at p a))) (λ none. none)
      (λ b lt own ne. record { word = λ none. none; sides = λ side none. none; links = λ e k chain j m none. none }) but)
      (λ lt own. at_place (resized_at a c p x there))
    where
      new : Entry
      new = record x { content = c }

      at_place : place_at (resize a c p) a ≡ record (place_at p a) { entry = Some new } → ShowsAt g rename v (resize a c p) 0 a
      at_place now = record {
        word = word ∙ (let y = ap (λ (k : Stage). staged rename p a k) (sym (life_is ∙ is)) in
            let z = ap (λ (o : PlaceOf). word_number (renamed_word rename record { epoch = epoch_of (room_of g.slot) o; readers = readers p a })) (sym now) in omega arith);
        entry = subst (λ (o : PlaceOf). ShowsEntryIf g v a o.version o.entry) (sym now) record {
          names = record { key0 = names.key0; key1 = names.key1; offer = names.offer };
          chain = chain;
          offer = offer;
          drawn = drawn;
        };
      }
        where
          life_is : stage_of_entry (room_of g.slot) x.life c ≡ stage_of_entry (room_of g.slot) Growing c
          life_is = ap (λ (l : Life). stage_of_entry (room_of g.slot) l c) grows

-- a step for a tab leaves the other ones
acts : {A : Type 0} {x y : A} → Some x ≡ Some y → y ≡ x
acts e = cc

module _ (g : Ground (List ℕ)) (lot : Lot) (rename : ℕ → ℕ) (t : ℕ) (below : t < inner) (e : Writing_) where
  others_set : (v u : View (List ℕ)) (x : Tab (List ℕ)) → u.tabs ≡ with_tab v t x → Others t v u
  others_set v u x tabs j ne far = ap (λ (xs : List (Tab (List ℕ))). get_or xs j Free) tabs ∙ get_or-set_other v.tabs t j x Free ne

  -- What writing a piece and publishing its slot leaves.
  pub record PieceOut (u w : View (List ℕ)) (ps : List ℕ) (slot : ℕ) (next : Option ℕ) (more : List ℕ) : Type 0 where
    pub same : SameBut g u w (Linking e.anchor slot)
    pub tab : tab_at w t ≡ Writing (linked_as g t below e ps slot (next_link next) more)
    pub inner_free : InnerIsFree w
    pub pass : IsPass w
    pub number : w.pass ≡ u.pass
    pub others : Others t u w

  pub piece_out : (u w : View (List ℕ)) (ps : List ℕ) (end : LinkOf) (slot : ℕ) (more : List ℕ) (durable : Bool) (next : Option ℕ) → IsPass u → InnerIsFree u → tab_at u t ≡ Writing (writer_as g e ps end (slot ∷ more))
      → WrotePiece g t durable slot next u w → PieceOut u w ps slot next more
  piece_out u w ps end slot more durable next pass free is h = record {
    same = same_weaker g u w (λ q. ⊥ ⊎ Linking e.anchor slot q) (Linking e.anchor slot) (λ q c. of_either q c)
        (same_on g u h.written w (λ q. ⊥) (Linking e.anchor slot) (wrote_same g u h.written t durable true pass below h.wrote)
        (published_same g h.written w t slot next (chose (writer_as g e ps end (slot ∷ more)) h.wrote.slot durable h.wrote.written h.wrote.settled) nine below at (0, omega arith, refl) h.publishes));
    tab = now.0;
    inner_free = now.1;
    pass = of_published h.publishes;
    number = (publishing g t slot next h.written w h.publishes).pass ∙ (wrote_slot g t h.wrote).pass;
    others = others_go_on u h.written w t (others_set u h.written (Writing (chose h.wrote.writer h.wrote.slot durable h.wrote.written h.wrote.settled)) h.wrote.tabs) (publish_others h.publishes);
  }
    where
      now : (tab_at w t ≡ Writing (linked_as g t below e ps slot (next_link next) more)) × InnerIsFree w
      now = linked g t below e u w pass free ps end slot more durable next is h

      of_either : (q : Place) → ⊥ ⊎ Linking e.anchor slot q → Linking e.anchor slot q
      of_either q (inl none) = absurd none
      of_either q (inr c) = c

      same_writer : h.wrote.writer ≡ writer_as g e ps end (slot ∷ more)
      same_writer = ap (writer_in (writer_as g e ps end (slot ∷ more))) (sym h.wrote.was ∙ is)

      at : tab_at h.written t ≡ Writing (chose (writer_as g e ps end (slot ∷ more)) h.wrote.slot durable h.wrote.written h.wrote.settled)
      at = tab_now t u h.written (Writing (chose h.wrote.writer h.wrote.slot durable h.wrote.written h.wrote.settled)) pass below h.wrote.tabs
          ∙ ap (λ (z : Writer (List ℕ)). Writing (chose z h.wrote.slot durable h.wrote.written h.wrote.settled)) same_writer

      nine : IsPass h.written
      nine = nine_now t u h.written (Writing (chose h.wrote.writer h.wrote.slot durable h.wrote.written h.wrote.settled)) pass below h.wrote.tabs

      of_published : Published g t slot next h.written w → IsPass w
      of_published (inl first) = nine_now t first.middle w (stores (tab_at first.middle t) Start (slot + 1))
          (nine_now t h.written first.middle (publishes (tab_at h.written t) slot (next_link next)) nine below (ap View.tabs first.linked.leaves)) below (ap View.tabs first.started.leaves)
      of_published (inr again) = nine_now t h.written w (publishes (tab_at h.written t) slot (next_link next)) nine below (ap View.tabs again.linked.leaves)

      publish_others : Published g t slot next h.written w → Others t h.written w
      publish_others (inl first) = others_go_on h.written first.middle w t (others_stay g h.written first.middle (Publish t slot (next_link next)) 0 t first.linked (λ z k. acts k))
          (others_stay g first.middle w (StoreSide t Start (slot + 1)) first.found t first.started (λ z k. acts k))
      publish_others (inr again) = others_stay g h.written w (Publish t slot (next_link next)) 0 t again.linked (λ z k. acts k)

  module _ (v : View (List ℕ)) (p : Plain) (hand : ℕ) (h : IsReadied g lot rename t e.anchor v p hand) (x : Entry) (there : entry_at p e.anchor ≡ Some x) (grows : x.life ≡ Growing)
      (filled : ℕ) (content : x.content ≡ filled * room_of g.slot) (small : filled < limit (setting_of g)) (ours : lot.anchors e.anchor ≡ true)
      (behind : x.content < meta_size x.url + length x.body) where
    -- A full slot was published, in the plain store too, and its entry has the stage of one of which a slot is published.
    pub record HasFlushed (w : View (List ℕ)) (hand_after : ℕ) : Type 0 where
      pub store : Plain
      pub grown : publish (setting_of g) e.anchor filled p ≡ grown_as store None
      pub stays : ClaimStays p store e.anchor
      pub hand_is : hand_in g.setting.anchors hand_after ≡ store.hand
      pub but : KnowsLotBut g rename lot w store no_guests e.anchor
      pub owns : OwnsLot g lot w.pass
      pub supply : Supply g lot t e.anchor w store
      pub word : has g w (Anchor e.anchor) ≡ staged rename store e.anchor stage.Appending
      pub shown : ShowsEntry g v e.anchor (place_at p e.anchor).version x
      pub names : HasNames g w e.anchor x
      pub others : Others t v w

    pub flushed_right : (w : View (List ℕ)) (ps : List ℕ) (end : LinkOf) (durable : Bool) (hand_after : ℕ) → GoesOn ps end → tab_at v t ≡ Writing (writer_as g e ps end (slots_of_link end)) → filled ≡ length ps + 1
        → published (room_of g.slot) x.content ≡ length ps → Flushed g t hand durable v w hand_after → HasFlushed w hand_after
    flushed_right w ps end durable hand_after goes is many level f = of_raised f.raised
      where
        u : View (List ℕ)
        u = f.reserved

        both : (q : Plain) × (publish (setting_of g) e.anchor filled p ≡ grown_as q None) × HasGrown g lot rename t below e v u p ps end (f.slot ∷ f.next ∷ []) hand_after q
        both = both_right g lot rename t below e v p hand h x there grows filled content small ps end f.slot f.next hand_after u behind goes is many f.both

        q : Plain
        q = both.0

        hg : HasGrown g lot rename t below e v u p ps end (f.slot ∷ f.next ∷ []) hand_after q
        hg = both.2

        po : PieceOut u f.linked ps f.slot (Some f.next) (f.next ∷ [])
        po = piece_out u f.linked ps end f.slot (f.next ∷ []) durable (Some f.next) hg.readied.pass hg.readied.inner_free hg.tab f.wrote

        there_q : entry_at q e.anchor ≡ Some x
        there_q = ap (λ (o : PlaceOf). o.entry) hg.stays.place ∙ there

        lt : e.anchor < g.setting.anchors
        lt = anchor_there g u t (writer_as g e ps end (f.slot ∷ f.next ∷ [])) hg.readied.stands hg.readied.pass below hg.tab

        shown : ShowsAt g rename u q 0 e.anchor
        shown = hg.readied.knows.each e.anchor lt ours

        here : (st : Stage) → stage_of_entry (room_of g.slot) Growing x.content ≡ st → has g f.linked (Anchor e.anchor) ≡ staged rename q e.anchor st
        here st k = po.same.same (Anchor e.anchor) tt lt (no_anchor e.anchor f.slot e.anchor)
            ∙ word_staged g rename u q e.anchor shown x there_q st (ap (λ (l : Life). stage_of_entry (room_of g.slot) l x.content) grows ∙ k)

        linking : SameBut g u f.linked (Touched e.anchor f.slot)
        linking = same_weaker g u f.linked (Linking e.anchor f.slot) (Touched e.anchor f.slot) (touched_linking e.anchor f.slot) po.same

        own_linked : OwnsLot g lot f.linked.pass
        own_linked = lot_stays g lot u f.linked po.number hg.readied.owns

        done : SameBut g u w (Touched e.anchor f.slot) → w.pass ≡ f.linked.pass → has g w (Anchor e.anchor) ≡ staged rename q e.anchor stage.Appending → Others t u w → HasFlushed w hand_after
        done same number word others = record {
          store = q;
          grown = both.1;
          stays = hg.stays;
          hand_is = hg.readied.hand_is;
          but = touched_but g rename u w t f.slot (writer_as g e ps end (f.slot ∷ f.next ∷ [])) q q hg.readied.owns hg.readied.stands hg.readied.pass below hg.tab (0, omega arith, refl) same (same_else q e.anchor) hg.readied.eight
              (knows_but g rename u q no_guests e.anchor hg.readied.knows);
          owns = lot_stays g lot f.linked w number own_linked;
          supply = supply_on g lot t e.anchor u w q others hg.readied.supply;
          word = word;
          shown = entry_shown g rename v p e.anchor (h.knows.each e.anchor lt ours) x there;
          names = touched_names g u w e.anchor f.slot x lt same (entry_shown g rename u q e.anchor shown x there_q).names;
          others = others_go_on v u w t hg.others others;
        }

        of_raised : RaisedFirst g t v f.linked w ⊎ RaisedBefore g t v f.linked w → HasFlushed w hand_after
        of_raised (inr before) = done (subst (λ (z : View (List ℕ)). SameBut g u z (Touched e.anchor f.slot)) (sym before.same) linking) (ap View.pass before.same)
            (ap (λ (z : View (List ℕ)). has g z (Anchor e.anchor)) before.same ∙ here stage.Appending (let ne = ne_eqb (published (room_of g.slot) x.content) 0 more in rw ne refl))
            (subst (Others t u) (sym before.same) po.others)
          where
            by_list : (xs : List ℕ) → xs ≢ [] → length xs ≡ 0 → ⊥
            by_list [] ne z = ne refl
            by_list (y ∷ ys) ne z = absurd (omega arith)

            more : published (room_of g.slot) x.content ≢ 0
            more z = by_list ps (subst (OfWriter (λ k. k.published ≢ [])) is before.some) (sym level ∙ z)
        of_raised (inl first) = done
            (same_weaker g u w (λ r. Touched e.anchor f.slot r ⊎ Touched e.anchor f.slot r) (Touched e.anchor f.slot) (touched_either e.anchor f.slot)
            (same_on g u f.linked w (Touched e.anchor f.slot) (Touched e.anchor f.slot) linking
            (raise_same g f.linked w t first.word f.slot stage.Appending (linked_as g t below e ps f.slot (Next f.next) (f.next ∷ [])) po.pass below po.tab first.raises)))
            (pass_stays g f.linked w (Raise t stage.Appending) first.word first.raises)
            (left.1 ∙ (ap (λ (z : ℕ). raised z (2 - stage_in (epoch_in z))) found ∙ (ap (λ (k : ℕ). raised (staged rename q e.anchor stage.Taken) (2 - k)) one ∙ staged_raised rename q e.anchor stage.Taken stage.Appending (omega arith))))
            (others_go_on u f.linked w t po.others (others_stay g f.linked w (Raise t stage.Appending) first.word t first.raises (λ z k. acts k)))
          where
            none : ps ≡ []
            none = subst (OfWriter (λ k. k.published ≡ [])) is first.none

            level0 : published (room_of g.slot) x.content ≡ 0
            level0 = level ∙ ap length none

            left : (first.word ≡ has g f.linked (Anchor e.anchor)) × (has g w (Anchor e.anchor) ≡ raised first.word (2 - stage_in (epoch_in first.word)))
                × (left_by f.linked (Raise t stage.Appending) first.word ≡ raised first.word (2 - stage_in (epoch_in first.word)))
            left = raise_left g f.linked w t first.word stage.Appending (linked_as g t below e ps f.slot (Next f.next) (f.next ∷ [])) ((own_linked e.anchor lt ours).words f.linked (Anchor e.anchor) refl refl) po.tab first.raises

            found : first.word ≡ staged rename q e.anchor stage.Taken
            found = left.0 ∙ here stage.Taken (let z = eq-eqb (published (room_of g.slot) x.content) 0 level0 in rw z refl)

            one : stage_in (epoch_in (staged rename q e.anchor stage.Taken)) ≡ 1
            one = stage_counted (renamed_word rename record { epoch = record { version = (place_at q e.anchor).version; doom = (place_at q e.anchor).doom; stage = stage.Taken }; readers = readers q e.anchor })
                0 (staged rename q e.anchor stage.Taken) (omega arith) (readers_fit q e.anchor 0 hg.readied.eight (omega arith))
