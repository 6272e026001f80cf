-- Bytes that a call adds to the entry that a tab writes, in the store and in the plain store.
use Rattle.std.proofs.Common.{Bool, List, None, Some, [], ap, arith, cond, inl, inr, length, ne_eqb, refl, subst, sym, ◌*◌, ◌+◌, ◌-◌, ◌<◌, ◌∙◌, ◌≡◌, ◌≢◌, ◌≤◌, ◌⊎◌, ◌∷◌, ℕ, true}
use Rattle.std.specs.Prelude.{◌==◌}
use Rattle.lock_word.specs.declared.stage.Stage.{Stage}
use Rattle.lock_word.specs.declared.stage.Stage.TheVariants as stage
use Rattle.rock_disk.specs.Cell.{CellState}
use Rattle.entry_cut.specs.Content.{room_of}
use Rattle.core_model.specs.Chains.{slots_of_link}
use Rattle.core_model.specs.Tabs.{tab_at}
use Rattle.core_model.specs.declared.view.Place.TheVariants.{Anchor}
use Rattle.core_model.specs.declared.view.View.{View}
use Rattle.plain_model.specs.declared.entry.Entry.{Entry}
use Rattle.plain_model.specs.declared.entry.Life.{Life}
use Rattle.plain_model.specs.declared.entry.Life.TheVariants.{Growing}
use Rattle.plain_model.specs.declared.entry.Place.{Place as PlaceOf}
use Rattle.plain_model.specs.declared.store.Plain.{Plain}
use Rattle.plain_model.specs.declared.store.Setting.{Setting}
use Rattle.plain_model.specs.Slots.{Grown, grown_as, limit, publish, resize}
use Rattle.plain_model.specs.Store.{entry_at, meta_size, place_at, published, stage_of_entry}
use Rattle.plain_model.specs.Writing.{append}
use Rattle.plain_laws.proofs.Alone.{published_le}
use Rattle.plain_laws.proofs.Filling.{resized_there}
use Rattle.store_rule.specs.Calls.{Others}
use Rattle.store_rule.specs.Words.{has}
use Rattle.store_rule.proofs.OtherTabs.{others_go_on}
use Rattle.rock_writer.specs.Appending.{TookBehind, TookHere, TookNone, place_of, room_in}
use Rattle.rock_writer.specs.Entries.{Entry as Writing_, WritesAs, body_in, size_of, url_in, with_taken, writer_as}
use Rattle.rock_writer.proofs.Resting.{open_end}
use Rattle.rock_writer.proofs.Sizes.{next_room}
use Rattle.store_rule.specs.declared.store.Pass.{Pass}
use Rattle.store_rule.specs.declared.store.Store.{Store}
use Rattle.tab_states.specs.Desks.{draft_at}
use Rattle.store_rule.specs.Ground.{Ground, Offers}
use Rattle.store_rule.specs.Passes.{basis, view}
use Rattle.store_rule.proofs.Passing.{pass_of}
use Rattle.store_serve.specs.Adding.{Call, Took, taken_on}
use Rattle.plain_runs.specs.Words.{HasChain, HasNames, IsOfOffer, KnowsLot, Lot, ShowsAt, ShowsEntry, no_guests, setting_of}
use Rattle.plain_runs.proofs.Flushing.{HasFlushed, entry_shown, flushed_right, knows_grown, resized_at, resized_offer, staged, word_staged}
use Rattle.plain_runs.proofs.Freeing.{KnowsLotBut, knows_but}
use Rattle.plain_runs.proofs.Growth.{append_behind, append_here, append_on, published_is}
use Rattle.plain_runs.proofs.OwnAnchors.{OwnsLot, lot_stays}
use Rattle.plain_runs.proofs.Published.{anchor_there, chain_of_tab}
use Rattle.plain_runs.proofs.Reserving.{IsReadied, supply_on, supply_resized}

module _ {C O : Type 0} (tells : Bool) (state : C → CellState) (offers : O → Offers) (st : Store C O) (lot : Lot) (rename : ℕ → ℕ) (t : ℕ) where
  abbrev g : Ground (List ℕ)
  g = basis tells state offers st

  abbrev s : Setting
  s = setting_of g

  abbrev room : ℕ
  room = room_of g.slot

  -- The tab writes the entry that grows at its anchor, and has taken as much of it as the plain store.
  pub record Grows (pass : Pass C) (p : Plain) (e : Writing_) (x : Entry) : Type 0 where
    pub writes : WritesAs tells state offers st pass t e
    pub there : entry_at p e.anchor ≡ Some x
    pub grows : x.life ≡ Growing
    pub version_is : e.version ≡ rename (place_at p e.anchor).version
    pub offer_is : e.offer ≡ x.offer
    pub size : size_of g e ≡ x.content

  module _ (pass : Pass C) (e : Writing_) (w : WritesAs tells state offers st pass t e) where
    held : ℕ
    held = (draft_at pass.desks t).held

    -- so many slots are published, of its size too
    pub level_is : published room (size_of g e) ≡ length w.published
    level_is = published_is room (length w.published) (size_of g e) (let d = w.drafts.count in let k = w.drafts.least in omega arith) (let d = w.drafts.count in let k = w.drafts.within in omega arith)

    pub writer_there : e.anchor < g.setting.anchors
    writer_there = anchor_there g (view pass) t (writer_as g e w.published w.end (slots_of_link w.end)) w.rests.own.stands (pass_of pass) w.rests.below w.rests.is

  -- what is known of the anchor, with another size of the entry
  module _ (q : Pass C) (p : Plain) (e : Writing_) (w : WritesAs tells state offers st q t e) (x : Entry) (there : entry_at p e.anchor ≡ Some x) (grows : x.life ≡ Growing) where
    pub regrown : (c : ℕ) (k : Stage) → size_of g e ≡ c → OwnsLot g lot (view q).pass → lot.anchors e.anchor ≡ true → KnowsLotBut g rename lot (view q) p no_guests e.anchor → has g (view q) (Anchor e.anchor) ≡ staged rename p e.anchor k → stage_of_entry room Growing c ≡ k
        → HasNames g (view q) e.anchor x → IsOfOffer g e.anchor (record x { content = c }) → 0 < (place_at p e.anchor).version → KnowsLot g rename lot (view q) (resize e.anchor c p) no_guests
    regrown c k size owns ours but word is names offer drawn = knows_grown g rename (view q) p e.anchor c x k but there grows word is names
        (chain_of_tab g (view q) t (writer_as g e w.published w.end (slots_of_link w.end)) (record x { content = c }) (owns e.anchor (writer_there q e w) ours) w.rests.own.stands (pass_of q) w.rests.below w.rests.is refl many ends) offer drawn
      where
        many : length w.published ≡ Rattle.plain_runs.specs.Words.slots_published room x.life c
        many = sym (level_is q e w) ∙ (ap (published room) size ∙ ap (λ (l : Life). Rattle.plain_runs.specs.Words.slots_published room l c) (sym grows))

        ends : Rattle.plain_runs.specs.Words.EndsSo x.life w.end
        ends = subst (λ (l : Life). Rattle.plain_runs.specs.Words.EndsSo l w.end) (sym grows) (open_end w.published w.end w.rests.goes_on)

  module _ (pass : Pass C) (p : Plain) (e : Writing_) (x : Entry) (ready : IsReadied g lot rename t e.anchor (view pass) p pass.hand) (ours : lot.anchors e.anchor ≡ true) (h : Grows pass p e x) where
    lt : e.anchor < g.setting.anchors
    lt = writer_there pass e h.writes

    shown_at : ShowsAt g rename (view pass) p 0 e.anchor
    shown_at = ready.knows.each e.anchor lt ours

    shown : ShowsEntry g (view pass) e.anchor (place_at p e.anchor).version x
    shown = entry_shown g rename (view pass) p e.anchor shown_at x h.there

    from_origin : g.setting.slots ≤ x.offer
    from_origin = let k = h.writes.rests.from in let o = h.offer_is in omega arith

    -- its URL and its body are those of the offer
    pub url_is : url_in g e ≡ x.url
    url_is = ap (λ (n : ℕ). Rattle.store_rule.specs.Ground.url_of g n) h.offer_is ∙ (shown.offer.response.new from_origin).url_is

    pub body_is : body_in g e ≡ x.body
    body_is = ap (λ (n : ℕ). g.offers.body (n - g.setting.slots)) h.offer_is ∙ (shown.offer.response.new from_origin).body_is

    pub content_is : meta_size x.url + e.taken ≡ x.content
    content_is = let u = ap length url_is in let z = h.size in omega arith

    pub level_here : published room x.content ≡ length h.writes.published
    level_here = ap (published room) (sym h.size) ∙ level_is pass e h.writes

    -- so many bytes more, where they are of the body
    module _ (count : ℕ) (within : e.taken + count ≤ length (body_in g e)) where
      pub more_offer : IsOfOffer g e.anchor (record x { content = x.content + count })
      more_offer = resized_offer g e.anchor (x.content + count) x shown.offer h.grows (let c = content_is in omega arith) (let c = content_is in let b = ap length body_is in omega arith)

  -- What a call leaves that took so many bytes: the plain store has added them too.
  pub record HasAppended (pass q : Pass C) (p : Plain) (e : Writing_) (x : Entry) (count : ℕ) : Type 0 where
    pub store : Plain
    pub grown : append s e.anchor count x.content p ≡ grown_as store None
    pub ready : IsReadied g lot rename t e.anchor (view q) store q.hand
    pub grows : Grows q store (with_taken e (e.taken + count)) (record x { content = x.content + count })
    pub tabs : store.tabs ≡ p.tabs
    pub others : Others t (view pass) (view q)
    pub version : (place_at store e.anchor).version ≡ (place_at p e.anchor).version

  module _ (pass q : Pass C) (p : Plain) (e : Writing_) (x : Entry) (ready : IsReadied g lot rename t e.anchor (view pass) p pass.hand) (ours : lot.anchors e.anchor ≡ true) (h : Grows pass p e x) (count : ℕ) (w : WritesAs tells state offers st q t (with_taken e (e.taken + count))) where
    abbrev after : Writing_
    after = with_taken e (e.taken + count)

    abbrev new : Entry
    new = record x { content = x.content + count }

    size_after : size_of g after ≡ x.content + count
    size_after = let z = h.size in omega arith

    grown_on : (store : Plain) → entry_at store e.anchor ≡ Some x → (place_at store e.anchor).version ≡ (place_at p e.anchor).version → Grows q (resize e.anchor (x.content + count) store) after new
    grown_on store there version = record {
      writes = w;
      there = resized_there e.anchor (x.content + count) store x there;
      grows = h.grows;
      version_is = h.version_is ∙ ap rename (sym (version_after store there ∙ version));
      offer_is = h.offer_is;
      size = size_after;
    }
      where
        version_after : (store : Plain) → entry_at store e.anchor ≡ Some x → (place_at (resize e.anchor (x.content + count) store) e.anchor).version ≡ (place_at store e.anchor).version
        version_after store there = ap (λ (o : PlaceOf). o.version) (resized_at e.anchor (x.content + count) store x there)

    version_kept : (store : Plain) → entry_at store e.anchor ≡ Some x → (place_at store e.anchor).version ≡ (place_at p e.anchor).version → (place_at (resize e.anchor (x.content + count) store) e.anchor).version ≡ (place_at p e.anchor).version
    version_kept store there version = ap (λ (o : PlaceOf). o.version) (resized_at e.anchor (x.content + count) store x there) ∙ version

    -- where no step was made, and no slot more is published of them
    stayed : view q ≡ view pass → q.hand ≡ pass.hand → published room (x.content + count) ≡ published room x.content → HasAppended pass q p e x count
    stayed same hand level = record {
      store = resize e.anchor (x.content + count) p;
      grown = append_here s e.anchor count x.content p level;
      ready = record {
        knows = regrown q p after w x h.there h.grows (x.content + count) (stage_of_entry room Growing (x.content + count)) size_after owns ours
            (subst (λ (z : View (List ℕ)). KnowsLotBut g rename lot z p no_guests e.anchor) (sym same) (knows_but g rename (view pass) p no_guests e.anchor ready.knows))
            (ap (λ (z : View (List ℕ)). has g z (Anchor e.anchor)) same ∙ word_staged g rename (view pass) p e.anchor (shown_at pass p e x ready ours h) x h.there (stage_of_entry room Growing (x.content + count)) stage_is)
            refl
            (subst (λ (z : View (List ℕ)). HasNames g z e.anchor x) (sym same) (shown pass p e x ready ours h).names)
            (more_offer pass p e x ready ours h count w.drafts.inside) (shown pass p e x ready ours h).drawn;
        stands = w.rests.own.stands;
        pass = pass_of q;
        owns = owns;
        inner_free = w.rests.inner_free;
        supply = supply_resized g lot t e.anchor (x.content + count) (view q) p (supply_on g lot t e.anchor (view pass) (view q) p others ready.supply);
        hand_is = ap (λ (n : ℕ). Rattle.slice_chain.specs.Victims.hand_in g.setting.anchors n) hand ∙ ready.hand_is;
        eight = ready.eight;
      };
      grows = grown_on p h.there refl;
      tabs = refl;
      others = others;
      version = version_kept p h.there refl;
    }
      where
        owns : OwnsLot g lot (view q).pass
        owns = lot_stays g lot (view pass) (view q) (ap View.pass same) ready.owns

        others : Others t (view pass) (view q)
        others j ne far = ap (λ (z : View (List ℕ)). tab_at z j) same

        stage_is : stage_of_entry room x.life x.content ≡ stage_of_entry room Growing (x.content + count)
        stage_is = ap (λ (l : Life). stage_of_entry room l x.content) h.grows ∙ ap (λ (n : ℕ). cond (n == 0) stage.Taken stage.Appending) (sym level)

    not_below : (m n : ℕ) → (m ≤ n → ⊥) → n < m
    not_below m n h = omega arith

    -- where a full slot was published first
    behind : (bytes : List ℕ) → TookBehind tells state offers st t e bytes pass q count → HasAppended pass q p e x count
    behind bytes b = record {
      store = resize e.anchor (x.content + count) f.store;
      grown = append_behind s e.anchor count x.content (length ps) p (level_here pass p e x ready ours h) level_after (ap Grown.refusal grown) ∙ ap (λ (z : Grown). grown_as (resize e.anchor (x.content + count) z.store) None) grown;
      ready = record {
        knows = regrown q f.store after w x there h.grows (x.content + count) stage.Appending size_after f.owns ours f.but f.word (let ne = ne_eqb (published room (x.content + count)) 0 (λ z. let k = level_after in omega arith) in rw ne refl) f.names
            (more_offer pass p e x ready ours h count w.drafts.inside) (subst (λ (n : ℕ). 0 < n) (sym version) (shown pass p e x ready ours h).drawn);
        stands = w.rests.own.stands;
        pass = pass_of q;
        owns = f.owns;
        inner_free = w.rests.inner_free;
        supply = supply_resized g lot t e.anchor (x.content + count) (view q) f.store f.supply;
        hand_is = f.hand_is;
        eight = ap length f.stays.tabs ∙ ready.eight;
      };
      grows = grown_on f.store there version;
      tabs = f.stays.tabs;
      others = f.others;
      version = version_kept f.store there version;
    }
      where
        ps : List ℕ
        ps = h.writes.published

        place_is : place_of g e ≡ length ps
        place_is = level_is pass e h.writes

        full : x.content ≡ (length ps + 1) * room
        full = sym h.size ∙ (b.full ∙ ap (λ (n : ℕ). (n + 1) * room) place_is)

        small : length ps + 1 < limit s
        small = not_below (limit s) (length ps + 1) (λ le. b.below (let k = place_is in omega arith))

        some_bytes : (xs : List ℕ) → xs ≢ [] → 0 < length xs
        some_bytes [] ne = absurd (ne refl)
        some_bytes (y ∷ ys) ne = omega arith

        some_room : 0 < room
        some_room = let d = h.writes.drafts.least in let k = h.writes.drafts.within in omega arith

        -- bytes of the body come behind
        more_come : x.content < meta_size x.url + length x.body
        more_come = let i = w.drafts.inside in let k = b.count_is in let z = some_bytes bytes b.some in let r = some_room in
            let c = content_is pass p e x ready ours h in let l = ap length (body_is pass p e x ready ours h) in omega arith

        f : HasFlushed g lot rename t h.writes.rests.below e (view pass) p pass.hand ready x h.there h.grows (length ps + 1) full small ours more_come (view q) q.hand
        f = flushed_right g lot rename t h.writes.rests.below e (view pass) p pass.hand ready x h.there h.grows (length ps + 1) full small ours more_come (view q) ps h.writes.end e.is_durable q.hand
            h.writes.rests.goes_on h.writes.rests.is refl (level_here pass p e x ready ours h) b.flushed

        there : entry_at f.store e.anchor ≡ Some x
        there = ap (λ (o : PlaceOf). o.entry) f.stays.place ∙ h.there

        version : (place_at f.store e.anchor).version ≡ (place_at p e.anchor).version
        version = ap (λ (o : PlaceOf). o.version) f.stays.place

        grown : publish s e.anchor (length ps + 1) p ≡ grown_as f.store None
        grown = f.grown

        level_after : published room (x.content + count) ≡ length ps + 1
        level_after = let k = b.count_is in let z = some_bytes bytes b.some in let r = some_room in
            published_is room (length ps + 1) (x.content + count) (let c = full in omega arith) (let c = full in omega arith)

    -- where the slot that is being filled had room
    here : (bytes : List ℕ) → TookHere tells state offers st t e bytes pass q count → HasAppended pass q p e x count
    here bytes b = stayed b.same b.hand (published_is room (length ps) (x.content + count) (let k = above in omega arith) (let k = under in omega arith) ∙ sym (level_here pass p e x ready ours h))
      where
        ps : List ℕ
        ps = h.writes.published

        place_is : place_of g e ≡ length ps
        place_is = level_is pass e h.writes

        above : length ps * room < x.content
        above = let z = h.size in let c = h.writes.drafts.count in let l = h.writes.drafts.least in omega arith

        left : room_in g e ≡ (length ps + 1) * room - x.content
        left = ap (λ (n : ℕ). (n + 1) * room - size_of g e) place_is ∙ ap (λ (n : ℕ). (length ps + 1) * room - n) h.size

        under : x.content + count ≤ length ps * room + room
        under = let z = h.size in let c = h.writes.drafts.count in let i = h.writes.drafts.within in let l = left in let k = b.count_is in let r = next_room (length ps) room in omega arith

    pub appended_right : (bytes : List ℕ) → (TookNone tells state offers st t e bytes pass q count ⊎ TookHere tells state offers st t e bytes pass q count ⊎ TookBehind tells state offers st t e bytes pass q count) → HasAppended pass q p e x count
    appended_right bytes (inl none) = stayed none.same none.hand (ap (published room) (let z = none.zero_is in omega arith))
    appended_right bytes (inr (inl b)) = here bytes b
    appended_right bytes (inr (inr b)) = behind bytes b

  pub some_room : (pass : Pass C) (e : Writing_) → WritesAs tells state offers st pass t e → 0 < room
  some_room pass e w = let d = w.drafts.least in let k = w.drafts.within in omega arith

  -- Of one call after others.
  then_right : (pass middle q : Pass C) (p : Plain) (e : Writing_) (x : Entry) (before count total : ℕ) → 0 < room → total ≡ before + count → (a : HasAppended pass middle p e x before)
      → HasAppended middle q a.store (taken_on e before) (record x { content = x.content + before }) count → HasAppended pass q p e x total
  then_right pass middle q p e x before count total some_ sum a b = record {
    store = b.store;
    grown = ap (λ (n : ℕ). append s e.anchor n x.content p) sum
        ∙ (sym (append_on s e.anchor before count x.content p (published_le room x.content (x.content + before) some_ (omega arith)) (published_le room (x.content + before) (x.content + before + count) some_ (omega arith)) (ap Grown.refusal a.grown))
        ∙ (ap (λ (z : Grown). append s e.anchor count (x.content + before) z.store) a.grown ∙ b.grown));
    ready = b.ready;
    grows = subst (λ z. z) (λ i. Grows q b.store (with_taken e (taken i)) (record x { content = content i })) b.grows;
    tabs = b.tabs ∙ a.tabs;
    others = others_go_on (view pass) (view middle) (view q) t a.others b.others;
    version = b.version ∙ a.version;
  }
    where
      taken : e.taken + before + count ≡ e.taken + total
      taken = let z = sum in omega arith

      content : x.content + before + count ≡ x.content + total
      content = let z = sum in omega arith

  -- So many bytes were taken by calls, one behind the other, and the plain store has added them.
  pub took_right : (pass : Pass C) (p : Plain) (e : Writing_) (x : Entry) → IsReadied g lot rename t e.anchor (view pass) p pass.hand → lot.anchors e.anchor ≡ true → Grows pass p e x → (calls : List (Call C)) (q : Pass C) (total : ℕ)
      → Took tells state offers st t e pass calls q total → HasAppended pass q p e x total
  took_right pass p e x ready ours h [] q total (same, none) =
      stayed pass q p e x ready ours h total (subst (λ z. z) (λ i. WritesAs tells state offers st (sym same i) t (with_taken e (taken i))) h.writes) (ap view same) (ap (λ (z : Pass C). z.hand) same)
      (ap (published room) (let z = none in omega arith))
    where
      taken : e.taken ≡ e.taken + total
      taken = let z = none in omega arith
  took_right pass p e x ready ours h (c ∷ earlier) q total (middle, before, took, appended, is, sum) =
      let a = took_right pass p e x ready ours h earlier middle before took in
      let b = appended_right middle c.after a.store (taken_on e before) (record x { content = x.content + before }) a.ready ours a.grows c.count appended.writes c.bytes appended.how in
      subst (λ (z : Pass C). HasAppended pass z p e x total) (sym is) (then_right pass middle c.after p e x before c.count total (some_room pass e h.writes) sum a b)
