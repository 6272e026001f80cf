-- The last piece of an entry is published and the entry closed, in the store and in the plain store.
use Rattle.std.proofs.Common.{Bool, List, None, Some, [], ap, arith, cond, eq-eqb, false, get_or, inl, inr, length, ne_eqb, refl, subst, sym, true, ◌+◌, ◌-◌, ◌<◌, ◌∙◌, ◌≡◌, ◌≢◌, ◌≤◌, ◌∷◌, ℕ}
use Rattle.std.specs.Prelude.{◌/◌, ◌↔◌}
use Rattle.std.proofs.lemmas.List.{length_push}
use Rattle.std.proofs.lemmas.Bool.{le-ltb}
use Rattle.std.proofs.Common.{length-append}
use Rattle.lock_word.specs.Words.{doom_number, doom_of, epoch_of as epoch_in, stage_number}
use Rattle.lock_word.specs.declared.stage.Stage.{Stage}
use Rattle.lock_word.specs.declared.stage.Stage.TheVariants as stage
use Rattle.rock_disk.specs.Cell.{CellState}
use Rattle.script_text.specs.declared.answer.Answer.TheVariants as answer
use Rattle.store_key.specs.Key.{key_of}
use Rattle.store_key.proofs.KeyFacts.{key_is_long}
use Rattle.swap_meta.specs.Meta.{meta_bytes}
use Rattle.swap_meta.proofs.Written.{length-meta_bytes}
use Rattle.entry_cut.specs.Content.{content, count, room_of}
use Rattle.link_word.specs.declared.link.Link.{Link as LinkOf}
use Rattle.link_word.specs.declared.link.Link.TheVariants.{Last as LastLink, Next, NotWritten}
use Rattle.core_model.specs.Chains.{slots_of_link}
use Rattle.core_model.specs.SlotMoves.{reserves}
use Rattle.core_model.specs.Tabs.{inner, tab_at}
use Rattle.core_model.specs.declared.tab.Tab.{Tab}
use Rattle.core_model.specs.Table.{left_by}
use Rattle.core_model.specs.declared.moves.Move.TheVariants.{Raise}
use Rattle.core_model.specs.declared.tab.Tab.TheVariants.{Free, Writing}
use Rattle.core_model.specs.declared.tab.Writer.{Writer}
use Rattle.core_model.specs.declared.view.Place.TheVariants.{Anchor}
use Rattle.core_model.specs.declared.view.View.{View}
use Rattle.plain_model.specs.declared.entry.Entry.{Entry}
use Rattle.plain_model.specs.declared.entry.Life.{Life}
use Rattle.plain_model.specs.declared.entry.Life.TheVariants.{Growing, Whole}
use Rattle.plain_model.specs.declared.entry.Place.{Place as PlaceOf}
use Rattle.plain_model.specs.declared.store.Plain.{Plain}
use Rattle.plain_model.specs.declared.store.Refusal.TheVariants.{Full}
use Rattle.plain_model.specs.declared.store.Setting.{Setting}
use Rattle.plain_model.specs.Slots.{claim, grown_as, held, held_by}
use Rattle.plain_model.specs.declared.store.Tab.{Tab as PlainTab}
use Rattle.plain_model.specs.declared.store.Tab.TheVariants as plain
use Rattle.plain_model.specs.Store.{entry_at, meta_size, place_at, published, readers, stage_of_entry, tab_at as plain_tab}
use Rattle.plain_laws.specs.Renaming.{renamed, renamed_word}
use Rattle.store_rule.specs.Words.{has}
use Rattle.plain_model.specs.Writing.{close_writer, finish, last_slot}
use Rattle.rock_reader.specs.Responses.{pieces_of}
use Rattle.free_set.specs.Claims.{searched_to}
use Rattle.rock_writer.specs.Entries.{Drafts, Entry as Writing_, GoesOn, body_in, writer_as}
use Rattle.rock_writer.specs.Finishing.{Finished, is_doomed, version_of}
use Rattle.rock_writer.specs.declared.fault.Ended.{Ended}
use Rattle.rock_writer.specs.declared.fault.Ended.TheVariants.{Doomed, Stored}
use Rattle.rock_writer.proofs.Growing.{linked_as}
use Rattle.rock_writer.proofs.Sizes.{needed_is}
use Rattle.store_serve.specs.Answers.{answer_to_ended}
use Rattle.rock_writer.specs.Flushing.{LacksSlot, SlotFor}
use Rattle.slice_chain.specs.Victims.{hand_in}
use Rattle.slice_chain.specs.Writes.{reserved_first}
use Rattle.store_rule.specs.declared.store.Pass.{Pass}
use Rattle.store_rule.specs.declared.store.Store.{Store}
use Rattle.tab_states.specs.Desks.{draft_at}
use Rattle.store_rule.specs.Ground.{Ground, Offers, cut_of, url_of}
use Rattle.store_rule.specs.Passes.{basis, view}
use Rattle.plain_runs.specs.Words.{IsOfOffer, KnowsLot, Lot, ShowsAt, ShowsEntry, no_guests, setting_of}
use Rattle.plain_runs.proofs.Adding.{Grows, body_is, content_is, level_here, writer_there}
use Rattle.plain_runs.proofs.Flushing.{PieceOut, entry_shown, piece_out, staged, word_staged}
use Rattle.plain_runs.proofs.Frames.{SameBut, same_weaker}
use Rattle.plain_laws.proofs.Sums.{held_unfinished, hold}
use Rattle.plain_runs.proofs.Freeing.{KnowsLotBut, knows_but, same_else}
use Rattle.plain_runs.proofs.Halting.{ended_right, growing_stage, raised_so}
use Rattle.plain_runs.proofs.PlainWords.{doom_counted, readers_fit}
use Rattle.plain_runs.proofs.OwnAnchors.{OwnsLot, lot_stays, stands_before}
use Rattle.plain_runs.proofs.Published.{Linking, Touched, chain_of_tab, no_anchor, touched_but, touched_linking, touched_names}
use Rattle.plain_runs.proofs.Growth.{grown_done, grown_not, grown_of}
use Rattle.plain_runs.proofs.Publishing.{HasGrown, HasRunShort, first_claimed, stays_none}
use Rattle.plain_runs.proofs.Reserving.{HasClaimed, HasRunOut, IsAmple, IsReadied, runs_out, some_cap}

some_none : {A : Type 0} {x : A} → Some x ≡ None → ⊥
some_none e = cc

some_same : {x y : ℕ} → Some x ≡ Some y → x ≡ y
some_same e = cc

-- a slot is needed for the last piece where nothing is published
last_first : (s : Setting) (content : ℕ) (p : Plain) → published s.room content ≡ 0 → last_slot s content p ≡ grown_of (claim s 0 p)
last_first s content p none = ap (λ (b : Bool). cond b (grown_of (claim s 0 p)) (grown_as p None)) (eq-eqb (published s.room content) 0 none)

last_later : (s : Setting) (content : ℕ) (p : Plain) → published s.room content ≢ 0 → last_slot s content p ≡ grown_as p None
last_later s content p more = ap (λ (b : Bool). cond b (grown_of (claim s 0 p)) (grown_as p None)) (ne_eqb (published s.room content) 0 more)

module _ (g : Ground (List ℕ)) (lot : Lot) (rename : ℕ → ℕ) (t : ℕ) (below : t < inner) (e : Writing_) (v : View (List ℕ)) (p : Plain) (hand : ℕ) (h : IsReadied g lot rename t e.anchor v p hand)
    (x : Entry) (there : entry_at p e.anchor ≡ Some x) (grows : x.life ≡ Growing) where
  abbrev s : Setting
  s = setting_of g

  abbrev W : List ℕ → LinkOf → List ℕ → Tab (List ℕ)
  W ps end rs = Writing (writer_as g e ps end rs)

  -- The slot for the last piece is there, in the plain store too.
  abbrev HasLast : (u : View (List ℕ)) (ps : List ℕ) (end : LinkOf) (slot hand_after : ℕ) → Type 0
  HasLast u ps end slot hand_after = (q : Plain) × (last_slot s x.content p ≡ grown_as q None) × HasGrown g lot rename t below e v u p ps end (slot ∷ []) hand_after q

  pub slot_right : (ps : List ℕ) (end : LinkOf) (slot hand_after : ℕ) (u : View (List ℕ)) → GoesOn ps end → tab_at v t ≡ W ps end (slots_of_link end) → published s.room x.content ≡ length ps → SlotFor g t hand v slot u hand_after → HasLast u ps end slot hand_after
  slot_right [] end slot hand_after u goes is level for = subst (λ (z : LinkOf). HasLast u [] z slot hand_after) (sym goes) (
    (claim s 0 p).store,
    last_first s x.content p level ∙ grown_done (claim s 0 p) c.done,
    record { readied = c.readied; tab = c.tab ∙ ap (λ (z : Tab (List ℕ)). reserves z slot) at; others = c.others; stays = c.stays },
  )
    where
      none_held : (m : IsAmple g e.anchor p) → held s.room (place_at p e.anchor) + 0 < m.cap
      none_held m = let some = some_cap g e.anchor p m in
          let none : held s.room (place_at p e.anchor) ≡ 0 = ap (held_by s.room) there ∙ (held_unfinished s.room x Growing grows (inl refl) ∙ ap hold level) in omega arith

      at : tab_at v t ≡ W [] NotWritten []
      at = is ∙ ap (λ (z : LinkOf). W [] z (slots_of_link z)) goes

      c : HasClaimed g lot rename t 0 e.anchor v u p hand_after slot
      c = first_claimed g lot rename t below e v p hand h x there grows slot hand_after u none_held at for
  slot_right (y ∷ ys) end slot hand_after u goes is level (inr needs) = absurd (some_none (ap reserved_first (sym (is ∙ ap (λ (z : LinkOf). W (y ∷ ys) z (slots_of_link z)) goes.1)) ∙ needs.none))
  slot_right (y ∷ ys) end slot hand_after u goes is level (inl has) = subst (λ (z : LinkOf). HasLast u (y ∷ ys) z slot hand_after) (sym goes.1) (
    p,
    last_later s x.content p (λ none. let l = level in omega arith),
    record {
      readied = subst (λ z. z) (λ i. IsReadied g lot rename t e.anchor (sym has.same i) p (sym has.stays i)) h;
      tab = ap (λ (z : View (List ℕ)). tab_at z t) has.same ∙ at ∙ ap (λ (z : ℕ). W (y ∷ ys) (Next goes.0) (z ∷ [])) (some_same (ap reserved_first (sym at) ∙ has.first));
      others = λ j ne far. ap (λ (z : View (List ℕ)). tab_at z j) has.same;
      stays = stays_none p e.anchor;
    },
  )
    where
      at : tab_at v t ≡ W (y ∷ ys) (Next goes.0) (goes.0 ∷ [])
      at = is ∙ ap (λ (z : LinkOf). W (y ∷ ys) z (slots_of_link z)) goes.1

  -- Or it is not, in the plain store neither.
  pub lacks_right : (ps : List ℕ) (end : LinkOf) (u : View (List ℕ)) → GoesOn ps end → tab_at v t ≡ W ps end (slots_of_link end) → published s.room x.content ≡ length ps → LacksSlot g t hand v u
      → (last_slot s x.content p ≡ grown_as p (Some Full)) × (rs : List ℕ) × HasRunShort g lot rename t below e v u p ps end rs hand p
  lacks_right [] end u goes is level lacks = subst (λ (z : LinkOf). (last_slot s x.content p ≡ grown_as p (Some Full)) × (rs : List ℕ) × HasRunShort g lot rename t below e v u p [] z rs hand p) (sym goes) (
    last_first s x.content p level ∙ (grown_not (claim s 0 p) r.none ∙ ap (λ (q : Plain). grown_as q (Some Full)) r.same),
    [],
    record { readied = r.readied; claim = r.claim; tab = r.tab ∙ ap (λ z. searched_to z r.claim) at; others = r.others; stays = stays_none p e.anchor },
  )
    where
      at : tab_at v t ≡ W [] NotWritten []
      at = is ∙ ap (λ (z : LinkOf). W [] z (slots_of_link z)) goes

      r : HasRunOut g lot rename t 0 e.anchor v u p hand
      r = runs_out g lot rename t e.anchor v p hand h below (writer_as g e [] NotWritten []) at (λ z. refl) 0 refl u lacks.out
  lacks_right (y ∷ ys) end u goes is level lacks = absurd (some_none (ap reserved_first (sym (is ∙ ap (λ (z : LinkOf). W (y ∷ ys) z (slots_of_link z)) goes.1)) ∙ lacks.none))

-- what a tab says that closed an entry, by whether this was doomed
told_ended : (rename : ℕ → ℕ) (ended : Ended) (version : ℕ) (doom : Bool) → version_of ended ≡ rename version → is_doomed ended ≡ doom
    → answer_to_ended ended ≡ renamed rename (cond doom (answer.Doomed version) (answer.Stored version))
told_ended rename (Stored n) version true is doomed = cc
told_ended rename (Stored n) version false is doomed = ap answer.Stored is
told_ended rename (Doomed n) version true is doomed = ap answer.Doomed is
told_ended rename (Doomed n) version false is doomed = cc

same_doom : (a b : Bool) (n : ℕ) → (a ≡ true ↔ (n ≡ 1)) → n ≡ doom_number b → a ≡ b
same_doom true true n h e = refl
same_doom true false n h e = absurd (let k = h.0 refl in omega arith)
same_doom false true n h e = h.1 e
same_doom false false n h e = refl

module _ {C O : Type 0} (tells : Bool) (state : C → CellState) (offers : O → Offers) (st : Store C O) (lot : Lot) (rename : ℕ → ℕ) (t : ℕ) where
  abbrev g : Ground (List ℕ)
  g = basis tells state offers st

  abbrev room : ℕ
  room = room_of g.slot

  module _ (pass : Pass C) (p : Plain) (e : Writing_) (x : Entry) (ready : IsReadied g lot rename t e.anchor (view pass) p pass.hand) (ours : lot.anchors e.anchor ≡ true) (h : Grows tells state offers st lot rename t pass p e x)
      (all : e.taken ≡ length (body_in g e)) (plain_is : plain_tab p t ≡ plain.Writing e.anchor) where
    abbrev ps : List ℕ
    ps = h.writes.published

    lt : e.anchor < g.setting.anchors
    lt = writer_there tells state offers st lot rename t pass e h.writes

    level : published room x.content ≡ length ps
    level = level_here tells state offers st lot rename t pass p e x ready ours h

    entry : ShowsEntry g (view pass) e.anchor (place_at p e.anchor).version x
    entry = entry_shown g rename (view pass) p e.anchor (ready.knows.each e.anchor lt ours) x h.there

    from_origin : g.setting.slots ≤ x.offer
    from_origin = let k = h.writes.rests.from in let o = h.offer_is in omega arith

    whole_content : x.content ≡ meta_size x.url + length x.body
    whole_content = let c = content_is tells state offers st lot rename t pass p e x ready ours h in let b = ap length (body_is tells state offers st lot rename t pass p e x ready ours h) in let a = all in omega arith

    size_is : length (content (cut_of g x.offer 0 0)) ≡ x.content
    size_is = length-append (meta_bytes (key_of (url_of g x.offer)) (url_of g x.offer)) (g.offers.body (x.offer - g.setting.slots))
        ∙ (let m = length-meta_bytes (key_of (url_of g x.offer)) (url_of g x.offer) (key_is_long (url_of g x.offer)) in
        let r = entry.offer.response.new from_origin in let u = ap length r.url_is in let b = ap length r.body_is in let w = whole_content in omega arith)

    -- all pieces of the offer
    pieces_are : pieces_of g e.anchor x.offer ≡ published room x.content + 1
    pieces_are = ap (λ (b : Bool). cond b (length (g.chain e.anchor)) (count (cut_of g x.offer 0 0))) (le-ltb x.offer g.setting.slots from_origin)
        ∙ (ap (λ (n : ℕ). (n + (room - 1)) / room) (size_is ∙ (sym h.size ∙ d.count)) ∙ (needed_is (length ps) (draft_at pass.desks t).held room d.least d.within ∙ ap (λ (n : ℕ). n + 1) (sym level)))
      where
        d : Drafts g 1 pass.desks t e (length ps)
        d = h.writes.drafts

    whole_offer : IsOfOffer g e.anchor (record x { life = Whole })
    whole_offer = record {
      response = entry.offer.response;
      key = entry.offer.key;
      at = entry.offer.at;
      old = λ k. refl;
      more = entry.offer.more;
      most = entry.offer.most;
      whole = λ k. pieces_are;
      all = λ k l. whole_content;
    }

    -- What ending leaves: the plain store has ended the entry too, and answers so.
    pub record HasFinished (q : Pass C) (ended : Ended) : Type 0 where
      pub store : Plain
      pub slot : last_slot (setting_of g) x.content p ≡ grown_as store None
      pub tabs : store.tabs ≡ p.tabs
      pub hand_is : hand_in g.setting.anchors q.hand ≡ store.hand
      pub knows : KnowsLot g rename lot (view q) (close_writer Whole t e.anchor store) no_guests
      pub free : tab_at (view q) t ≡ Free
      pub answered : answer_to_ended ended ≡ renamed rename (finish t e.anchor store).answer

    pub finished_right : (q : Pass C) (ended : Ended) → Finished tells state offers st t e pass q ended → HasFinished q ended
    finished_right q ended f = record {
      store = store;
      slot = sr.1;
      tabs = hg.stays.tabs;
      hand_is = hg.readied.hand_is;
      knows = ended_right g rename lot t below Whole from stage.Closed f.linked f.closed (view q) store x y e.anchor f.word own_linked ours refl refl le po.pass (stands_before f.closes) po.tab hg.readied.eight plain_after there but word shown f.closes f.parted;
      free = f.parted.free;
      answered = told_ended rename ended (place_at store e.anchor).version (place_at store e.anchor).doom (f.version ∙ (h.version_is ∙ ap (λ (o : PlaceOf). rename o.version) (sym hg.stays.place)))
          (same_doom (is_doomed ended) (place_at store e.anchor).doom (doom_of (epoch_in (left_by f.linked (Raise t stage.Closed) f.word))) f.doomed doom_is);
    }
      where
        below : t < inner
        below = h.writes.rests.below

        sr : HasLast g lot rename t below e (view pass) p pass.hand ready x h.there h.grows f.wrote.reserved ps h.writes.end f.wrote.slot q.hand
        sr = slot_right g lot rename t below e (view pass) p pass.hand ready x h.there h.grows ps h.writes.end f.wrote.slot q.hand f.wrote.reserved h.writes.rests.goes_on h.writes.rests.is level f.wrote.for_piece

        store : Plain
        store = sr.0

        hg : HasGrown g lot rename t below e (view pass) f.wrote.reserved p ps h.writes.end (f.wrote.slot ∷ []) q.hand store
        hg = sr.2

        po : PieceOut g lot rename t below e f.wrote.reserved f.linked ps f.wrote.slot None []
        po = piece_out g lot rename t below e f.wrote.reserved f.linked ps h.writes.end f.wrote.slot [] e.is_durable None hg.readied.pass hg.readied.inner_free hg.tab f.wrote.wrote

        own_linked : OwnsLot g lot f.linked.pass
        own_linked = lot_stays g lot f.wrote.reserved f.linked po.number hg.readied.owns

        y : Writer (List ℕ)
        y = linked_as g t below e ps f.wrote.slot LastLink []

        there : entry_at store e.anchor ≡ Some x
        there = ap (λ (o : PlaceOf). o.entry) hg.stays.place ∙ h.there

        plain_after : plain_tab store t ≡ plain.Writing e.anchor
        plain_after = ap (λ (xs : List PlainTab). get_or xs t plain.Free) hg.stays.tabs ∙ plain_is

        from : Stage
        from = stage_of_entry room Growing x.content

        le : stage_number from ≤ 3
        le = let k = growing_stage room x.content in omega arith

        before : ShowsAt g rename f.wrote.reserved store 0 e.anchor
        before = hg.readied.knows.each e.anchor lt ours

        same : SameBut g f.wrote.reserved f.linked (Touched e.anchor f.wrote.slot)
        same = same_weaker g f.wrote.reserved f.linked (Linking e.anchor f.wrote.slot) (Touched e.anchor f.wrote.slot) (touched_linking e.anchor f.wrote.slot) po.same

        but : KnowsLotBut g rename lot f.linked store no_guests e.anchor
        but = touched_but g rename f.wrote.reserved f.linked t f.wrote.slot (writer_as g e ps h.writes.end (f.wrote.slot ∷ [])) store store hg.readied.owns hg.readied.stands hg.readied.pass below hg.tab (0, omega arith, refl) same
            (same_else store e.anchor) hg.readied.eight (knows_but g rename f.wrote.reserved store no_guests e.anchor hg.readied.knows)

        word : has g f.linked (Anchor e.anchor) ≡ staged rename store e.anchor from
        word = po.same.same (Anchor e.anchor) tt lt (no_anchor e.anchor f.wrote.slot e.anchor)
            ∙ word_staged g rename f.wrote.reserved store e.anchor before x there from (ap (λ (l : Life). stage_of_entry room l x.content) h.grows)

        shown : ShowsEntry g f.linked e.anchor (place_at store e.anchor).version (record x { life = Whole })
        shown = let n = touched_names g f.wrote.reserved f.linked e.anchor f.wrote.slot x lt same (entry_shown g rename f.wrote.reserved store e.anchor before x there).names in record {
          names = record { key0 = n.key0; key1 = n.key1; offer = n.offer };
          chain = chain_of_tab g f.linked t y (record x { life = Whole }) (own_linked e.anchor lt ours) (stands_before f.closes) po.pass below po.tab refl (length_push ps f.wrote.slot ∙ (let l = level in omega arith)) refl;
          offer = whole_offer;
          drawn = (entry_shown g rename f.wrote.reserved store e.anchor before x there).drawn;
        }

        left : left_by f.linked (Raise t stage.Closed) f.word ≡ staged rename store e.anchor stage.Closed
        left = (raised_so g rename t below from stage.Closed f.linked f.closed store y e.anchor f.word ((own_linked e.anchor lt ours).words f.linked (Anchor e.anchor) refl refl) le refl po.tab hg.readied.eight word f.closes).1

        doom_is : doom_of (epoch_in (left_by f.linked (Raise t stage.Closed) f.word)) ≡ doom_number (place_at store e.anchor).doom
        doom_is = ap (λ (n : ℕ). doom_of (epoch_in n)) left ∙ doom_counted (renamed_word rename record { epoch = record { version = (place_at store e.anchor).version; doom = (place_at store e.anchor).doom; stage = stage.Closed }; readers = readers store e.anchor })
            0 (staged rename store e.anchor stage.Closed) (omega arith) (readers_fit store e.anchor 0 hg.readied.eight (omega arith))
