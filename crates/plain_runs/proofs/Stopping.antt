-- A call that finds no slot, or an entry too large, and gives the entry up: so does the plain store, for the same cause.
use Rattle.std.proofs.Common.{Bool, List, None, Option, Some, [], ap, arith, cond, false, get_or, inl, inr, length, refl, subst, sym, true, ◌*◌, ◌+◌, ◌-◌, ◌<◌, ◌∙◌, ◌≡◌, ◌≢◌, ◌≤◌, ◌⊎◌, ◌∷◌, ℕ}
use Rattle.link_word.specs.declared.link.Link.{Link as LinkOf}
use Rattle.rock_disk.specs.Cell.{CellState}
use Rattle.entry_cut.specs.Content.{room_of}
use Rattle.core_model.specs.Chains.{slots_of_link}
use Rattle.core_model.specs.Tabs.{InnerIsFree, inner, tab_at}
use Rattle.core_model.specs.declared.tab.Tab.TheVariants.{Free, Writing}
use Rattle.core_model.specs.declared.view.View.{View}
use Rattle.plain_model.specs.declared.entry.Entry.{Entry}
use Rattle.plain_model.specs.declared.entry.Life.TheVariants.{GivenUp, Growing}
use Rattle.plain_model.specs.declared.entry.Place.{Place as PlaceOf}
use Rattle.plain_model.specs.declared.store.Plain.{Plain}
use Rattle.plain_model.specs.declared.store.Refusal.{Refusal}
use Rattle.plain_model.specs.declared.store.Refusal.TheVariants.{Full, Large}
use Rattle.plain_model.specs.declared.store.Setting.{Setting}
use Rattle.plain_model.specs.declared.store.Tab.{Tab as PlainTab}
use Rattle.plain_model.specs.declared.store.Tab.TheVariants as plain
use Rattle.plain_model.specs.Slots.{Grown, grown_as, limit, publish}
use Rattle.plain_model.specs.Store.{entry_at, place_at, published, tab_at as plain_tab}
use Rattle.plain_model.specs.Writing.{append, close_writer, last_slot, refused_by}
use Rattle.plain_laws.proofs.Alone.{published_le}
use Rattle.rock_writer.specs.Appending.{IsFull, NotAppended, place_of}
use Rattle.rock_writer.specs.Entries.{Entry as Writing_, WritesAs, body_in, writer_as}
use Rattle.rock_writer.specs.Finishing.{NotFinished, NotWrittenLast}
use Rattle.rock_writer.specs.Flushing.{IsAtLimit, NotFlushed, RanShort}
use Rattle.rock_writer.specs.Halting.{Halts}
use Rattle.rock_writer.specs.declared.fault.WriteFault.{WriteFault}
use Rattle.rock_writer.specs.declared.fault.WriteFault.TheVariants as write
use Rattle.store_serve.specs.Answers.{answer_to_fault}
use Rattle.slice_chain.specs.Victims.{hand_in}
use Rattle.store_rule.specs.declared.store.Pass.{Pass}
use Rattle.store_rule.specs.declared.store.Store.{Store}
use Rattle.store_rule.specs.Ground.{Ground, Offers}
use Rattle.store_rule.specs.Passes.{basis, view}
use Rattle.store_serve.specs.Adding.{Call, NotAdded, Took, taken_on}
use Rattle.plain_runs.specs.Words.{KnowsLot, Lot, no_guests, setting_of}
use Rattle.plain_runs.proofs.Adding.{Grows, HasAppended, level_here, level_is, some_room, took_right}
use Rattle.plain_runs.proofs.Ending.{lacks_right}
use Rattle.plain_runs.proofs.Growth.{append_on, append_stops, published_is, publish_large}
use Rattle.plain_runs.proofs.Halting.{HasHalted, halts_right}
use Rattle.plain_runs.proofs.Publishing.{HasRunShort, short_right}
use Rattle.plain_runs.proofs.Reserving.{ClaimStays, IsReadied, ready_by}

module _ {C O : Type 0} (tells : Bool) (state : C → CellState) (offers : O → Offers) (st : Store C O) (lot : Lot) (rename : ℕ → ℕ) (t : ℕ) where
  abbrev g : Ground (List ℕ)
  g = basis tells state offers st

  abbrev s : Setting
  s = setting_of g

  abbrev room : ℕ
  room = room_of g.slot

  -- The entry at the anchor was given up, and the plain store has given it up from this store on.
  pub record HasGivenUp (q : Pass C) (a : ℕ) (store : Plain) : Type 0 where
    pub knows : KnowsLot g rename lot (view q) (close_writer GivenUp t a store) no_guests
    pub hand_is : hand_in g.setting.anchors q.hand ≡ store.hand
    pub free : tab_at (view q) t ≡ Free

  -- a tab that lacks a slot halts
  given_up_so : (below : t < inner) (v u : View (List ℕ)) (q : Pass C) (p store : Plain) (e : Writing_) (x : Entry) (ps : List ℕ) (end : LinkOf) (rs : List ℕ) → lot.anchors e.anchor ≡ true → plain_tab p t ≡ plain.Writing e.anchor → entry_at p e.anchor ≡ Some x
      → x.life ≡ Growing → HasRunShort g lot rename t below e v u p ps end rs q.hand store → Halts g t u (view q) → HasGivenUp q e.anchor store
  given_up_so below v u q p store e x ps end rs ours plain_is there grows h halts = record { knows = done.knows; hand_is = h.readied.hand_is; free = done.free }
    where
      done : HasHalted g rename lot t below u (view q) e.anchor store
      done = halts_right g rename lot t below u (view q) store x (record (writer_as g e ps end rs) { claim = h.claim }) (ready_by g lot rename t e.anchor u store q.hand h.readied) ours h.tab (ap (λ (xs : List PlainTab). get_or xs t plain.Free) h.stays.tabs ∙ plain_is)
          (ap (λ (o : PlaceOf). o.entry) h.stays.place ∙ there) grows halts

  -- The publishing of a full slot was refused, for this cause.
  pub record HasStopped (q : Pass C) (p : Plain) (a k : ℕ) (fault : WriteFault) : Type 0 where
    pub refusal : Refusal
    pub answered : answer_to_fault fault ≡ refused_by refusal
    pub store : Plain
    pub refused : publish s a (k + 1) p ≡ grown_as store (Some refusal)
    pub tabs : store.tabs ≡ p.tabs
    pub gave_up : HasGivenUp q a store

  module _ (pass q : Pass C) (p : Plain) (e : Writing_) (x : Entry) (ready : IsReadied g lot rename t e.anchor (view pass) p pass.hand) (ours : lot.anchors e.anchor ≡ true) (h : Grows tells state offers st lot rename t pass p e x) (plain_is : plain_tab p t ≡ plain.Writing e.anchor) where
    abbrev ps : List ℕ
    ps = h.writes.published

    below : t < inner
    below = h.writes.rests.below

    place_is : place_of g e ≡ length ps
    place_is = level_is tells state offers st lot rename t pass e h.writes

    -- a tab whose slot is full
    pub full_is : IsFull g e → x.content ≡ (length ps + 1) * room
    full_is full = sym h.size ∙ (full ∙ ap (λ (n : ℕ). (n + 1) * room) place_is)

    pub not_appended_right : (fault : WriteFault) (bytes : List ℕ) → fault ≢ write.Fault → NotAppended tells state offers st t e bytes pass q fault → HasStopped q p e.anchor (length ps) fault
    not_appended_right write.Fault bytes ne n = absurd (ne refl)
    not_appended_right write.Large bytes ne n = record {
      refusal = Large;
      answered = refl;
      store = p;
      refused = publish_large s e.anchor (length ps + 1) p x h.there (full_is n.full) (let l = n.limit.0 refl in let k = place_is in omega arith);
      tabs = refl;
      gave_up = record { knows = done.knows; hand_is = ap (hand_in g.setting.anchors) n.stopped.1 ∙ ready.hand_is; free = done.free };
    }
      where
        done : HasHalted g rename lot t below (view pass) (view q) e.anchor p
        done = halts_right g rename lot t below (view pass) (view q) p x (writer_as g e ps h.writes.end (slots_of_link h.writes.end)) (ready_by g lot rename t e.anchor (view pass) p pass.hand ready) ours h.writes.rests.is plain_is h.there h.grows
            (subst (λ (z : View (List ℕ)). Halts g t z (view q)) n.stopped.0 n.halts)
    not_appended_right write.Full bytes ne n = record {
      refusal = Full;
      answered = refl;
      store = short.0;
      refused = short.1;
      tabs = short.3.stays.tabs;
      gave_up = given_up_so below (view pass) n.middle q p short.0 e x ps h.writes.end short.2 ours plain_is h.there h.grows short.3 n.halts;
    }
      where
        not_large : write.Full ≡ write.Large → ⊥
        not_large z = cc

        not_below : (m k : ℕ) → (m ≤ k → ⊥) → k < m
        not_below m k f = omega arith

        small : length ps + 1 < limit s
        small = not_below (limit s) (length ps + 1) (λ le. n.limit.1 not_large (let k = place_is in omega arith))

        short : (store : Plain) × (publish s e.anchor (length ps + 1) p ≡ grown_as store (Some Full)) × (rs : List ℕ) × HasRunShort g lot rename t below e (view pass) n.middle p ps h.writes.end rs q.hand store
        short = short_right g lot rename t below e (view pass) p pass.hand ready x h.there h.grows (length ps + 1) (full_is n.full) small ps h.writes.end q.hand n.middle h.writes.rests.goes_on h.writes.rests.is refl n.stopped

    -- The last piece was not published, for want of a slot.
    pub record HasNotFinished (fault : WriteFault) : Type 0 where
      pub answered : answer_to_fault fault ≡ refused_by Full
      pub refused : last_slot s x.content p ≡ grown_as p (Some Full)
      pub gave_up : HasGivenUp q e.anchor p

    pub not_finished_right : (fault : WriteFault) → fault ≢ write.Fault → NotFinished tells state offers st t e pass q fault → HasNotFinished fault
    not_finished_right write.Fault ne n = absurd (ne refl)
    not_finished_right write.Large ne n = absurd n.stopped
    not_finished_right write.Full ne n = record {
      answered = refl;
      refused = lacks.0;
      gave_up = given_up_so below (view pass) n.middle q p p e x ps h.writes.end lacks.1 ours plain_is h.there h.grows (subst (λ (k : ℕ). HasRunShort g lot rename t below e (view pass) n.middle p ps h.writes.end lacks.1 k p) (sym n.stopped.0) lacks.2) n.halts;
    }
      where
        lacks : (last_slot s x.content p ≡ grown_as p (Some Full)) × (rs : List ℕ) × HasRunShort g lot rename t below e (view pass) n.middle p ps h.writes.end rs pass.hand p
        lacks = lacks_right g lot rename t below e (view pass) p pass.hand ready x h.there h.grows ps h.writes.end n.middle h.writes.rests.goes_on h.writes.rests.is (level_here tells state offers st lot rename t pass p e x ready ours h) n.stopped.1

  -- Bytes were added by calls until one was refused, for this cause. However many were to come, that is what the plain store makes of them.
  pub record HasNotAdded (q : Pass C) (p : Plain) (e : Writing_) (x : Entry) (most : ℕ) (fault : WriteFault) : Type 0 where
    pub refusal : Refusal
    pub answered : answer_to_fault fault ≡ refused_by refusal
    pub store : Plain
    pub refused : append s e.anchor most x.content p ≡ grown_as store (Some refusal)
    pub tabs : store.tabs ≡ p.tabs
    pub gave_up : HasGivenUp q e.anchor store

  pub not_added_right : (pass q : Pass C) (p : Plain) (e : Writing_) (x : Entry) → IsReadied g lot rename t e.anchor (view pass) p pass.hand → lot.anchors e.anchor ≡ true → Grows tells state offers st lot rename t pass p e x → plain_tab p t ≡ plain.Writing e.anchor
      → (fault : WriteFault) → fault ≢ write.Fault → (n : NotAdded tells state offers st t e pass q fault) → (most : ℕ) → n.total < most → HasNotAdded q p e x most fault
  not_added_right pass q p e x ready ours h plain_is fault ne n most before = record {
    refusal = stop.refusal;
    answered = stop.answered;
    store = stop.store;
    refused = ap (λ (k : ℕ). append s e.anchor k x.content p) split
        ∙ (sym (append_on s e.anchor n.total (most - n.total) x.content p (published_le room x.content (x.content + n.total) some_ (omega arith)) (published_le room (x.content + n.total) (x.content + n.total + (most - n.total)) some_ (omega arith)) (ap Grown.refusal a.grown))
        ∙ (ap (λ (z : Grown). append s e.anchor (most - n.total) (x.content + n.total) z.store) a.grown
        ∙ (append_stops s e.anchor (most - n.total) (x.content + n.total) k a.store stop.refusal level more (ap Grown.refusal stop.refused) ∙ stop.refused)));
    tabs = stop.tabs ∙ a.tabs;
    gave_up = stop.gave_up;
  }
    where
      a : HasAppended tells state offers st lot rename t pass n.middle p e x n.total
      a = took_right tells state offers st lot rename t pass p e x ready ours h n.calls n.middle n.total n.took

      k : ℕ
      k = length a.grows.writes.published

      plain_after : plain_tab a.store t ≡ plain.Writing e.anchor
      plain_after = ap (λ (xs : List PlainTab). get_or xs t plain.Free) a.tabs ∙ plain_is

      stop : HasStopped q a.store e.anchor k fault
      stop = not_appended_right n.middle q a.store (taken_on e n.total) (record x { content = x.content + n.total }) a.ready ours a.grows plain_after fault n.bytes ne n.stopped

      some_ : 0 < room
      some_ = some_room tells state offers st lot rename t pass e h.writes

      split : most ≡ n.total + (most - n.total)
      split = let b = before in omega arith

      level : published room (x.content + n.total) ≡ k
      level = level_here tells state offers st lot rename t n.middle a.store (taken_on e n.total) (record x { content = x.content + n.total }) a.ready ours a.grows

      full : x.content + n.total ≡ (k + 1) * room
      full = full_is n.middle q a.store (taken_on e n.total) (record x { content = x.content + n.total }) a.ready ours a.grows plain_after n.stopped.full

      more : k < published room (x.content + n.total + (most - n.total))
      more = let one = published_is room (k + 1) ((k + 1) * room + 1) (omega arith) (let r = some_ in omega arith) in
          let le = published_le room ((k + 1) * room + 1) (x.content + n.total + (most - n.total)) some_ (let f = full in let b = before in omega arith) in omega arith
