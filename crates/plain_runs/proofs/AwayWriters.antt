-- What calls of the writer leave of a lot in a store that fits, by a tab that is at no anchor of it. Nothing is evicted, so the place where
-- the next search for a victim begins stays too.
use Rattle.std.proofs.Common.{Bool, List, None, Option, Some, ap, arith, false, get_or, get_or-set_same, inl, inr, length, length-set, refl, sym, true, ◌<◌, ◌∙◌, ◌≡◌, ◌⊎◌, ℕ}
use Rattle.std.proofs.lemmas.Bool.{false≢true}
use Rattle.rock_disk.specs.Cell.{CellState}
use Rattle.core_model.specs.SlotMoves.{reserves}
use Rattle.core_model.specs.Tabs.{IsPass, inner, tab_at}
use Rattle.core_model.specs.declared.moves.Move.{Move}
use Rattle.core_model.specs.declared.tab.Tab.{Tab}
use Rattle.core_model.specs.declared.tab.Tab.TheVariants.{Free, Freeing, Last, Reading, Retreating, Writing}
use Rattle.core_model.specs.declared.tab.Writer.{Writer}
use Rattle.core_model.specs.declared.view.View.{View}
use Rattle.plain_model.specs.declared.store.Plain.{Plain}
use Rattle.store_rule.specs.declared.store.Pass.{Pass}
use Rattle.store_rule.specs.declared.store.Store.{Store}
use Rattle.store_rule.specs.Ground.{Ground, Offers, anchor_for, fits}
use Rattle.store_rule.specs.Passes.{basis, view}
use Rattle.store_rule.specs.Told.{Steps}
use Rattle.rw_anchor.specs.Calls.{SpentAtDraw, SpentAtLook}
use Rattle.rock_writer.specs.declared.fault.BeginFault.{BeginFault}
use Rattle.rock_writer.specs.declared.fault.BeginFault.TheVariants.{Busy, LongUrl, Spent}
use Rattle.rock_writer.specs.declared.fault.Ended.{Ended}
use Rattle.rock_writer.specs.declared.fault.WriteFault.{WriteFault}
use Rattle.rock_writer.specs.declared.fault.WriteFault.TheVariants.{Fault, Full, Large}
use Rattle.rock_writer.specs.Appending.{Appended, NotAppended, TookBehind, TookHere, TookNone}
use Rattle.rock_writer.specs.Beginning.{Began, NoVersion, NotTaken, Overtaken, Took, TookAnchor, WasIdle, WasVacant}
use Rattle.rock_writer.specs.Entries.{Entry}
use Rattle.rock_writer.specs.Finishing.{Finished, NotFinished, NotWrittenLast, WroteLast}
use Rattle.rock_writer.specs.Flushing.{Flushed, HasBoth, NotFlushed, RaisedBefore, RaisedFirst, RanShort, SlotFor, WrotePiece}
use Rattle.rock_writer.specs.Halting.{FreedLast, GaveBack, GaveUnlinked, Halts, LeftToOther, Parted, Stayed, first_of, second_of}
use Rattle.rock_writer.specs.Reserving.{ByClaim, ByEviction, Reserved}
use Rattle.plain_runs.specs.Elsewhere.{IsOutside}
use Rattle.plain_runs.specs.Words.{Lot}
use Rattle.plain_runs.proofs.AwayCalls.{Passes, claimed, drew, freed, given_up, named, own_tab, published, spent_at_draw, spent_at_look, wrote_slot}
use Rattle.plain_runs.proofs.AwaySteps.{by_step, same}
use Rattle.plain_runs.proofs.AwayTabs.{Suits}

module _ (g : Ground (List ℕ)) (rename : ℕ → ℕ) (lot : Lot) (t : ℕ) (p : Plain) (eight : length p.tabs ≡ 8) (apart : lot.counter ≡ false)
    (fits_is : fits g ≡ true) (below : t < inner) where
  abbrev pub Writes : View (List ℕ) → View (List ℕ) → Type 0
  Writes v w = Passes g rename lot t p eight apart v w

  step : {v w : View (List ℕ)} {m : Move} {n : ℕ} → Suits (IsOutside lot) t m → Steps g v m n w → Writes v w
  step h st = by_step g rename lot t p eight apart h st

  still_so : {v w : View (List ℕ)} → w ≡ v → Writes v w
  still_so e = same g rename lot t p eight apart e

  unfit : fits g ≡ false → ⊥
  unfit less = false≢true (sym less ∙ fits_is)

  -- To begin, at an anchor outside.

  module _ (a : ℕ) (out : IsOutside lot a) (v : View (List ℕ)) where
    took_anchor : {n version : ℕ} {w : View (List ℕ)} → TookAnchor g t a v n version w → Writes v w
    took_anchor h k = step (own_tab g rename lot t p eight apart, out) h.takes
        (drew g rename lot t p eight apart h.drew (step tt h.looks k))

    cleared : {n : ℕ} {taken w : View (List ℕ)} → WasVacant g t a v n taken w ⊎ WasIdle g t a v n taken w → Writes taken w
    cleared (inl h) = still_so h.same
    cleared (inr h) = freed g rename lot t p eight apart h.freed

    pub took : {n version : ℕ} {w : View (List ℕ)} → Took g t a v n version w → Writes v w
    took h k = cleared h.cleared (took_anchor h.took k)

    overtaken : {looked found : _} {w : View (List ℕ)} → Overtaken g t a v looked found w → Writes v w
    overtaken h k = step (own_tab g rename lot t p eight apart, out) h.misses (drew g rename lot t p eight apart h.drew (step tt h.looks k))

    spent : (u w : View (List ℕ)) (versions : ℕ) → SpentAtLook g u versions w ⊎ SpentAtDraw g u versions w → Writes u w
    spent u w versions (inl h) = spent_at_look g rename lot t p eight apart h
    spent u w versions (inr h) = spent_at_draw g rename lot t p eight apart h

    no_version : {versions : ℕ} {w : View (List ℕ)} → NoVersion g t a v versions w → Writes v w
    no_version {versions} {w} h k = spent h.seen w versions h.spent (step tt h.looks k)

    pub not_taken : (fault : BeginFault) (w : View (List ℕ)) → NotTaken g t a v fault w → Writes v w
    not_taken LongUrl w e = still_so e
    not_taken (Busy looked found) w (inl h, fresh) = step tt h.looks
    not_taken (Busy looked found) w (inr h, fresh) = overtaken h
    not_taken (Spent versions) w h = no_version h

  -- To reserve slots, and to write and publish pieces.

  abbrev IsWriter : View (List ℕ) → Type 0
  IsWriter v = (x : Writer (List ℕ)) × (tab_at v t ≡ Writing x)

  -- a tab that writes once it has one slot more wrote before
  wrote_before : (v : View (List ℕ)) (slot : ℕ) (x : Tab (List ℕ)) → tab_at v t ≡ x → (y : Writer (List ℕ)) → reserves x slot ≡ Writing y
      → IsWriter v
  wrote_before v slot (Writing x) is y e = (x, is)
  wrote_before v slot Free is y e = cc
  wrote_before v slot (Retreating a) is y e = cc
  wrote_before v slot (Reading r) is y e = cc
  wrote_before v slot (Last a) is y e = cc
  wrote_before v slot (Freeing f) is y e = cc

  module _ {hand slot after : ℕ} {v w : View (List ℕ)} where
    reserved : IsWriter v → Reserved g t hand v slot w after → Writes v w
    reserved x h = by_either h.how
      where
        by_either : ByClaim g t hand v slot w after ⊎ ByEviction g t hand v slot w after → Writes v w
        by_either (inl c) = claimed g rename lot t p eight apart x.0 below x.1 c.claimed
        by_either (inr e) = absurd (unfit e.none.unfit)

    reserved_hand : Reserved g t hand v slot w after → after ≡ hand
    reserved_hand h = by_either h.how
      where
        by_either : ByClaim g t hand v slot w after ⊎ ByEviction g t hand v slot w after → after ≡ hand
        by_either (inl c) = c.stays
        by_either (inr e) = absurd (unfit e.none.unfit)

    reserved_was : IsPass v → Reserved g t hand v slot w after → IsWriter w → IsWriter v
    reserved_was nine h y = wrote_before v slot (tab_at v t) refl y.0
        (sym (get_or-set_same v.tabs t (reserves (tab_at v t) slot) Free (let n = nine in let b = below in omega arith))
        ∙ sym (ap (λ (z : List (Tab (List ℕ))). get_or z t Free) h.tabs) ∙ y.1)

    slot_for : IsWriter v → SlotFor g t hand v slot w after → Writes v w
    slot_for x (inl h) = still_so h.same
    slot_for x (inr h) = reserved x h.reserved

    slot_hand : SlotFor g t hand v slot w after → after ≡ hand
    slot_hand (inl h) = h.stays
    slot_hand (inr h) = reserved_hand h.reserved

    slot_was : IsPass v → SlotFor g t hand v slot w after → IsWriter w → IsWriter v
    slot_was nine (inl h) y = (y.0, sym (ap (λ (z : View (List ℕ)). tab_at z t) h.same) ∙ y.1)
    slot_was nine (inr h) y = reserved_was nine h.reserved y

    slot_nine : IsPass v → SlotFor g t hand v slot w after → IsPass w
    slot_nine nine (inl h) = ap (λ (z : View (List ℕ)). length z.tabs) h.same ∙ nine
    slot_nine nine (inr h) = ap (λ (z : List (Tab (List ℕ))). length z) h.reserved.tabs ∙ length-set v.tabs t (reserves (tab_at v t) slot)
        ∙ nine

  has_both : {hand slot next after : ℕ} {v w : View (List ℕ)} → IsWriter w → HasBoth g t hand v slot next w after → Writes v w
  has_both {hand} {slot} {next} {after} {v} {w} y h k = let nine = k.tabs.nine in
      let x = reserved_was (slot_nine nine h.for_piece) h.behind y in
      reserved x h.behind (slot_for (slot_was nine h.for_piece x) h.for_piece k)

  both_hand : {hand slot next after : ℕ} {v w : View (List ℕ)} → HasBoth g t hand v slot next w after → after ≡ hand
  both_hand h = reserved_hand h.behind ∙ slot_hand h.for_piece

  wrote_piece : {durable : Bool} {slot : ℕ} {next : Option ℕ} {v w : View (List ℕ)} → WrotePiece g t durable slot next v w → Writes v w
  wrote_piece {durable} {slot} {next} {v} {w} h k =
      published g rename lot t p eight apart slot next h.written w h.publishes (wrote_slot g rename lot t p eight apart h.wrote k)

  raised : (v linked w : View (List ℕ)) → RaisedFirst g t v linked w ⊎ RaisedBefore g t v linked w → Writes linked w
  raised v linked w (inl h) = step (own_tab g rename lot t p eight apart) h.raises
  raised v linked w (inr h) = still_so h.same

  pub flushed : {hand after : ℕ} {durable : Bool} {v w : View (List ℕ)} → Flushed g t hand durable v w after → Writes v w
  flushed {hand} {after} {durable} {v} {w} h k = raised v h.linked w h.raised
      (wrote_piece h.wrote (has_both (h.wrote.wrote.writer, h.wrote.wrote.was) h.both k))

  pub flushed_hand : {hand after : ℕ} {durable : Bool} {v w : View (List ℕ)} → Flushed g t hand durable v w after → after ≡ hand
  flushed_hand h = both_hand h.both

  -- in a store that fits no slot is wanting
  not_short : (hand : ℕ) (v w : View (List ℕ)) (after : ℕ) → RanShort g t hand v w after → ⊥
  not_short hand v w after (inl h) = unfit h.1.out.none.unfit
  not_short hand v w after (inr h) = unfit h.out.none.unfit

  not_flushed : (hand : ℕ) (durable : Bool) (v : View (List ℕ)) (fault : WriteFault) (w : View (List ℕ)) (after : ℕ)
      → NotFlushed g t hand durable v fault w after → Writes v w
  not_flushed hand durable v Large w after h = still_so h.0
  not_flushed hand durable v Full w after h = absurd (not_short hand v w after h)
  not_flushed hand durable v Fault w after h = λ k. wrote_slot g rename lot t p eight apart h.wrote
      (has_both (h.wrote.writer, h.wrote.was) h.both k)

  not_flushed_hand : (hand : ℕ) (durable : Bool) (v : View (List ℕ)) (fault : WriteFault) (w : View (List ℕ)) (after : ℕ)
      → NotFlushed g t hand durable v fault w after → after ≡ hand
  not_flushed_hand hand durable v Large w after h = h.1
  not_flushed_hand hand durable v Full w after h = absurd (not_short hand v w after h)
  not_flushed_hand hand durable v Fault w after h = both_hand h.both

  wrote_last : {hand after : ℕ} {durable : Bool} {v w : View (List ℕ)} → WroteLast g t hand durable v w after → Writes v w
  wrote_last {hand} {after} {durable} {v} {w} h k = wrote_piece h.wrote
      (slot_for (slot_was k.tabs.nine h.for_piece (h.wrote.wrote.writer, h.wrote.wrote.was)) h.for_piece k)

  not_written_last : (hand : ℕ) (durable : Bool) (v : View (List ℕ)) (fault : WriteFault) (w : View (List ℕ)) (after : ℕ)
      → NotWrittenLast g t hand durable v fault w after → Writes v w
  not_written_last hand durable v Large w after h = absurd h
  not_written_last hand durable v Full w after h = absurd (unfit h.1.out.none.unfit)
  not_written_last hand durable v Fault w after h = λ k. wrote_slot g rename lot t p eight apart h.wrote
      (slot_for (slot_was k.tabs.nine h.for_piece (h.wrote.writer, h.wrote.was)) h.for_piece k)

  not_last_hand : (hand : ℕ) (durable : Bool) (v : View (List ℕ)) (fault : WriteFault) (w : View (List ℕ)) (after : ℕ)
      → NotWrittenLast g t hand durable v fault w after → after ≡ hand
  not_last_hand hand durable v Large w after h = absurd h
  not_last_hand hand durable v Full w after h = h.0
  not_last_hand hand durable v Fault w after h = slot_hand h.for_piece

  -- To part and to halt.

  gave_back : (slot : Option ℕ) (v w : View (List ℕ)) → GaveBack g t slot v w → Writes v w
  gave_back None v w e = still_so e
  gave_back (Some slot) v w h = step (own_tab g rename lot t p eight apart) h.step

  gave_unlinked : {v w : View (List ℕ)} → GaveUnlinked g t v w → Writes v w
  gave_unlinked {v} {w} h k = gave_back (first_of (tab_at v t)) h.middle w h.first
      (gave_back (second_of (tab_at v t)) v h.middle h.second k)

  parting : (v w : View (List ℕ)) → Stayed g t v w ⊎ LeftToOther g t v w ⊎ FreedLast g t v w → Writes v w
  parting v w (inl h) = still_so h.same
  parting v w (inr (inl h)) = given_up g rename lot t p eight apart h.was h.gives_up
  parting v w (inr (inr h)) = λ k. freed g rename lot t p eight apart h.freed (given_up g rename lot t p eight apart h.was h.gives_up k)

  pub parted : {v w : View (List ℕ)} → Parted g t v w → Writes v w
  parted {v} {w} h = parting v w h.parting

  pub halts : {v w : View (List ℕ)} → Halts g t v w → Writes v w
  halts h k = parted h.parted (step (own_tab g rename lot t p eight apart) h.raises (gave_unlinked h.gave k))

-- The calls.

module _ {C O : Type 0} (tells : Bool) (state : C → CellState) (offers : O → Offers) (s : Store C O) (rename : ℕ → ℕ) (lot : Lot) (t : ℕ)
    (p : Plain)
    (eight : length p.tabs ≡ 8) (apart : lot.counter ≡ false) (fits_is : fits (basis tells state offers s) ≡ true) (below : t < inner) where
  abbrev g : Ground (List ℕ)
  g = basis tells state offers s

  -- the lot stays, and so does the place where the next search for a victim begins
  abbrev pub Stays : Pass C → Pass C → Type 0
  Stays from to = Passes (basis tells state offers s) rename lot t p eight apart (view from) (view to) × (to.hand ≡ from.hand)

  pub began : {offer version : ℕ} {url : List ℕ} {durable : Bool} {from to : Pass C}
      → IsOutside lot (anchor_for (basis tells state offers s) url)
      → Began tells state offers s t offer url durable from to version
      → Passes (basis tells state offers s) rename lot t p eight apart (view from) (view to)
  began {offer} {version} {url} {durable} {from} {to} out h k = named g rename lot t p eight apart h.named
      (took g rename lot t p eight apart fits_is below (anchor_for g url) out (view from) h.took k)

  module _ (e : Entry) where
    how : (bytes : List ℕ) (from to : Pass C) (count : ℕ)
        → TookNone tells state offers s t e bytes from to count ⊎ TookHere tells state offers s t e bytes from to count
        ⊎ TookBehind tells state offers s t e bytes from to count
        → Stays from to
    how bytes from to count (inl h) = (same g rename lot t p eight apart h.same, h.hand)
    how bytes from to count (inr (inl h)) = (same g rename lot t p eight apart h.same, h.hand)
    how bytes from to count (inr (inr h)) = (
      flushed g rename lot t p eight apart fits_is below h.flushed,
      flushed_hand g rename lot t p eight apart fits_is below h.flushed,
    )

    pub appended : {bytes : List ℕ} {from to : Pass C} {count : ℕ} → Appended tells state offers s t e bytes from to count → Stays from to
    appended {bytes} {from} {to} {count} h = how bytes from to count h.how

    pub not_appended : {bytes : List ℕ} {from to : Pass C} {fault : WriteFault} → NotAppended tells state offers s t e bytes from to fault
        → Stays from to
    not_appended {bytes} {from} {to} {fault} h = (
      λ k. halts g rename lot t p eight apart fits_is below h.halts
          (not_flushed g rename lot t p eight apart fits_is below from.hand e.is_durable (view from) fault h.middle to.hand h.stopped k),
      not_flushed_hand g rename lot t p eight apart fits_is below from.hand e.is_durable (view from) fault h.middle to.hand h.stopped,
    )

    pub finished : {from to : Pass C} {ended : Ended} → Finished tells state offers s t e from to ended → Stays from to
    finished {from} {to} {ended} h = (
      λ k. parted g rename lot t p eight apart fits_is below h.parted
          (by_step g rename lot t p eight apart (own_tab g rename lot t p eight apart) h.closes
          (wrote_last g rename lot t p eight apart fits_is below h.wrote k)),
      slot_hand g rename lot t p eight apart fits_is below h.wrote.for_piece,
    )

    pub not_finished : {from to : Pass C} {fault : WriteFault} → NotFinished tells state offers s t e from to fault → Stays from to
    not_finished {from} {to} {fault} h = (
      λ k. halts g rename lot t p eight apart fits_is below h.halts
          (not_written_last g rename lot t p eight apart fits_is below from.hand e.is_durable
          (view from) fault h.middle to.hand h.stopped k),
      not_last_hand g rename lot t p eight apart fits_is below from.hand e.is_durable (view from) fault h.middle to.hand h.stopped,
    )
