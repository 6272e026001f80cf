-- Calls of the writer.
use Rattle.std.proofs.Common.{Bool, List, Option, None, Some, inl, inr, ◌⊎◌, ℕ}
use Rattle.rock_disk.specs.Cell.{CellState}
use Rattle.core_model.specs.Tabs.{tab_at}
use Rattle.core_model.specs.declared.view.View.{View}
use Rattle.store_rule.specs.declared.store.Pass.{Pass}
use Rattle.store_rule.specs.declared.store.Store.{Store}
use Rattle.store_rule.specs.Ground.{Ground, Offers}
use Rattle.store_rule.specs.Passes.{basis, view}
use Rattle.rw_anchor.specs.Calls.{SpentAtDraw, SpentAtLook}
use Rattle.rock_writer.specs.declared.fault.BeginFault.{BeginFault}
use Rattle.rock_writer.specs.declared.fault.BeginFault.TheVariants.{Busy, LongUrl, Spent}
use Rattle.rock_writer.specs.declared.fault.Ended.{Ended}
use Rattle.rock_writer.specs.declared.fault.WriteFault.{WriteFault}
use Rattle.rock_writer.specs.declared.fault.WriteFault.TheVariants.{Fault, Full, Large}
use Rattle.rock_writer.specs.Appending.{Appended, NotAppended, TookBehind, TookHere, TookNone}
use Rattle.rock_writer.specs.Beginning.{Began, NoVersion, NotTaken, Overtaken, Took, TookAnchor, WasIdle, WasVacant}
use Rattle.rock_writer.specs.Entries.{Entry}
use Rattle.rock_writer.specs.Finishing.{Finished, NotFinished, NotWrittenLast, WroteLast}
use Rattle.rock_writer.specs.Flushing.{Flushed, HasBoth, LacksNext, NotFlushed, RaisedBefore, RaisedFirst, RanShort, SlotFor, WrotePiece}
use Rattle.rock_writer.specs.Halting.{FreedLast, GaveBack, GaveUnlinked, Halts, LeftToOther, Parted, Stayed, first_of, second_of}
use Rattle.rock_writer.specs.Reserving.{ByClaim, ByEviction, RanOut, Reserved}
use Rattle.store_serve.specs.Growing.{GrowsTo}
use Rattle.store_serve.proofs.Grown.{by_step, on, same}
use Rattle.store_serve.proofs.Anchors.{drew, given_up, spent_at_draw, spent_at_look}
use Rattle.store_serve.proofs.Slots.{all_taken, claimed, evicted, freed, named, none_idle, published, wrote_slot}

-- To begin.

module _ {X : Type 0} {g : Ground X} where
  spent : (u w : View X) (versions : ℕ) → SpentAtLook g u versions w ⊎ SpentAtDraw g u versions w → GrowsTo u w
  spent u w versions (inl h) = spent_at_look h
  spent u w versions (inr h) = spent_at_draw h

module _ {X : Type 0} {g : Ground X} {t a : ℕ} {v : View X} where
  took_anchor : {n version : ℕ} {w : View X} → TookAnchor g t a v n version w → GrowsTo v w
  took_anchor h = on (by_step h.looks) (on (drew h.drew) (by_step h.takes))

  cleared : {n : ℕ} {taken w : View X} → WasVacant g t a v n taken w ⊎ WasIdle g t a v n taken w → GrowsTo taken w
  cleared (inl h) = same h.same
  cleared (inr h) = freed h.freed

  pub took : {n version : ℕ} {w : View X} → Took g t a v n version w → GrowsTo v w
  took h = on (took_anchor h.took) (cleared h.cleared)

  overtaken : {looked found : _} {w : View X} → Overtaken g t a v looked found w → GrowsTo v w
  overtaken h = on (by_step h.looks) (on (drew h.drew) (by_step h.misses))

  no_version : {versions : ℕ} {w : View X} → NoVersion g t a v versions w → GrowsTo v w
  no_version {versions} {w} h = on (by_step h.looks) (spent h.seen w versions h.spent)

module _ {X : Type 0} (g : Ground X) (t a : ℕ) (v : View X) where
  pub not_taken : (fault : BeginFault) (w : View X) → NotTaken g t a v fault w → GrowsTo v w
  not_taken LongUrl w e = same e
  not_taken (Busy looked found) w (inl h, _) = by_step h.looks
  not_taken (Busy looked found) w (inr h, _) = overtaken h
  not_taken (Spent versions) w h = no_version h

-- To reserve slots, and to write and publish pieces.

module _ {X : Type 0} {g : Ground X} {t hand : ℕ} {v : View X} where
  by_either : (slot after : ℕ) (w : View X) → ByClaim g t hand v slot w after ⊎ ByEviction g t hand v slot w after → GrowsTo v w
  by_either slot after w (inl h) = claimed h.claimed
  by_either slot after w (inr h) = on (all_taken h.none) (evicted h.evicted)

  reserved : {slot after : ℕ} {w : View X} → Reserved g t hand v slot w after → GrowsTo v w
  reserved {slot} {after} {w} h = by_either slot after w h.how

  ran_out : {w : View X} → RanOut g t hand v w → GrowsTo v w
  ran_out h = on (all_taken h.none) (none_idle h.busy)

module _ {X : Type 0} (g : Ground X) (t : ℕ) where
  slot_for : (hand : ℕ) (v : View X) (slot : ℕ) (w : View X) (after : ℕ) → SlotFor g t hand v slot w after → GrowsTo v w
  slot_for hand v slot w after (inl h) = same h.same
  slot_for hand v slot w after (inr h) = reserved h.reserved

  has_both : {hand slot next after : ℕ} {v w : View X} → HasBoth g t hand v slot next w after → GrowsTo v w
  has_both {hand} {slot} {next} {after} {v} {w} h = on (slot_for hand v slot h.middle h.hand_between h.for_piece) (reserved h.behind)

  lacks_next : {hand after : ℕ} {v w : View X} → LacksNext g t hand v w after → GrowsTo v w
  lacks_next {hand} {after} {v} {w} h = on (slot_for hand v h.slot h.middle after h.for_piece) (ran_out h.out)

  ran_short : (hand : ℕ) (v w : View X) (after : ℕ) → RanShort g t hand v w after → GrowsTo v w
  ran_short hand v w after (inl h) = ran_out h.1.out
  ran_short hand v w after (inr h) = lacks_next h

  wrote_piece : {durable : Bool} {slot : ℕ} {next : Option ℕ} {v w : View X} → WrotePiece g t durable slot next v w → GrowsTo v w
  wrote_piece {durable} {slot} {next} {v} {w} h = on (wrote_slot g t h.wrote) (published g t slot next h.written w h.publishes)

  raised : (v linked w : View X) → RaisedFirst g t v linked w ⊎ RaisedBefore g t v linked w → GrowsTo linked w
  raised v linked w (inl h) = by_step h.raises
  raised v linked w (inr h) = same h.same

  pub flushed : {hand after : ℕ} {durable : Bool} {v w : View X} → Flushed g t hand durable v w after → GrowsTo v w
  flushed {hand} {after} {durable} {v} {w} h = on (has_both h.both) (on (wrote_piece h.wrote) (raised v h.linked w h.raised))

  not_flushed : (hand : ℕ) (durable : Bool) (v : View X) (fault : WriteFault) (w : View X) (after : ℕ) → NotFlushed g t hand durable v fault w after → GrowsTo v w
  not_flushed hand durable v Large w after h = same h.0
  not_flushed hand durable v Full w after h = ran_short hand v w after h
  not_flushed hand durable v Fault w after h = on (has_both h.both) (wrote_slot g t h.wrote)

  wrote_last : {hand after : ℕ} {durable : Bool} {v w : View X} → WroteLast g t hand durable v w after → GrowsTo v w
  wrote_last {hand} {after} {durable} {v} {w} h = on (slot_for hand v h.slot h.reserved after h.for_piece) (wrote_piece h.wrote)

  not_written_last : (hand : ℕ) (durable : Bool) (v : View X) (fault : WriteFault) (w : View X) (after : ℕ) → NotWrittenLast g t hand durable v fault w after → GrowsTo v w
  not_written_last hand durable v Large w after h = absurd h
  not_written_last hand durable v Full w after h = ran_out h.1.out
  not_written_last hand durable v Fault w after h = on (slot_for hand v h.slot h.reserved after h.for_piece) (wrote_slot g t h.wrote)

  -- To part and to halt.

  gave_back : (slot : Option ℕ) (v w : View X) → GaveBack g t slot v w → GrowsTo v w
  gave_back None v w e = same e
  gave_back (Some slot) v w h = by_step h.step

  gave_unlinked : {v w : View X} → GaveUnlinked g t v w → GrowsTo v w
  gave_unlinked {v} {w} h = on (gave_back (second_of (tab_at v t)) v h.middle h.second) (gave_back (first_of (tab_at v t)) h.middle w h.first)

  parting : (v w : View X) → Stayed g t v w ⊎ LeftToOther g t v w ⊎ FreedLast g t v w → GrowsTo v w
  parting v w (inl h) = same h.same
  parting v w (inr (inl h)) = given_up h.gives_up
  parting v w (inr (inr h)) = on (given_up h.gives_up) (freed h.freed)

  pub parted : {v w : View X} → Parted g t v w → GrowsTo v w
  parted {v} {w} h = parting v w h.parting

  pub halts : {v w : View X} → Halts g t v w → GrowsTo v w
  halts h = on (gave_unlinked h.gave) (on (by_step h.raises) (parted h.parted))

-- The calls.

module _ {C O : Type 0} (tells : Bool) (state : C → CellState) (offers : O → Offers) (s : Store C O) (t : ℕ) where
  g : Ground (List ℕ)
  g = basis tells state offers s

  pub began : {offer version : ℕ} {url : List ℕ} {durable : Bool} {p q : Pass C} → Began tells state offers s t offer url durable p q version → GrowsTo (view p) (view q)
  began h = on (took h.took) (named h.named)

  module _ (e : Entry) where
    how : (bytes : List ℕ) (p q : Pass C) (count : ℕ) → TookNone tells state offers s t e bytes p q count ⊎ TookHere tells state offers s t e bytes p q count ⊎ TookBehind tells state offers s t e bytes p q count → GrowsTo (view p) (view q)
    how bytes p q count (inl h) = same h.same
    how bytes p q count (inr (inl h)) = same h.same
    how bytes p q count (inr (inr h)) = flushed (basis tells state offers s) t h.flushed

    pub appended : {bytes : List ℕ} {p q : Pass C} {count : ℕ} → Appended tells state offers s t e bytes p q count → GrowsTo (view p) (view q)
    appended {bytes} {p} {q} {count} h = how bytes p q count h.how

    pub not_appended : {bytes : List ℕ} {p q : Pass C} {fault : WriteFault} → NotAppended tells state offers s t e bytes p q fault → GrowsTo (view p) (view q)
    not_appended {bytes} {p} {q} {fault} h = on (not_flushed (basis tells state offers s) t p.hand e.is_durable (view p) fault h.middle q.hand h.stopped) (halts (basis tells state offers s) t h.halts)

    pub finished : {p q : Pass C} {ended : Ended} → Finished tells state offers s t e p q ended → GrowsTo (view p) (view q)
    finished h = on (wrote_last (basis tells state offers s) t h.wrote) (on (by_step h.closes) (parted (basis tells state offers s) t h.parted))

    pub not_finished : {p q : Pass C} {fault : WriteFault} → NotFinished tells state offers s t e p q fault → GrowsTo (view p) (view q)
    not_finished {p} {q} {fault} h = on (not_written_last (basis tells state offers s) t p.hand e.is_durable (view p) fault h.middle q.hand h.stopped) (halts (basis tells state offers s) t h.halts)
