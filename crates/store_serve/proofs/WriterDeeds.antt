-- What calls of the writer draw and do.
use Rattle.std.proofs.Common.{Bool, Contains, List, None, Option, Some, [], ap, arith, cond, eq-eqb, false, inl, inr, ne_eqb, refl, subst, sym, true, ◌==◌, ◌≡◌, ◌⊎◌, ◌∙◌, ◌∷◌, ⊎_elim, ℕ}
use Rattle.lock_word.specs.declared.stage.Stage.TheVariants.{Appending, Closed, Halted}
use Rattle.lock_word.specs.declared.word.Word.{Word}
use Rattle.lock_word.specs.Words.{is_idle, word_at, word_number}
use Rattle.rock_disk.specs.Cell.{CellState}
use Rattle.core_model.specs.AnchorMoves.{deed_of}
use Rattle.core_model.specs.Table.{deeds_of}
use Rattle.core_model.specs.Tabs.{tab_at}
use Rattle.core_model.specs.Trails.{last_find}
use Rattle.core_model.specs.declared.moves.Move.TheVariants.{Take}
use Rattle.core_model.specs.declared.view.Deed.{Deed}
use Rattle.core_model.specs.declared.view.Item.{Item}
use Rattle.core_model.specs.declared.view.Kind.TheVariants.{Changed, Counted, Drew}
use Rattle.core_model.specs.declared.view.Sight.{Sight}
use Rattle.core_model.specs.declared.view.View.{View}
use Rattle.store_rule.specs.declared.store.Pass.{Pass}
use Rattle.store_rule.specs.declared.store.Store.{Store}
use Rattle.store_rule.specs.Ground.{Ground, Offers, anchor_for}
use Rattle.store_rule.specs.Passes.{basis, view}
use Rattle.store_rule.proofs.Passing.{pass_of}
use Rattle.rw_anchor.specs.Calls.{SpentAtDraw, SpentAtLook}
use Rattle.rock_writer.specs.declared.fault.BeginFault.{BeginFault}
use Rattle.rock_writer.specs.declared.fault.BeginFault.TheVariants.{Busy, LongUrl, Spent}
use Rattle.rock_writer.specs.declared.fault.Ended.{Ended}
use Rattle.rock_writer.specs.declared.fault.WriteFault.{WriteFault}
use Rattle.rock_writer.specs.declared.fault.WriteFault.TheVariants.{Fault, Full, Large}
use Rattle.rock_writer.specs.Appending.{Appended, NotAppended, TookBehind, TookHere, TookNone}
use Rattle.rock_writer.specs.Beginning.{Began, InUse, NoVersion, NotTaken, Overtaken, Took, TookAnchor, WasIdle, WasVacant}
use Rattle.rock_writer.specs.Entries.{Entry, WritesAs}
use Rattle.rock_writer.specs.Finishing.{Finished, NotFinished, NotWrittenLast, WroteLast}
use Rattle.rock_writer.specs.Flushing.{Flushed, HasBoth, LacksNext, NotFlushed, RaisedBefore, RaisedFirst, RanShort, SlotFor, WrotePiece}
use Rattle.rock_writer.specs.Halting.{FreedLast, GaveBack, GaveUnlinked, Halts, LeftToOther, Parted, Stayed, first_of, second_of}
use Rattle.rock_writer.specs.Reserving.{ByClaim, ByEviction, RanOut, Reserved}
use Rattle.slice_chain.specs.Writes.{WroteSlot}
use Rattle.store_serve.specs.Acting.{Acted}
use Rattle.store_serve.specs.Refusing.{CountedAll, DrewInVain, NotBegunBy}
use Rattle.store_serve.specs.Deeds.{HasNames, IsGone, Naming, OfBeginning, OfClosing, OfHalting, OfLeaving, OfPublishing, OfRefusing, OfReserving, Takes, name_of}
use Rattle.store_serve.proofs.Grown as grown
use Rattle.store_serve.proofs.AddingUp.{behind, by_step, none_there, on, only_one, quiet_step, same, wider}
use Rattle.store_serve.proofs.AnchorDeeds.{drew, given_up, spent_at_draw, spent_at_look}
use Rattle.store_serve.proofs.SlotDeeds.{all_taken, claimed, evicted_one, freed, named, none_idle, published, wrote_slot}
use Rattle.store_serve.proofs.EntryTabs.{HasEntry, IsEntryOf, appending_tab, gave_tab, names_on, published_names, published_tab, raise_acted, raises, reserved_tab, same_view, searched_tab, wrote_tab}

-- To begin.

module _ {X : Type 0} where
  take_done : (a version n : ℕ) (u : View X) (b : Bool) (d : Deed) → Contains (cond b (deed_of u Changed a (word_at version 1) (is_idle n) ∷ []) []) d → (d.pass ≡ u.pass) × Takes a version d
  take_done a version n u true d c = let is = only_one (deed_of u Changed a (word_at version 1) (is_idle n)) d c in
      (ap Deed.pass (sym is), subst (Takes a version) is (record { kind = refl; anchor = refl; epoch = omega arith }))
  take_done a version n u false d c = absurd (none_there d c)

module _ {X : Type 0} {g : Ground X} {t a : ℕ} {v : View X} where
  took_anchor : {n version : ℕ} {w : View X} → TookAnchor g t a v n version w → Acted (Some version) (Takes a version) v w
  took_anchor {n} {version} {w} h = on (behind (quiet_step h.looks refl refl) (drew h.drew)) (by_step h.takes refl (take_done a version n h.drawn (n == last_find a h.drawn.trail)))

  cleared : {n : ℕ} {taken w : View X} → WasVacant g t a v n taken w ⊎ WasIdle g t a v n taken w → Acted None IsGone taken w
  cleared (inl h) = same h.same
  cleared (inr h) = freed h.freed

  pub took : {n version : ℕ} {w : View X} → Took g t a v n version w → Acted (Some version) (OfBeginning a version) v w
  took h = on (wider (λ d x. inl x) (took_anchor h.took)) (wider (λ d x. inr x) (cleared h.cleared))

  -- the word that was looked at is the last find still, once a version was drawn behind that
  found_still : {looked found : Word} {w : View X} (h : Overtaken g t a v looked found w) → last_find a h.drawn.trail ≡ word_number looked
  found_still {looked} {found} {w} h = ap (last_find a) (ap View.trail h.drew.draw.leaves) ∙ ap (last_find a) (ap View.trail h.drew.look.leaves) ∙ ap (last_find a) (ap View.trail h.looks.leaves) ∙ here
    where
      here : cond (a == a) (word_number looked) (last_find a v.trail) ≡ word_number looked
      here = let e = eq-eqb a a refl in rw e refl

  pub overtaken : {P : Deed → Type 0} {looked found : Word} {w : View X} (h : Overtaken g t a v looked found w) → Acted (Some h.version) P v w
  overtaken {P} {looked} {found} {w} h = on (behind (quiet_step h.looks refl refl) (drew h.drew)) (quiet_step h.misses refl none)
    where
      none : deeds_of h.drawn (Take t a h.version) (word_number found) ≡ []
      none = let e = ne_eqb (word_number found) (last_find a h.drawn.trail) (λ z. h.other (z ∙ found_still h)) in rw e refl

  pub in_use : {P : Deed → Type 0} {looked found : Word} {w : View X} → InUse g t a v looked found w → Acted None P v w
  in_use h = quiet_step h.looks refl refl

  module _ {versions : ℕ} {w : View X} (h : NoVersion g t a v versions w) where
    counted_all : SpentAtLook g h.seen versions w → CountedAll v w versions
    counted_all k = record {
      limit = k.spent;
      acted = behind (quiet_step h.looks refl refl) (spent_at_look k);
      found = subst (λ (z : List Item). Contains z record { kind = Counted; at = 0; found = versions }) (sym (ap View.trail k.look.leaves)) (0, omega arith, refl);
    }

    drew_in_vain : SpentAtDraw g h.seen versions w → DrewInVain v w versions
    drew_in_vain k = record {
      limit = k.spent;
      acted = behind (quiet_step h.looks refl refl) (spent_at_draw k);
      found = subst (λ (z : List Item). Contains z record { kind = Drew; at = 0; found = versions }) (sym (ap View.trail k.draw.leaves)) (0, omega arith, refl);
    }

    pub no_version : CountedAll v w versions ⊎ DrewInVain v w versions
    no_version = ⊎_elim (λ k. inl (counted_all k)) (λ k. inr (drew_in_vain k)) h.spent

module _ {X : Type 0} (g : Ground X) (t a : ℕ) (v : View X) where
  pub not_taken : (fault : BeginFault) (w : View X) → NotTaken g t a v fault w → NotBegunBy v w fault
  not_taken LongUrl w e = same e
  not_taken (Busy looked found) w (inl h, _) = (None, in_use h)
  not_taken (Busy looked found) w (inr h, _) = (Some h.version, overtaken h)
  not_taken (Spent versions) w h = no_version h

-- To reserve slots, and to write and publish pieces.

module _ {X : Type 0} {g : Ground X} {t hand : ℕ} {v : View X} where
  by_either : (slot after : ℕ) (w : View X) → ByClaim g t hand v slot w after ⊎ ByEviction g t hand v slot w after → Acted None (OfReserving g) v w
  by_either slot after w (inl h) = claimed h.claimed
  by_either slot after w (inr h) = on (all_taken h.none) (evicted_one h.evicted)

  reserved : {slot after : ℕ} {w : View X} → Reserved g t hand v slot w after → Acted None (OfReserving g) v w
  reserved {slot} {after} {w} h = by_either slot after w h.how

  ran_out : {P : Deed → Type 0} {w : View X} → RanOut g t hand v w → Acted None P v w
  ran_out h = on (all_taken h.none) (none_idle h.busy)

-- between the views the pass did such deeds, and the tab writes this entry still
pub record Wrote {X : Type 0} (t : ℕ) (n : Naming) (P : Deed → Type 0) (v w : View X) : Type 0 where
  pub acted : Acted None P v w
  pub entry : HasEntry t n w

-- and a slot of it was published
pub record WroteSome {X : Type 0} (t : ℕ) (n : Naming) (P : Deed → Type 0) (v w : View X) : Type 0 where
  pub wrote : Wrote t n P v w
  pub names : HasNames n w.seen

pub publishing_on : {X : Type 0} (g : Ground X) (n : Naming) (seen all : List Sight) (d : Deed) → ((x : Sight) → Contains seen x → Contains all x) → OfPublishing g n seen d → OfPublishing g n all d
publishing_on g n seen all d f (inl h) = inl (record { raised = h.raised; names = names_on h.names f })
publishing_on g n seen all d f (inr h) = inr h

module _ {X : Type 0} (g : Ground X) (t : ℕ) (n : Naming) where
  reserved_for : {hand slot after : ℕ} {v w : View X} → HasEntry t n v → Reserved g t hand v slot w after → Wrote t n (OfReserving g) v w
  reserved_for {hand} {slot} {after} {v} {w} h k = record { acted = reserved k; entry = reserved_tab slot h k.tabs }

  ran_out_for : {P : Deed → Type 0} {hand : ℕ} {v w : View X} → HasEntry t n v → RanOut g t hand v w → Wrote t n P v w
  ran_out_for h k = record { acted = ran_out k; entry = searched_tab k.none.claim h k.tabs }

  onto : {P : Deed → Type 0} {u v w : View X} → Wrote t n P u v → Wrote t n P v w → Wrote t n P u w
  onto h k = record { acted = on h.acted k.acted; entry = k.entry }

  slot_for : (hand : ℕ) (v : View X) (slot : ℕ) (w : View X) (after : ℕ) → HasEntry t n v → SlotFor g t hand v slot w after → Wrote t n (OfReserving g) v w
  slot_for hand v slot w after h (inl k) = record { acted = same k.same; entry = same_view h k.same }
  slot_for hand v slot w after h (inr k) = reserved_for h k.reserved

  pub has_both : {hand slot next after : ℕ} {v w : View X} → HasEntry t n v → HasBoth g t hand v slot next w after → Wrote t n (OfReserving g) v w
  has_both {hand} {slot} {next} {after} {v} {w} h k = let first = slot_for hand v slot k.middle k.hand_between h k.for_piece in onto first (reserved_for first.entry k.behind)

  lacks_next : {hand after : ℕ} {v w : View X} → HasEntry t n v → LacksNext g t hand v w after → Wrote t n (OfReserving g) v w
  lacks_next {hand} {after} {v} {w} h k = let first = slot_for hand v k.slot k.middle after h k.for_piece in onto first (ran_out_for first.entry k.out)

  ran_short : (hand : ℕ) (v w : View X) (after : ℕ) → HasEntry t n v → RanShort g t hand v w after → Wrote t n (OfReserving g) v w
  ran_short hand v w after h (inl k) = ran_out_for h k.1.out
  ran_short hand v w after h (inr k) = lacks_next h k

  pub wrote_one : {P : Deed → Type 0} {durable done : Bool} {v w : View X} → HasEntry t n v → WroteSlot g t v durable done w → Wrote t n P v w
  wrote_one h k = record { acted = wrote_slot g t k; entry = wrote_tab h k }

  wrote_piece : {P : Deed → Type 0} {durable : Bool} {slot : ℕ} {next : Option ℕ} {v w : View X} → HasEntry t n v → WrotePiece g t durable slot next v w → WroteSome t n P v w
  wrote_piece {P} {durable} {slot} {next} {v} {w} h k = let first = wrote_one h k.wrote in record {
    wrote = onto first (record { acted = published g t slot next k.written w k.publishes; entry = published_tab slot next k.written w first.entry k.publishes });
    names = published_names slot next k.written w first.entry k.publishes;
  }

  raised : (v linked w : View X) → HasEntry t n linked → HasNames n linked.seen → RaisedFirst g t v linked w ⊎ RaisedBefore g t v linked w → Wrote t n (OfPublishing g n w.seen) linked w
  raised v linked w h names (inl k) = record {
    acted = raise_acted Appending h k.raises (omega arith) (omega arith) (inl (record { raised = raises Appending h k.raises (omega arith) (omega arith); names = names_on names (grown.by_step k.raises).seen }));
    entry = appending_tab h k.raises;
  }
  raised v linked w h names (inr k) = record { acted = same k.same; entry = same_view h k.same }

  slots : {v w : View X} (seen : List Sight) → Wrote t n (OfReserving g) v w → Wrote t n (OfPublishing g n seen) v w
  slots seen h = record { acted = wider (λ d x. inr x) h.acted; entry = h.entry }

  flushed : {hand after : ℕ} {durable : Bool} {v w : View X} → HasEntry t n v → Flushed g t hand durable v w after → Wrote t n (OfPublishing g n w.seen) v w
  flushed {hand} {after} {durable} {v} {w} h k = let first = slots w.seen (has_both h k.both) in
      let second = wrote_piece {P = OfPublishing g n w.seen} first.entry k.wrote in
      onto (onto first second.wrote) (raised v k.linked w second.wrote.entry second.names k.raised)

  not_flushed : (hand : ℕ) (durable : Bool) (v : View X) (fault : WriteFault) (w : View X) (after : ℕ) → HasEntry t n v → NotFlushed g t hand durable v fault w after → Wrote t n (OfReserving g) v w
  not_flushed hand durable v Large w after h k = record { acted = same k.0; entry = same_view h k.0 }
  not_flushed hand durable v Full w after h k = ran_short hand v w after h k
  not_flushed hand durable v Fault w after h k = let first = has_both h k.both in onto first (wrote_one first.entry k.wrote)

  wrote_last : {hand after : ℕ} {durable : Bool} {v w : View X} → HasEntry t n v → WroteLast g t hand durable v w after → WroteSome t n (OfReserving g) v w
  wrote_last {hand} {after} {durable} {v} {w} h k = let first = slot_for hand v k.slot k.reserved after h k.for_piece in
      let second = wrote_piece {P = OfReserving g} first.entry k.wrote in record { wrote = onto first second.wrote; names = second.names }

  not_written_last : (hand : ℕ) (durable : Bool) (v : View X) (fault : WriteFault) (w : View X) (after : ℕ) → HasEntry t n v → NotWrittenLast g t hand durable v fault w after → Wrote t n (OfReserving g) v w
  not_written_last hand durable v Large w after h k = absurd k
  not_written_last hand durable v Full w after h k = ran_out_for h k.1.out
  not_written_last hand durable v Fault w after h k = let first = slot_for hand v k.slot k.reserved after h k.for_piece in onto first (wrote_one first.entry k.wrote)

  -- To part and to halt.

  gave_back : {P : Deed → Type 0} (slot : Option ℕ) (v w : View X) → HasEntry t n v → GaveBack g t slot v w → Wrote t n P v w
  gave_back None v w h e = record { acted = same e; entry = same_view h e }
  gave_back (Some slot) v w h k = record { acted = quiet_step k.step refl refl; entry = gave_tab h k.step }

  gave_unlinked : {P : Deed → Type 0} {v w : View X} → HasEntry t n v → GaveUnlinked g t v w → Wrote t n P v w
  gave_unlinked {P} {v} {w} h k = let first = gave_back {P = P} (second_of (tab_at v t)) v k.middle h k.second in onto first (gave_back (first_of (tab_at v t)) k.middle w first.entry k.first)

  parting : (v w : View X) → Stayed g t v w ⊎ LeftToOther g t v w ⊎ FreedLast g t v w → Acted None OfLeaving v w
  parting v w (inl h) = same h.same
  parting v w (inr (inl h)) = wider (λ d x. inl x) (given_up h.was h.gives_up)
  parting v w (inr (inr h)) = on (wider (λ d x. inl x) (given_up h.was h.gives_up)) (wider (λ d x. inr x) (freed h.freed))

  parted : {v w : View X} → Parted g t v w → Acted None OfLeaving v w
  parted {v} {w} h = parting v w h.parting

  pub halts : {v w : View X} → HasEntry t n v → Halts g t v w → Acted None (OfHalting n.anchor n.version) v w
  halts {v} {w} h k = let first = gave_unlinked {P = OfHalting n.anchor n.version} h k.gave in
      on (on first.acted (raise_acted Halted first.entry k.raises (omega arith) (omega arith) (inl (raises Halted first.entry k.raises (omega arith) (omega arith)))))
      (wider (λ d x. inr x) (parted k.parted))

-- The calls.

module _ {C O : Type 0} (tells : Bool) (state : C → CellState) (offers : O → Offers) (s : Store C O) (t : ℕ) where
  pub began : {offer version : ℕ} {url : List ℕ} {durable : Bool} {p q : Pass C} → Began tells state offers s t offer url durable p q version
      → Acted (Some version) (OfBeginning (anchor_for (basis tells state offers s) url) version) (view p) (view q)
  began h = on (took h.took) (named h.named)

  module _ (e : Entry) where
    pub entry_of : {p : Pass C} → WritesAs tells state offers s p t e → HasEntry t (name_of (basis tells state offers s) e) (view p)
    entry_of {p} h = record { pass = pass_of p; below = h.rests.below; writes = subst (λ x. IsEntryOf (name_of (basis tells state offers s) e) x) (sym h.rests.is) (refl, refl, refl, refl, refl) }

    how : (bytes : List ℕ) (p q : Pass C) (count : ℕ) → HasEntry t (name_of (basis tells state offers s) e) (view p) → TookNone tells state offers s t e bytes p q count ⊎ TookHere tells state offers s t e bytes p q count ⊎ TookBehind tells state offers s t e bytes p q count
        → Acted None (OfPublishing (basis tells state offers s) (name_of (basis tells state offers s) e) (view q).seen) (view p) (view q)
    how bytes p q count h (inl k) = same k.same
    how bytes p q count h (inr (inl k)) = same k.same
    how bytes p q count h (inr (inr k)) = (flushed (basis tells state offers s) t (name_of (basis tells state offers s) e) h k.flushed).acted

    pub appended : {bytes : List ℕ} {p q : Pass C} {count : ℕ} → HasEntry t (name_of (basis tells state offers s) e) (view p) → Appended tells state offers s t e bytes p q count → Acted None (OfPublishing (basis tells state offers s) (name_of (basis tells state offers s) e) (view q).seen) (view p) (view q)
    appended {bytes} {p} {q} {count} h k = how bytes p q count h k.how

    pub not_appended : {bytes : List ℕ} {p q : Pass C} {fault : WriteFault} → HasEntry t (name_of (basis tells state offers s) e) (view p) → NotAppended tells state offers s t e bytes p q fault → Acted None (OfRefusing (basis tells state offers s) e.anchor e.version) (view p) (view q)
    not_appended {bytes} {p} {q} {fault} h k = let first = not_flushed (basis tells state offers s) t (name_of (basis tells state offers s) e) p.hand e.is_durable (view p) fault k.middle q.hand h k.stopped in
        on (wider (λ d x. inl x) first.acted) (wider (λ d x. inr x) (halts (basis tells state offers s) t (name_of (basis tells state offers s) e) first.entry k.halts))

    pub finished : {p q : Pass C} {ended : Ended} → HasEntry t (name_of (basis tells state offers s) e) (view p) → Finished tells state offers s t e p q ended → Acted None (OfClosing (basis tells state offers s) (name_of (basis tells state offers s) e) (view q).seen ended) (view p) (view q)
    finished {p} {q} {ended} h k = let first = wrote_last (basis tells state offers s) t (name_of (basis tells state offers s) e) h k.wrote in
        let parts = parted (basis tells state offers s) t (name_of (basis tells state offers s) e) k.parted in
        let names : HasNames (name_of (basis tells state offers s) e) (view q).seen = names_on first.names (λ x c. parts.keeps.seen x ((grown.by_step k.closes).seen x c)) in
        on (on (wider (λ d x. inr (inl x)) first.wrote.acted) (raise_acted Closed first.wrote.entry k.closes (omega arith) (omega arith)
        (inl (record { raised = record { raised = raises Closed first.wrote.entry k.closes (omega arith) (omega arith); names = names }; answered = k.version; doomed = k.doomed }))))
        (wider (λ d x. inr (inr x)) parts)

    pub not_finished : {p q : Pass C} {fault : WriteFault} → HasEntry t (name_of (basis tells state offers s) e) (view p) → NotFinished tells state offers s t e p q fault → Acted None (OfRefusing (basis tells state offers s) e.anchor e.version) (view p) (view q)
    not_finished {p} {q} {fault} h k = let first = not_written_last (basis tells state offers s) t (name_of (basis tells state offers s) e) p.hand e.is_durable (view p) fault k.middle q.hand h k.stopped in
        on (wider (λ d x. inl x) first.acted) (wider (λ d x. inr x) (halts (basis tells state offers s) t (name_of (basis tells state offers s) e) first.entry k.halts))
