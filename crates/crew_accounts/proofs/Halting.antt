-- What a pass has seen of an entry that it gave up, and of one that it closed.
use Rattle.std.proofs.Common.{Bool, Contains, List, None, Option, Some, [], ap, arith, inl, inr, subst, sym, ◌-◌, ◌<◌, ◌∷◌, ◌≡◌, ℕ}
use Rattle.lock_word.specs.declared.stage.Stage.TheVariants.{Closed, Halted}
use Rattle.lock_word.specs.Words.{IsWord, epoch_of, mode_of, raised, stage_of, version_of as version_in}
use Rattle.lock_word.proofs.Raising.{is_word-raised}
use Rattle.rock_disk.specs.Cell.{CellState}
use Rattle.core_model.specs.Table.{left_by}
use Rattle.core_model.specs.Tabs.{stage_held, tab_at}
use Rattle.core_model.specs.declared.moves.Move.TheVariants.{Raise}
use Rattle.core_model.specs.declared.view.Sight.{Sight}
use Rattle.core_model.specs.declared.view.Sight.TheVariants.{Stood}
use Rattle.core_model.specs.declared.view.View.{View}
use Rattle.store_rule.specs.declared.store.Pass.{Pass}
use Rattle.store_rule.specs.declared.store.Store.{Store}
use Rattle.store_rule.specs.Ground.{Ground, Offers}
use Rattle.store_rule.specs.Passes.{basis, view}
use Rattle.store_rule.proofs.Moves.{known_of}
use Rattle.rock_writer.specs.declared.fault.Ended.{Ended}
use Rattle.rock_writer.specs.declared.fault.WriteFault.{WriteFault}
use Rattle.rock_writer.specs.declared.fault.WriteFault.TheVariants.{Fault, Full, Large}
use Rattle.rock_writer.specs.Appending.{NotAppended}
use Rattle.rock_writer.specs.Beginning.{begun}
use Rattle.rock_writer.specs.Entries.{Entry, WritesAs}
use Rattle.rock_writer.specs.Finishing.{Finished, NotFinished, NotWrittenLast}
use Rattle.rock_writer.specs.Flushing.{NotFlushed, RanShort, SlotFor}
use Rattle.rock_writer.specs.Halting.{GaveBack, GaveUnlinked, Halts, first_of, second_of}
use Rattle.store_serve.specs.Adding.{Call, NotAdded, Took, taken_on}
use Rattle.store_serve.specs.Storing.{GaveUpPut, NotEnded, left_of}
use Rattle.store_serve.specs.Deeds.{HasNames, Naming, name_of}
use Rattle.store_serve.proofs.EntryTabs.{HasEntry, gave_tab, names_on, published_names, published_tab, raises, reserved_tab, same_view, searched_tab, wrote_tab}
use Rattle.store_serve.proofs.Grown.{by_step}
use Rattle.store_serve.proofs.WriterDeeds.{entry_of, has_both}
use Rattle.store_serve.proofs.Writers.{parted}

-- the pass has seen the version at HALTED
pub record SeenHalted (n : Naming) (sights : List Sight) : Type 0 where
  pub epoch : ℕ
  pub version_is : version_in epoch ≡ n.version
  pub halted : stage_of epoch ≡ 4
  pub seen : Contains sights (Stood n.anchor epoch)

-- the first sight
first_seen : (a b e : ℕ) (rest all : List Sight) → all ≡ Stood a e ∷ rest → a ≡ b → Contains all (Stood b e)
first_seen a b e rest all is same = subst (λ (z : List Sight). Contains z (Stood b e)) (sym is) (0, omega arith, ap (λ c. Stood c e) same)

-- a word that was raised to CLOSED is a word
raised_mode : (n held : ℕ) → IsWord n → stage_of (epoch_of n) ≡ held → mode_of (epoch_of (raised n (3 - held))) < 16
raised_mode n held good stage = (is_word-raised n (3 - held) good (let low = good.stage in omega arith)).mode

module _ {X : Type 0} (g : Ground X) (t : ℕ) (n : Naming) where
  gave_entry : (slot : Option ℕ) (v w : View X) → HasEntry t n v → GaveBack g t slot v w → HasEntry t n w
  gave_entry None v w h e = same_view h e
  gave_entry (Some slot) v w h k = gave_tab h k.step

  unlinked_entry : (v w : View X) → HasEntry t n v → GaveUnlinked g t v w → HasEntry t n w
  unlinked_entry v w h k = gave_entry (first_of (tab_at v t)) k.middle w (gave_entry (second_of (tab_at v t)) v k.middle h k.second) k.first

  pub halts_seen : (v w : View X) → HasEntry t n v → Halts g t v w → SeenHalted n w.seen
  halts_seen v w h k =
      let raise = raises Halted (unlinked_entry v k.middle h k.gave) k.raises (omega arith) (omega arith) in
      record {
        epoch = epoch_of (left_by k.middle (Raise t Halted) k.word);
        version_is = raise.version_is;
        halted = raise.stage_is;
        seen = (parted g t k.parted).seen _ (first_seen _ n.anchor _ k.middle.seen k.raised.seen (ap View.seen k.raises.leaves) raise.anchor);
      }

  -- the tab writes the entry still while a slot is sought and written
  pub slot_entry : (hand : ℕ) (v : View X) (slot : ℕ) (w : View X) (after : ℕ) → HasEntry t n v → SlotFor g t hand v slot w after → HasEntry t n w
  slot_entry hand v slot w after h (inl k) = same_view h k.same
  slot_entry hand v slot w after h (inr k) = reserved_tab slot h k.reserved.tabs

  short_entry : (hand : ℕ) (v w : View X) (after : ℕ) → HasEntry t n v → RanShort g t hand v w after → HasEntry t n w
  short_entry hand v w after h (inl k) = searched_tab k.1.out.none.claim h k.1.out.tabs
  short_entry hand v w after h (inr k) = searched_tab k.out.none.claim (slot_entry hand v k.slot k.middle after h k.for_piece) k.out.tabs

  pub flushed_entry : (hand : ℕ) (durable : Bool) (v : View X) (fault : WriteFault) (w : View X) (after : ℕ) → HasEntry t n v → NotFlushed g t hand durable v fault w after → HasEntry t n w
  flushed_entry hand durable v Large w after h k = same_view h k.0
  flushed_entry hand durable v Full w after h k = short_entry hand v w after h k
  flushed_entry hand durable v Fault w after h k = wrote_tab (has_both g t n h k.both).entry k.wrote

  pub last_entry : (hand : ℕ) (durable : Bool) (v : View X) (fault : WriteFault) (w : View X) (after : ℕ) → HasEntry t n v → NotWrittenLast g t hand durable v fault w after → HasEntry t n w
  last_entry hand durable v Large w after h k = absurd k
  last_entry hand durable v Full w after h k = searched_tab k.1.out.none.claim h k.1.out.tabs
  last_entry hand durable v Fault w after h k = wrote_tab (slot_entry hand v k.slot k.reserved after h k.for_piece) k.wrote

module _ {C O : Type 0} (tells : Bool) (state : C → CellState) (offers : O → Offers) (s : Store C O) (t : ℕ) where
  module _ (e : Entry) where
    abbrev n : Naming
    n = name_of (basis tells state offers s) e

    appended_seen : (p q : Pass C) (bytes : List ℕ) (fault : WriteFault) → HasEntry t n (view p) → NotAppended tells state offers s t e bytes p q fault → SeenHalted n (view q).seen
    appended_seen p q bytes fault h k = halts_seen (basis tells state offers s) t n k.middle (view q) (flushed_entry (basis tells state offers s) t n p.hand e.is_durable (view p) fault k.middle q.hand h k.stopped) k.halts

    finished_seen : (p q : Pass C) (fault : WriteFault) → HasEntry t n (view p) → NotFinished tells state offers s t e p q fault → SeenHalted n (view q).seen
    finished_seen p q fault h k = halts_seen (basis tells state offers s) t n k.middle (view q) (last_entry (basis tells state offers s) t n p.hand e.is_durable (view p) fault k.middle q.hand h k.stopped) k.halts

  took_entry : (e : Entry) (p : Pass C) (calls : List (Call C)) (q : Pass C) (total : ℕ) → HasEntry t (name_of (basis tells state offers s) e) (view p) → Took tells state offers s t e p calls q total → HasEntry t (name_of (basis tells state offers s) e) (view q)
  took_entry e p [] q total h k = same_view h (ap view k.0)
  took_entry e p (c ∷ earlier) q total h k = same_view (entry_of tells state offers s t _ k.3.writes) (ap view k.4)

  pub not_added_seen : (e : Entry) (p q : Pass C) (fault : WriteFault) → WritesAs tells state offers s p t e → NotAdded tells state offers s t e p q fault → SeenHalted (name_of (basis tells state offers s) e) (view q).seen
  not_added_seen e p q fault writes k = appended_seen (taken_on e k.total) k.middle q k.bytes fault (took_entry e p k.calls k.middle k.total (entry_of tells state offers s t e writes) k.took) k.stopped

  pub not_ended_seen : (e : Entry) (p q : Pass C) (fault : WriteFault) → WritesAs tells state offers s p t e → NotEnded tells state offers s t e p q fault → SeenHalted (name_of (basis tells state offers s) e) (view q).seen
  not_ended_seen e p q fault writes (inl k) = not_added_seen e p q fault writes k
  not_ended_seen e p q fault writes (inr k) = finished_seen (taken_on e (left_of tells state offers s t e p k.middle)) k.middle q fault (entry_of tells state offers s t _ k.added.writes) k.stopped

  pub gave_up_seen : (offer : ℕ) (url : List ℕ) (durable : Bool) (p q : Pass C) (fault : WriteFault) → (k : GaveUpPut tells state offers s t offer url durable p q fault)
      → SeenHalted (name_of (basis tells state offers s) (begun tells state offers s t offer url durable p q k.version)) (view q).seen
  gave_up_seen offer url durable p q fault k = not_ended_seen (begun tells state offers s t offer url durable p k.middle k.version) k.middle q fault k.began.writes k.stopped

  -- Where an entry was closed, the pass has seen its key and its offer.
  module _ (e : Entry) (p q : Pass C) where
    pub finished_names : {ended : Ended} → HasEntry t (name_of (basis tells state offers s) e) (view p) → Finished tells state offers s t e p q ended → HasNames (name_of (basis tells state offers s) e) (view q).seen
    finished_names h k =
        let g = basis tells state offers s in
        let last = k.wrote in
        let reserved = slot_entry g t (name_of g e) p.hand (view p) last.slot last.reserved q.hand h last.for_piece in
        let written = wrote_tab reserved last.wrote.wrote in
        let names = published_names last.slot None last.wrote.written k.linked written last.wrote.publishes in
        names_on names (λ x c. (parted g t k.parted).seen x ((by_step k.closes).seen x c))

    -- It was closed at stage 3, with its version.
    pub finished_word : {ended : Ended} (h : HasEntry t (name_of (basis tells state offers s) e) (view p)) (k : Finished tells state offers s t e p q ended)
        → (stage_of (epoch_of (left_by k.linked (Raise t Closed) k.word)) ≡ 3) × (version_in (epoch_of (left_by k.linked (Raise t Closed) k.word)) ≡ e.version) × (mode_of (epoch_of (left_by k.linked (Raise t Closed) k.word)) < 16)
    finished_word h k =
        let g = basis tells state offers s in
        let last = k.wrote in
        let reserved = slot_entry g t (name_of g e) p.hand (view p) last.slot last.reserved q.hand h last.for_piece in
        let linked = published_tab last.slot None last.wrote.written k.linked (wrote_tab reserved last.wrote.wrote) last.wrote.publishes in
        let raise = raises Closed linked k.closes (omega arith) (omega arith) in
        let told = (known_of g k.linked (Raise t Closed) k.word k.closed k.closes).anchors in
        (raise.stage_is, raise.version_is, raised_mode k.word (stage_held (tab_at k.linked t)) told.0.good told.1)
