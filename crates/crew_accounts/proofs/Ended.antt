-- An entry that was written to its end: what its pass has seen, and the epoch that this left.
use Rattle.std.proofs.Common.{Bool, None, Some, ap, arith, cond, false, inl, inr, refl, subst, sym, true, ◌*◌, ◌+◌, ◌<◌, ◌∙◌, ◌≡◌, ◌≤◌, ◌⊎◌, ℕ}
use Rattle.std.specs.Prelude.{◌↔◌}
use Rattle.lock_word.specs.Words.{doom_of, epoch_of, mode_of, stage_of, version_of as version_in}
use Rattle.lock_word.specs.declared.stage.Stage.TheVariants.{Closed}
use Rattle.lock_word.proofs.Testing.{mode_is}
use Rattle.rock_disk.specs.Cell.{CellState}
use Rattle.store_serve.specs.Growing.{GrowsTo}
use Rattle.core_model.specs.Table.{left_by, place}
use Rattle.core_model.specs.Tabs.{anchor_of, stage_held, tab_at}
use Rattle.core_model.specs.Told.{HasVersion}
use Rattle.core_model.specs.Versions.{Leads}
use Rattle.core_model.specs.declared.tab.Tab.{Tab}
use Rattle.core_model.specs.declared.tab.Tab.TheVariants.{Free, Freeing, Last, Reading, Retreating, Writing}
use Rattle.core_model.specs.declared.view.Place.TheVariants.{Anchor}
use Rattle.core_model.specs.declared.view.View.{View}
use Rattle.core_model.specs.declared.moves.Move.TheVariants.{Raise}
use Rattle.store_rule.specs.declared.store.Pass.{Pass}
use Rattle.store_rule.specs.declared.store.Store.{Store}
use Rattle.store_rule.specs.Ground.{Ground, Offers}
use Rattle.store_rule.specs.Passes.{basis, view}
use Rattle.store_rule.specs.Calls.{IsFresh}
use Rattle.store_rule.proofs.Moves.{known_of}
use Rattle.rock_writer.specs.Entries.{Entry}
use Rattle.rock_writer.specs.Finishing.{is_doomed, version_of}
use Rattle.rock_writer.specs.Flushing.{SlotFor}
use Rattle.rock_writer.specs.Reserving.{ByClaim, ByEviction}
use Rattle.rock_writer.specs.declared.fault.Ended.{Ended}
use Rattle.rock_writer.specs.declared.fault.Ended.TheVariants.{Doomed, Stored}
use Rattle.store_serve.specs.Adding.{taken_on}
use Rattle.store_serve.specs.Storing.{EndedWhole, left_of}
use Rattle.store_serve.specs.Deeds.{HasNames, Naming, name_of}
use Rattle.store_serve.proofs.EntryTabs.{HasEntry, IsEntryOf, published_tab, wrote_tab}
use Rattle.store_serve.proofs.Grown.{on, same}
use Rattle.store_serve.proofs.Serving.{added}
use Rattle.store_serve.proofs.Slots.{all_taken, claimed, evicted, published, wrote_slot}
use Rattle.store_serve.proofs.WriterDeeds.{entry_of}
use Rattle.crew_accounts.proofs.GivingUp.{closed_epoch}
use Rattle.crew_accounts.proofs.Halting.{finished_names, finished_word, slot_entry}
use Rattle.crew_accounts.proofs.Shown.{IsInTurn, fresh_from}
use Rattle.crew_accounts.proofs.Turns.{AreLed, in_turn, step_leads}

undoomed : (x : ℕ) → (doom_of x ≡ 1 → ⊥) → doom_of x ≡ 0
undoomed x ne = omega arith

closed_at : (version x doom : ℕ) → version_in x ≡ version → mode_of x ≡ 8 * doom + 3 → x ≡ 65536 * version + (8 * doom + 3)
closed_at version x doom same mode = omega arith

closed_is : (ended : Ended) (x : ℕ) → stage_of x ≡ 3 → version_in x ≡ version_of ended → mode_of x < 16 → (is_doomed ended ≡ true ↔ (doom_of x ≡ 1)) → x ≡ closed_epoch ended
closed_is (Stored version) x stage same mode doom =
    let none : doom_of x ≡ 0 = undoomed x (λ one. let z : false ≡ true = doom.1 one in cc) in
    let m = mode_is x mode in
    let at = closed_at version x 0 same (omega arith) in omega arith
closed_is (Doomed version) x stage same mode doom =
    let one : doom_of x ≡ 1 = doom.0 refl in
    let m = mode_is x mode in
    let at = closed_at version x 1 same (omega arith) in omega arith

pub closed_version : (ended : Ended) → version_in (closed_epoch ended) ≡ version_of ended
closed_version (Stored version) = omega arith
closed_version (Doomed version) = omega arith

pub closed_stage : (ended : Ended) → stage_of (closed_epoch ended) ≡ 3
closed_stage (Stored version) = omega arith
closed_stage (Doomed version) = omega arith

-- TAKEN and APPENDING lead to CLOSED
leads_on : (d n : ℕ) → 1 ≤ n → n ≤ 2 → Leads d n → Leads d 3
leads_on d n from to (inl same) = inr ((omega arith), (omega arith), (omega arith), inl (omega arith))
leads_on d n from to (inr on) = let low = on.0 in let up = on.1 in inr ((omega arith), (omega arith), (omega arith), inl (omega arith))

held_from : (b : Bool) → (1 ≤ cond b 2 1) × (cond b 2 1 ≤ 2)
held_from true = ((omega arith), (omega arith))
held_from false = ((omega arith), (omega arith))

-- What an entry that is written has of its anchor.
module _ {X : Type 0} (name : Naming) where
  writer_held : (tab : Tab X) → IsEntryOf name tab → (1 ≤ stage_held tab) × (stage_held tab ≤ 2)
  writer_held (Writing w) h = held_from w.is_appending
  writer_held Free h = absurd h
  writer_held (Retreating b) h = absurd h
  writer_held (Reading r) h = absurd h
  writer_held (Last b) h = absurd h
  writer_held (Freeing f) h = absurd h

  writer_anchor : (tab : Tab X) → IsEntryOf name tab → anchor_of tab ≡ name.anchor
  writer_anchor (Writing w) h = h.0
  writer_anchor Free h = absurd h
  writer_anchor (Retreating b) h = absurd h
  writer_anchor (Reading r) h = absurd h
  writer_anchor (Last b) h = absurd h
  writer_anchor (Freeing f) h = absurd h

  writer_version : (tab : Tab X) (n : ℕ) → IsEntryOf name tab → HasVersion tab n → version_in (epoch_of n) ≡ name.version
  writer_version (Writing w) n h has = has ∙ h.1
  writer_version Free n h has = absurd h
  writer_version (Retreating b) n h has = absurd h
  writer_version (Reading r) n h has = absurd h
  writer_version (Last b) n h has = absurd h
  writer_version (Freeing f) n h has = absurd h

-- a slot for a piece
module _ {X : Type 0} (g : Ground X) (t : ℕ) where
  slot_kept : (hand : ℕ) (v : View X) (slot : ℕ) (w : View X) (after : ℕ) → SlotFor g t hand v slot w after → GrowsTo v w
  slot_kept hand v slot w after (inl h) = same h.same
  slot_kept hand v slot w after (inr h) = by_either h.reserved.how
    where
      by_either : ByClaim g t hand v slot w after ⊎ ByEviction g t hand v slot w after → GrowsTo v w
      by_either (inl k) = claimed k.claimed
      by_either (inr k) = on (all_taken k.none) (evicted k.evicted)

module _ {C O : Type 0} (tells : Bool) (state : C → CellState) (offers : O → Offers) (s : Store C O) (t : ℕ) (e : Entry) (p q : Pass C) (ended : Ended) (h : EndedWhole tells state offers s t e p q ended) where
  abbrev last : Entry
  last = taken_on e (left_of tells state offers s t e p q)

  pub ended_names : HasNames (name_of (basis tells state offers s) e) (view q).seen
  ended_names = finished_names tells state offers s t last h.middle q (entry_of tells state offers s t last h.added.writes) h.finished

  pub ended_version : version_of ended ≡ e.version
  ended_version = h.finished.version

  pub ended_fresh : IsFresh e.anchor (closed_epoch ended) (view p) (view q)
  ended_fresh =
      let word = finished_word tells state offers s t last h.middle q (entry_of tells state offers s t last h.added.writes) h.finished in
      let at = closed_is ended (epoch_of (left_by h.finished.linked (Raise t Closed) h.finished.word)) word.0 (word.1 ∙ sym h.finished.version) word.2 h.finished.doomed in
      subst (λ (x : ℕ). IsFresh e.anchor x (view p) (view q)) at (fresh_from (added tells state offers s t e p h.middle h.added) h.finished.fresh)

  -- the entry is written still when it is closed
  abbrev name : Naming
  name = name_of (basis tells state offers s) last

  still : HasEntry t name h.finished.linked
  still =
      let g = basis tells state offers s in
      let k = h.finished.wrote in
      let reserved = slot_entry g t name h.middle.hand (view h.middle) k.slot k.reserved q.hand (entry_of tells state offers s t last h.added.writes) k.for_piece in
      published_tab k.slot None k.wrote.written h.finished.linked (wrote_tab reserved k.wrote.wrote) k.wrote.publishes

  linked_keeps : GrowsTo (view p) h.finished.linked
  linked_keeps =
      let g = basis tells state offers s in
      let k = h.finished.wrote in
      on (added tells state offers s t e p h.middle h.added)
      (on (slot_kept g t h.middle.hand (view h.middle) k.slot k.reserved q.hand k.for_piece) (on (wrote_slot g t k.wrote.wrote) (published g t k.slot None k.wrote.written h.finished.linked k.wrote.publishes)))

  -- no stage of the version was seen from which the entry does not come to be closed
  closed_led : AreLed e.anchor (closed_epoch ended) (view p)
  closed_led d c is =
      let g = basis tells state offers s in
      let linked = h.finished.linked in
      let n = h.finished.word in
      let told = (known_of g linked (Raise t Closed) n h.finished.closed h.finished.closes).anchors in
      let held = writer_held name (tab_at linked t) still.writes in
      let there : place linked (Raise t Closed) ≡ Some (Anchor e.anchor) = ap (λ (a : ℕ). Some (Anchor a)) (writer_anchor name (tab_at linked t) still.writes) in
      let version : version_in d ≡ version_in (epoch_of n) = is ∙ closed_version ended ∙ h.finished.version ∙ sym (writer_version name (tab_at linked t) n still.writes told.2) in
      let leads = step_leads g linked (Raise t Closed) n h.finished.closed e.anchor (epoch_of n) h.finished.closes there (λ i. epoch_of n) d (linked_keeps.seen _ c) version in
      let stage = told.1 in
      let up = leads_on (stage_of d) (stage_of (epoch_of n)) (let z = held.0 in omega arith) (let z = held.1 in omega arith) leads in
      subst (λ (x : ℕ). Leads (stage_of d) x) (sym (closed_stage ended)) up

  pub ended_turn : IsInTurn e.anchor (closed_epoch ended) (view p) (view q)
  ended_turn = in_turn ended_fresh closed_led
