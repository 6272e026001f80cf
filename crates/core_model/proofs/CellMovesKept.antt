-- To take a cell out and to put it back, to write one and to sync it keeps what is sound of the words: no word changes, and the tab
-- that has the cell holds what it held.
use Rattle.std.proofs.Common.{◌≡◌, ◌≢◌, ⊎_elim, ℕ, List, [], ◌∷◌, length, get_or, set, sym, refl, ap, ◌∙◌, subst, arith, Option, Bool, true, false, length-set}
use mathlib.Core.Option.{some}
use lib.ListN.{get_elem?}
use Rattle.core_model.specs.declared.moves.Outcome.{Outcome}
use Rattle.core_model.specs.declared.moves.Move.TheVariants.{CellOut, CellIn, Write, Sync}
use Rattle.core_model.specs.declared.tab.Cell.{Cell}
use Rattle.core_model.specs.declared.tab.Tab.{Tab}
use Rattle.core_model.specs.declared.tab.Tab.TheVariants.{Free, Retreating, Reading, Writing, Last, Freeing}
use Rattle.core_model.specs.declared.view.Item.{Item}
use Rattle.core_model.specs.declared.view.Place.TheVariants.{Turn}
use Rattle.core_model.specs.declared.view.Trace.{Trace}
use Rattle.core_model.specs.declared.view.View.{View}
use Rattle.core_model.specs.Layout.{Setting, turn_index}
use Rattle.core_model.specs.State.{State, chain_of}
use Rattle.core_model.specs.Tabs.{tab_at, turn_of, IsPass}
use Rattle.core_model.specs.Steps.{after}
use Rattle.core_model.specs.Deeds.{mirrored, OneMirror}
use Rattle.core_model.specs.Slots.{SlotWords, slot_words}
use Rattle.core_model.specs.Sound.{AnchorsSound, WordsSound, Sound}
use Rattle.core_model.proofs.Lists.{at_set, at_length, sum_at, set_here, set_else}
use Rattle.core_model.proofs.Telling.{set_again}
use Rattle.core_model.proofs.BesideKept.{beside}
use Rattle.core_model.proofs.BesideKinds.{IsQuiet, quiet_took_out, quiet_put_back, quiet_wrote, quiet_synced}
use Rattle.core_model.proofs.ReservesKept.{tab_was}
use Rattle.core_model.proofs.TurnsKept.{of_parts, remirrored, Alike, anchors_alike, reader_holds, writer_holds, not_held, Turned, turned_reader, turned_writer, held_inside, slots_turned, turn_both, turned_freer}
use Rattle.core_model.specs.Table.{Allowed, item_of}
use Rattle.core_model.specs.CellMoves.{Holds, moved, moves, is_kept, rewritten, rewrites, settled_by_write, settled_by_sync, cell_held, chosen_content, wrote, synced, MayChange}

module _ {X : Type 0} (us : List (View X)) (i : ℕ) (v u : View X) (m : List Trace) (at : get_elem? us i ≡ some v) (some_tabs : u.tabs ≢ []) where
  put_here : (z : View X) → get_elem? (set us i z) i ≡ some z
  put_here z = set_here us i z (at_length us i v at)

  -- the view of one pass, with another mirror
  pub alike_but_one : Alike (set us i u) (set us i (remirrored u m))
  alike_but_one = record {
    later = λ j x e. ⊎_elim
        (λ (q : (j ≡ i) × (u ≡ x)). (m, subst (λ (z : ℕ). get_elem? (set us i (remirrored u m)) z ≡ some (remirrored x m)) (sym q.0) (put_here (remirrored u m) ∙ ap (λ (z : View X). some (remirrored z m)) q.1)))
        (λ (q : (j ≢ i) × (get_elem? us j ≡ some x)). (x.mirror, set_else us i j (remirrored u m) q.0 ∙ q.1))
        (at_set us i j u x e);
    before = λ j x e. ⊎_elim
        (λ (q : (j ≡ i) × (remirrored u m ≡ x)). (u.mirror, subst (λ (z : ℕ). get_elem? (set us i u) z ≡ some (remirrored x u.mirror)) (sym q.0) (put_here u ∙ ap (λ (z : View X). some (remirrored z u.mirror)) q.1)))
        (λ (q : (j ≢ i) × (get_elem? us j ≡ some x)). (x.mirror, set_else us i j u q.0 ∙ q.1))
        (at_set us i j (remirrored u m) x e);
    notes = λ j x e none. ⊎_elim
        (λ (q : (j ≡ i) × (remirrored u m ≡ x)). absurd (some_tabs (ap View.tabs q.1 ∙ none)))
        (λ (q : (j ≢ i) × (get_elem? us j ≡ some x)). set_else us i j u q.0 ∙ q.1)
        (at_set us i j (remirrored u m) x e);
    sums = λ f h. let a = sum_at f us i v u at in let b = sum_at f us i v (remirrored u m) at in let c = h u m in omega arith;
  }

module _ {X : Type 0} (k : Setting X) (s : State X) (i : ℕ) (v : View X) (sound : Sound k s) (at : get_elem? s.views i ≡ some v) (pass : IsPass v) (t slot : ℕ) where
  abbrev so : AnchorsSound k s
  so = sound.anchors

  abbrev w : SlotWords
  w = slot_words k s.words

  -- the view after a step on no word
  abbrev worked : List (Tab X) → Item → View X
  worked tabs item = record v { tabs = tabs; trail = item ∷ v.trail }

  mirror_stays : (tabs : List (Tab X)) (item : Item) → OneMirror k (of_parts s.words s.places (set s.views i (worked tabs item)) s.chains)
  mirror_stays tabs item one j u e some_tabs p lt = ⊎_elim
      (λ (q : (j ≡ i) × (worked tabs item ≡ u)). subst (λ (z : List Trace). mirrored k p z ≡ get_or s.words p 0) (ap View.mirror q.1) (so.mirror one i v at tabs_v p lt))
      (λ (q : (j ≢ i) × (get_elem? s.views j ≡ some u)). so.mirror one j u q.1 some_tabs p lt)
      (at_set s.views i j (worked tabs item) u e)
    where
      tabs_v : v.tabs ≢ []
      tabs_v z = absurd (let l = pass in let y : length v.tabs ≡ 0 = ap length z in omega arith)

  -- a step on the cell of the slot, by a tab that has it
  pub cell_both : (item : Item) → IsQuiet item.kind → (x new : Tab X) → get_elem? v.tabs t ≡ some x → Turned k s i v sound at pass t slot x new
      → WordsSound k (of_parts s.words s.places (set s.views i (worked (set v.tabs t new) item)) s.chains)
  cell_both item quiet x new was l = record {
    anchors = anchors_alike k s.words s.places s.places (set s.views i u) (set s.views i (worked (set v.tabs t new) item)) s.chains again so.shaped.places (alike_but_one s.views i v u v.mirror at tabs_u) (mirror_stays (set v.tabs t new) item);
    slots = slots_turned k s i v sound at pass t slot x new was l (worked (set v.tabs t new) item) refl;
  }
    where
      p : ℕ
      p = turn_index k slot

      u : View X
      u = beside v (set v.tabs t new) [] item (Turn slot) (get_or s.words p 0)

      tabs_u : u.tabs ≢ []
      tabs_u z = absurd (let l = pass in let y : length (set v.tabs t new) ≡ 0 = ap length z in let e = length-set v.tabs t new in omega arith)

      -- the word of its turn is set to what it was
      again : AnchorsSound k (of_parts s.words s.places (set s.views i u) s.chains)
      again = subst (λ (ws : List ℕ). AnchorsSound k (of_parts ws s.places (set s.views i u) s.chains)) (set_again s.words p)
          (turn_both k s i v sound at pass t slot x new was l item quiet (get_or s.words p 0) s.places so.shaped.places).anchors

  -- To take it out, and to put it back.
  cell_moved : (x : Tab X) (out now : Bool) → get_elem? v.tabs t ≡ some x → Holds slot out x → Turned k s i v sound at pass t slot x (moves x now)
  cell_moved (Reading r) out now was h = turned_reader k s i v sound at pass t slot r r.place r.slot r.found (moved r.turn now)
      (held_inside k s i v sound at pass t slot (Reading r) (sound.cells.turns i v at t (Reading r) was) h.0 h.1 h.2)
      (reader_holds (chain_of s r.anchor) r (moved r.turn now) (sound.slots.tabs i v at t (Reading r) was))
  cell_moved (Writing x) out now was h = turned_writer k s i v sound at pass t slot x x.is_written x.is_settled (moved x.turn now)
      (held_inside k s i v sound at pass t slot (Writing x) (sound.cells.turns i v at t (Writing x) was) h.0 h.1 h.2)
      (writer_holds (w.beside x.anchor) (chain_of s x.anchor) x x.is_written x.is_settled (moved x.turn now) (sound.slots.tabs i v at t (Writing x) was))
  cell_moved Free out now was h = absurd (not_held h.0 h.1)
  cell_moved (Retreating b) out now was h = absurd (not_held h.0 h.1)
  cell_moved (Last b) out now was h = absurd (not_held h.0 h.1)
  cell_moved (Freeing f) out now was h = let fits = sound.cells.turns i v at t (Freeing f) was in
      turned_freer k s i v sound at pass t slot f (moved f.turn now) (held_inside k s i v sound at pass t slot (Freeing f) fits h.0 h.1 h.2) was (fits h.0 h.1).1.freeing

  pub cell_out_both : Allowed k s v (CellOut t slot) → WordsSound k (after k s i v (CellOut t slot))
  cell_out_both may = let x : Tab X = tab_at v t in let was = tab_was k s i v so sound.slots at pass t x may.0 refl in
      cell_both (item_of v (CellOut t slot) 0) quiet_took_out x (moves x true) was (cell_moved x false true was may.1)

  pub cell_in_both : Allowed k s v (CellIn t slot) → WordsSound k (after k s i v (CellIn t slot))
  cell_in_both may = let x : Tab X = tab_at v t in let was = tab_was k s i v so sound.slots at pass t x may.0 refl in
      cell_both (item_of v (CellIn t slot) 0) quiet_put_back x (moves x false) was (cell_moved x true false was may.1)

  -- To write it, and to sync it.
  cell_rewritten : (x : Tab X) (kept settled : Bool) (cell : Option (Cell X)) → get_elem? v.tabs t ≡ some x → MayChange x → Holds slot true x → Turned k s i v sound at pass t slot x (rewrites x kept settled cell)
  cell_rewritten (Writing x) kept settled cell was is h = turned_writer k s i v sound at pass t slot x x.is_written x.is_settled (rewritten x.turn kept settled cell)
      (held_inside k s i v sound at pass t slot (Writing x) (sound.cells.turns i v at t (Writing x) was) h.0 h.1 h.2)
      (writer_holds (w.beside x.anchor) (chain_of s x.anchor) x x.is_written x.is_settled (rewritten x.turn kept settled cell) (sound.slots.tabs i v at t (Writing x) was))
  cell_rewritten (Freeing f) kept settled cell was is h = let fits = sound.cells.turns i v at t (Freeing f) was in
      turned_freer k s i v sound at pass t slot f (rewritten f.turn kept settled cell) (held_inside k s i v sound at pass t slot (Freeing f) fits h.0 h.1 h.2) was (fits h.0 h.1).1.freeing
  cell_rewritten Free kept settled cell was is h = absurd (⊎_elim (λ (z : ⊥). z) (λ (z : ⊥). z) is)
  cell_rewritten (Retreating b) kept settled cell was is h = absurd (⊎_elim (λ (z : ⊥). z) (λ (z : ⊥). z) is)
  cell_rewritten (Reading r) kept settled cell was is h = absurd (⊎_elim (λ (z : ⊥). z) (λ (z : ⊥). z) is)
  cell_rewritten (Last b) kept settled cell was is h = absurd (⊎_elim (λ (z : ⊥). z) (λ (z : ⊥). z) is)

  pub write_both : (outcome : Outcome) → Allowed k s v (Write t slot outcome) → WordsSound k (after k s i v (Write t slot outcome))
  write_both outcome may = let x : Tab X = tab_at v t in let was = tab_was k s i v so sound.slots at pass t x may.0 refl in let cell : Option (Cell X) = wrote (cell_held (turn_of x)) outcome (chosen_content k x) in
      cell_both (item_of v (Write t slot outcome) 0) quiet_wrote x (rewrites x (is_kept outcome) (settled_by_write x outcome) cell) was (cell_rewritten x (is_kept outcome) (settled_by_write x outcome) cell was may.1 may.2)

  pub sync_both : (kept : Bool) → Allowed k s v (Sync t slot kept) → WordsSound k (after k s i v (Sync t slot kept))
  sync_both kept may = let x : Tab X = tab_at v t in let was = tab_was k s i v so sound.slots at pass t x may.0 refl in let cell : Option (Cell X) = synced (cell_held (turn_of x)) kept in
      cell_both (item_of v (Sync t slot kept) 0) quiet_synced x (rewrites x false (settled_by_sync x kept) cell) was (cell_rewritten x false (settled_by_sync x kept) cell was may.1 may.2)
