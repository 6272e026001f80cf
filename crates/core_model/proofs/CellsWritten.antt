-- To take the cell of a held turn out, to put it back, to write it and to sync it keeps what is sound of cells.
use Rattle.std.proofs.Common.{◌≡◌, ◌≢◌, ◌⊎◌, inl, inr, ⊎_elim, ℕ, suc, ◌<◌, ◌≤◌, [], ◌∷◌, get_or, set, sym, refl, ap, ◌∙◌, subst, arith, Some, None, Option, Bool, true, false, ◌||◌, ◌&&◌, Contains}
use Rattle.std.specs.Prelude.{unwrap_or}
use Rattle.std.proofs.lemmas.Bool.{false≢true}
use mathlib.Core.Option.{some}
use mathlib.Core.Logic.{dite}
use native.Mathlib.Decide.{ℕ_discrete}
use lib.ListN.{get_elem?}
use Rattle.link_word.specs.declared.link.Link.TheVariants.{NotWritten}
use Rattle.core_model.proofs.CellsFrame.{Sees, wipe_again}
use Rattle.core_model.specs.declared.tab.Freer.{Freer}
use Rattle.core_model.specs.declared.moves.Outcome.{Outcome}
use Rattle.core_model.specs.declared.moves.Outcome.TheVariants.{Nothing, Kept, Unsure, KeptUnsure}
use Rattle.core_model.specs.declared.tab.Cell.{Cell}
use Rattle.core_model.specs.declared.tab.Piece.{Piece}
use Rattle.core_model.specs.declared.tab.Hold.{Hold}
use Rattle.core_model.specs.declared.tab.Turn.{Turn as TurnOf}
use Rattle.core_model.specs.declared.tab.Turn.TheVariants.{Has, NoTurn}
use Rattle.core_model.specs.declared.tab.Reader.{Reader}
use Rattle.core_model.specs.declared.tab.Writer.{Writer}
use Rattle.core_model.specs.declared.tab.Tab.{Tab}
use Rattle.core_model.specs.declared.tab.Tab.TheVariants.{Reading, Writing, Freeing}
use Rattle.core_model.specs.declared.moves.Move.TheVariants.{CellOut, CellIn, Write, Sync}
use Rattle.core_model.specs.declared.view.View.{View}
use Rattle.core_model.specs.Layout.{Setting}
use Rattle.core_model.specs.State.{State}
use Rattle.core_model.specs.Chains.{times, rest_of}
use Rattle.core_model.specs.Tabs.{tab_at, turn_of, IsPass, OfWriter, OfFreer}
use Rattle.core_model.specs.Steps.{finding, view_after, after}
use Rattle.core_model.specs.Cells.{holds_at, TurnFits, IsHeldCell, IsCell, WriterPiece, TabPiece, CellsSound}
use Rattle.core_model.specs.Sound.{Sound}
use Rattle.core_model.proofs.Spelling.{one_same}
use Rattle.core_model.proofs.SlotKinds.{OneTab}
use Rattle.core_model.proofs.ReservesKept.{of_writer, tab_was, of_freer}
use Rattle.core_model.proofs.CellsTab.{same_slot, same_hold, turn_here, turn_else, turn_tab, turned, IsUnpublished, cell_after, same_holders, cells_kept, written_unpublished, homes_stay, held_unpublished, rests_first}
use Rattle.core_model.specs.Table.{Allowed}
use Rattle.core_model.specs.SlotMoves.{IsNext}
use Rattle.core_model.specs.CellMoves.{moved, moves, is_kept, is_nothing, was_settled, rewritten, rewrites, settled_by_write, settled_by_sync, map_some, chosen_content, cell_held, wrote, synced, MayWipe}

or_false : (b : Bool) → (b || false) ≡ true → b ≡ true
or_false true e = refl
or_false false e = e

and_false : (b : Bool) → (b && false) ≡ false
and_false true = refl
and_false false = refl

turn_taken : {X : Type 0} → (h : Hold X) → ◌≡◌ {A = TurnOf X} NoTurn (Has h) → ⊥
turn_taken h e = cc

module _ {X : Type 0} where
  -- The cell that a write leaves, and what a sync leaves.

  abbrev write_of : Cell X → Outcome → Option X → Cell X
  write_of c outcome x = unwrap_or (wrote (Some c) outcome x) c

  abbrev sync_of : Cell X → Bool → Cell X
  sync_of c kept = unwrap_or (synced (Some c) kept) c

  abbrev IsPossible : Cell X → Type 0
  IsPossible c = Contains c.possible c.now

  write_possible : (c : Cell X) (outcome : Outcome) (x : Option X) → IsPossible c → IsPossible (write_of c outcome x)
  write_possible c Nothing None h = h
  write_possible c Kept None h = h
  write_possible c Unsure None h = h
  write_possible c KeptUnsure None h = h
  write_possible c Nothing (Some x) h = h
  write_possible c Kept (Some x) h = (0, omega arith, refl)
  write_possible c Unsure (Some x) (j, lt, e) = (suc j, omega arith, e)
  write_possible c KeptUnsure (Some x) h = (0, omega arith, refl)

  -- where the holder wrote its piece, the cell has it
  write_image : (c : Cell X) (outcome : Outcome) (x : X) (before : Bool) → (before ≡ true → c.now ≡ x) → (before || is_kept outcome) ≡ true → (write_of c outcome (Some x)).now ≡ x
  write_image c Nothing x before h e = h (or_false before e)
  write_image c Kept x before h e = refl
  write_image c Unsure x before h e = h (or_false before e)
  write_image c KeptUnsure x before h e = refl

  sync_possible : (c : Cell X) (kept : Bool) → IsPossible c → IsPossible (sync_of c kept)
  sync_possible c true h = (0, omega arith, refl)
  sync_possible c false h = h

  sync_now : (c : Cell X) (kept : Bool) → (sync_of c kept).now ≡ c.now
  sync_now c true = refl
  sync_now c false = refl

  -- a cell that has one possible content, or one that was just synced
  abbrev IsOne : Cell X → Type 0
  IsOne c = c.possible ≡ c.now ∷ []

  write_settled : (c : Cell X) (outcome : Outcome) (x : Option X) (before : Bool) → (before ≡ true → IsOne c) → (before && is_nothing outcome) ≡ true → IsOne (write_of c outcome x)
  write_settled c Nothing None true h e = h refl
  write_settled c Nothing (Some x) true h e = h refl
  write_settled c Nothing x false h e = absurd (false≢true e)
  write_settled c Kept x before h e = absurd (false≢true (sym (and_false before) ∙ e))
  write_settled c Unsure x before h e = absurd (false≢true (sym (and_false before) ∙ e))
  write_settled c KeptUnsure x before h e = absurd (false≢true (sym (and_false before) ∙ e))

  sync_settled : (c : Cell X) (kept before : Bool) → (before ≡ true → IsOne c) → (before || kept) ≡ true → IsOne (sync_of c kept)
  sync_settled c true before h e = refl
  sync_settled c false before h e = h (or_false before e)

module _ {X : Type 0} (k : Setting X) (s : State X) (i : ℕ) (v : View X) (so : Sound k s) (at : get_elem? s.views i ≡ some v) (v' : View X) (seen : Sees v v') (t : ℕ) (h h' : Hold X) (same : h'.slot ≡ h.slot) where
  abbrev s' : State X
  s' = turned k s i s.words s.places v'

  -- the cell stays, or its slot is in no chain
  abbrev MayChange : Type 0
  MayChange = (h'.cell ≡ h.cell) ⊎ (IsUnpublished k s h.slot × Contains h'.cell.possible h'.cell.now)

  -- a tab that goes on holding the turn
  module _ (old new : Tab X) (one : OneTab v v' t old new) (has : turn_of old ≡ Has h) (has' : turn_of new ≡ Has h') where
    as_many : (j : ℕ) → holds_at j new ≡ holds_at j old
    as_many j = dite (ℕ_discrete h.slot j)
        (λ e. turn_here j (turn_of new) h' has' (same ∙ e) ∙ sym (turn_here j (turn_of old) h has e))
        (λ ne. turn_else j (turn_of new) h' has' (λ e. ne (sym same ∙ e)) ∙ sym (turn_else j (turn_of old) h has ne))

    cells_then : MayChange → (j : ℕ) (c : Cell X) → IsCell s' j c → IsCell s j c ⊎ (IsUnpublished k s j × Contains c.possible c.now)
    cells_then may j c is = ⊎_elim (λ (e : get_or s.places j None ≡ Some c). inl (inl e)) (⊎_elim of_it (λ (q : IsHeldCell s j c). inl (inr q))) (cell_after k s i v so at s.words s.places v' t old new one j c is)
      where
        of_it : (g : Hold X) × (turn_of new ≡ Has g) × (g.slot ≡ j) × (g.cell ≡ c) → IsCell s j c ⊎ (IsUnpublished k s j × Contains c.possible c.now)
        of_it q = let is_it = sym has' ∙ q.1 in let here : h.slot ≡ j = sym same ∙ same_slot h' q.0 is_it ∙ q.2 in let cell : h'.cell ≡ c = ap Hold.cell (same_hold h' q.0 is_it) ∙ q.3 in ⊎_elim
            (λ (e : h'.cell ≡ h.cell). inl (inr record { i = i; view = v; at = at; t = t; tab = old; there = one.was; hold = h; turn = has; slot_is = here; cell_is = sym e ∙ cell }))
            (λ (e : IsUnpublished k s h.slot × Contains h'.cell.possible h'.cell.now). inr (subst (IsUnpublished k s) here e.0, subst (λ (z : Cell X). Contains z.possible z.now) cell e.1))
            may

    goes_on_holding : MayChange → TurnFits k s new → TabPiece k s' new → CellsSound k s'
    goes_on_holding may fits piece = cells_kept k s i v so at s.words s.places v' t old new record {
      one = one;
      seen = seen;
      low = λ p lt. refl;
      holders = same_holders k s i v so at s.words s.places v' t old new one as_many;
      fits = fits;
      cells = cells_then may;
      piece = piece;
      homes = λ j u ut p w is ne q home. homes_stay k s i v so at s.words v' w q home;
    }

  hold_reader : (r : Reader X) (turn : TurnOf X) → get_elem? v.tabs t ≡ some (Reading r) → r.turn ≡ Has h → turn ≡ Has h' → v'.tabs ≡ set v.tabs t (Reading record r { turn = turn }) → h'.cell ≡ h.cell → CellsSound k s'
  hold_reader r turn was has has' tabs cell = goes_on_holding (Reading r) (Reading record r { turn = turn }) record { was = was; becomes = tabs } has has' (inl cell)
      (λ g e. subst (λ (z : ℕ). (z < k.slots) × IsNext s z r × (r.found ≢ NotWritten)) (sym same ∙ same_slot h' g (sym has' ∙ e)) (so.cells.turns i v at t (Reading r) was h has)) tt

  pub hold_writer : (w : Writer X) (turn : TurnOf X) → get_elem? v.tabs t ≡ some (Writing w) → w.turn ≡ Has h → turn ≡ Has h' → v'.tabs ≡ set v.tabs t (Writing record w { turn = turn })
      → (h'.cell ≡ h.cell) ⊎ Contains h'.cell.possible h'.cell.now → ((p : Piece) → w.chosen ≡ Some p → (h.is_written ≡ true → h.cell.now ≡ k.image p) → h'.is_written ≡ true → h'.cell.now ≡ k.image p)
      → ((h.is_settled ≡ true → h.cell.possible ≡ h.cell.now ∷ []) → h'.is_settled ≡ true → h'.cell.possible ≡ h'.cell.now ∷ []) → CellsSound k s'
  hold_writer w turn was has has' tabs may image settles = let f = so.cells.turns i v at t (Writing w) was h has in let old : WriterPiece k s w = so.cells.writers i v at t (Writing w) was in
      goes_on_holding (Writing w) (Writing record w { turn = turn }) record { was = was; becomes = tabs } has has'
      (⊎_elim (λ (e : h'.cell ≡ h.cell). inl e)
      (λ (e : Contains h'.cell.possible h'.cell.now). inr (written_unpublished k s i v so at t w was h.slot (let c : times h.slot w.reserved ≡ times h.slot (h.slot ∷ rest_of w.reserved) = ap (times h.slot) f.1 in let o = one_same h.slot in omega arith), e)) may)
      (λ g e. subst (λ (z : ℕ). (z < k.slots) × (w.reserved ≡ z ∷ rest_of w.reserved)) (sym same ∙ same_slot h' g (sym has' ∙ e)) f)
      record {
        drawn = old.drawn;
        fits = old.fits;
        offer = old.offer;
        logged = λ e. absurd (turn_taken h (sym (old.logged e).1 ∙ has));
        home = λ p going written chosen. let y = old.home p going written chosen in record { slot = y.slot; first = y.first; cell = y.cell; home = y.home; written = y.written; settled = y.settled };
        held = λ p g e written chosen. let is_it = same_hold h' g (sym has' ∙ e) in
            subst (λ (z : Hold X). z.cell.now ≡ k.image p) is_it (image p chosen (λ q. old.held p h has q chosen) (ap Hold.is_written is_it ∙ written));
        synced = λ g e settled. let is_it = same_hold h' g (sym has' ∙ e) in
            subst (λ (z : Hold X). z.cell.possible ≡ z.cell.now ∷ []) is_it (settles (old.synced h has) (ap Hold.is_settled is_it ∙ settled));
      }

  -- one that frees
  pub hold_freer : (f : Freer X) (turn : TurnOf X) → get_elem? v.tabs t ≡ some (Freeing f) → f.turn ≡ Has h → turn ≡ Has h' → v'.tabs ≡ set v.tabs t (Freeing record f { turn = turn })
      → (h'.cell ≡ h.cell) ⊎ Contains h'.cell.possible h'.cell.now → CellsSound k s'
  hold_freer f turn was has has' tabs may = let q = so.cells.turns i v at t (Freeing f) was h has in
      goes_on_holding (Freeing f) (Freeing record f { turn = turn }) record { was = was; becomes = tabs } has has'
      (⊎_elim (λ (e : h'.cell ≡ h.cell). inl e)
      (λ (e : Contains h'.cell.possible h'.cell.now). inr (held_unpublished k s i v so at t (Freeing f) was h.slot (rests_first f h.slot q.1.front), e)) may)
      (λ g e. subst (λ (z : ℕ). (z < k.slots) × MayWipe z (record f { turn = turn })) (sym same ∙ same_slot h' g (sym has' ∙ e)) (q.0, wipe_again h.slot f turn q.1))
      tt

module _ {X : Type 0} (k : Setting X) (s : State X) (i : ℕ) (v : View X) (so : Sound k s) (at : get_elem? s.views i ≡ some v) (pass : IsPass v) (t : ℕ) where
  -- the cell goes out or in
  moves_keep : (is_out : Bool) (h : Hold X) → t ≤ 8 → turn_of (tab_at v t) ≡ Has h → (v' : View X) → Sees v v' → v'.tabs ≡ set v.tabs t (moves (tab_at v t) is_out) → CellsSound k (turned k s i s.words s.places v')
  moves_keep is_out h le has v' seen tabs = ⊎_elim
      (λ (q : (r : Reader X) × (tab_at v t ≡ Reading r) × (r.turn ≡ Has h)). hold_reader k s i v so at v' seen t h (record h { is_out = is_out }) refl q.0 (moved q.0.turn is_out)
      (tab_was k s i v so.anchors so.slots at pass t (Reading q.0) le q.1) q.2 (ap (λ (u : TurnOf X). moved u is_out) q.2) (tabs ∙ ap (λ (z : Tab X). set v.tabs t (moves z is_out)) q.1) refl)
      (⊎_elim
      (λ (q : (w : Writer X) × (tab_at v t ≡ Writing w) × (w.turn ≡ Has h)). hold_writer k s i v so at v' seen t h (record h { is_out = is_out }) refl q.0 (moved q.0.turn is_out)
      (tab_was k s i v so.anchors so.slots at pass t (Writing q.0) le q.1) q.2 (ap (λ (u : TurnOf X). moved u is_out) q.2) (tabs ∙ ap (λ (z : Tab X). set v.tabs t (moves z is_out)) q.1) (inl refl) (λ p chosen before. before) (λ before. before))
      (λ (q : (f : Freer X) × (tab_at v t ≡ Freeing f) × (f.turn ≡ Has h)). hold_freer k s i v so at v' seen t h (record h { is_out = is_out }) refl q.0 (moved q.0.turn is_out)
      (tab_was k s i v so.anchors so.slots at pass t (Freeing q.0) le q.1) q.2 (ap (λ (u : TurnOf X). moved u is_out) q.2) (tabs ∙ ap (λ (z : Tab X). set v.tabs t (moves z is_out)) q.1) (inl refl)))
      (turn_tab (tab_at v t) h has)

  -- a cell that a turn has is one
  possible_held : (x : Tab X) → get_elem? v.tabs t ≡ some x → (h : Hold X) → turn_of x ≡ Has h → IsPossible h.cell
  possible_held x was h has = so.cells.contents.possible h.slot h.cell (inr record { i = i; view = v; at = at; t = t; tab = x; there = was; hold = h; turn = has; slot_is = refl; cell_is = refl })

  write_keeps : (outcome : Outcome) (w : Writer X) → get_elem? v.tabs t ≡ some (Writing w) → (h : Hold X) → w.turn ≡ Has h → (v' : View X) → Sees v v'
      → v'.tabs ≡ set v.tabs t (rewrites (Writing w) (is_kept outcome) (settled_by_write (Writing w) outcome) (wrote (cell_held w.turn) outcome (map_some k.image w.chosen))) → CellsSound k (turned k s i s.words s.places v')
  write_keeps outcome w was h has v' seen tabs = hold_writer k s i v so at v' seen t h (record h { cell = write_of h.cell outcome (map_some k.image w.chosen); is_written = h.is_written || is_kept outcome; is_settled = was_settled w.turn && is_nothing outcome }) refl w
      (rewritten w.turn (is_kept outcome) (was_settled w.turn && is_nothing outcome) (wrote (cell_held w.turn) outcome (map_some k.image w.chosen))) was has
      (ap (λ (u : TurnOf X). rewritten u (is_kept outcome) (was_settled w.turn && is_nothing outcome) (wrote (cell_held u) outcome (map_some k.image w.chosen))) has) tabs
      (inr (write_possible h.cell outcome (map_some k.image w.chosen) (possible_held (Writing w) was h has)))
      (λ p chosen before written. subst (λ (z : Option Piece). (write_of h.cell outcome (map_some k.image z)).now ≡ k.image p) (sym chosen) (write_image h.cell outcome (k.image p) h.is_written before written))
      (λ before settled. write_settled h.cell outcome (map_some k.image w.chosen) h.is_settled before (sym (ap (λ (u : TurnOf X). was_settled u && is_nothing outcome) has) ∙ settled))

  sync_keeps : (kept : Bool) (w : Writer X) → get_elem? v.tabs t ≡ some (Writing w) → (h : Hold X) → w.turn ≡ Has h → (v' : View X) → Sees v v'
      → v'.tabs ≡ set v.tabs t (rewrites (Writing w) false (settled_by_sync (Writing w) kept) (synced (cell_held w.turn) kept)) → CellsSound k (turned k s i s.words s.places v')
  sync_keeps kept w was h has v' seen tabs = hold_writer k s i v so at v' seen t h (record h { cell = sync_of h.cell kept; is_written = h.is_written || false; is_settled = was_settled w.turn || kept }) refl w
      (rewritten w.turn false (was_settled w.turn || kept) (synced (cell_held w.turn) kept)) was has
      (ap (λ (u : TurnOf X). rewritten u false (was_settled w.turn || kept) (synced (cell_held u) kept)) has) tabs
      (inr (sync_possible h.cell kept (possible_held (Writing w) was h has)))
      (λ p chosen before written. sync_now h.cell kept ∙ before (or_false h.is_written written))
      (λ before settled. sync_settled h.cell kept h.is_settled before (sym (ap (λ (u : TurnOf X). was_settled u || kept) has) ∙ settled))

  -- a freeing tab writes the blank content
  wipe_keeps : (outcome : Outcome) (f : Freer X) → get_elem? v.tabs t ≡ some (Freeing f) → (h : Hold X) → f.turn ≡ Has h → (v' : View X) → Sees v v'
      → v'.tabs ≡ set v.tabs t (rewrites (Freeing f) (is_kept outcome) (settled_by_write (Freeing f) outcome) (wrote (cell_held f.turn) outcome (Some k.blank))) → CellsSound k (turned k s i s.words s.places v')
  wipe_keeps outcome f was h has v' seen tabs = hold_freer k s i v so at v' seen t h (record h { cell = write_of h.cell outcome (Some k.blank); is_written = h.is_written || is_kept outcome; is_settled = was_settled f.turn && is_nothing outcome }) refl f
      (rewritten f.turn (is_kept outcome) (was_settled f.turn && is_nothing outcome) (wrote (cell_held f.turn) outcome (Some k.blank))) was has
      (ap (λ (u : TurnOf X). rewritten u (is_kept outcome) (was_settled f.turn && is_nothing outcome) (wrote (cell_held u) outcome (Some k.blank))) has) tabs
      (inr (write_possible h.cell outcome (Some k.blank) (possible_held (Freeing f) was h has)))

  wipe_syncs : (kept : Bool) (f : Freer X) → get_elem? v.tabs t ≡ some (Freeing f) → (h : Hold X) → f.turn ≡ Has h → (v' : View X) → Sees v v'
      → v'.tabs ≡ set v.tabs t (rewrites (Freeing f) false (settled_by_sync (Freeing f) kept) (synced (cell_held f.turn) kept)) → CellsSound k (turned k s i s.words s.places v')
  wipe_syncs kept f was h has v' seen tabs = hold_freer k s i v so at v' seen t h (record h { cell = sync_of h.cell kept; is_written = h.is_written || false; is_settled = was_settled f.turn || kept }) refl f
      (rewritten f.turn false (was_settled f.turn || kept) (synced (cell_held f.turn) kept)) was has
      (ap (λ (u : TurnOf X). rewritten u false (was_settled f.turn || kept) (synced (cell_held u) kept)) has) tabs
      (inr (sync_possible h.cell kept (possible_held (Freeing f) was h has)))

pub cell_out_cells : {X : Type 0} → (k : Setting X) (s : State X) (i : ℕ) (v : View X) → Sound k s → get_elem? s.views i ≡ some v → IsPass v → (t slot : ℕ) → Allowed k s v (CellOut t slot) → CellsSound k (after k s i v (CellOut t slot))
cell_out_cells k s i v so at pass t slot may = moves_keep k s i v so at pass t true may.1.0 may.0 may.1.1 (view_after v (CellOut t slot) (finding k s v (CellOut t slot))) (λ x c. c) refl

pub cell_in_cells : {X : Type 0} → (k : Setting X) (s : State X) (i : ℕ) (v : View X) → Sound k s → get_elem? s.views i ≡ some v → IsPass v → (t slot : ℕ) → Allowed k s v (CellIn t slot) → CellsSound k (after k s i v (CellIn t slot))
cell_in_cells k s i v so at pass t slot may = moves_keep k s i v so at pass t false may.1.0 may.0 may.1.1 (view_after v (CellIn t slot) (finding k s v (CellIn t slot))) (λ x c. c) refl

pub write_cells : {X : Type 0} → (k : Setting X) (s : State X) (i : ℕ) (v : View X) → Sound k s → get_elem? s.views i ≡ some v → IsPass v → (t slot : ℕ) (outcome : Outcome) → Allowed k s v (Write t slot outcome)
    → CellsSound k (after k s i v (Write t slot outcome))
write_cells {X} k s i v so at pass t slot outcome may = let v' : View X = view_after v (Write t slot outcome) (finding k s v (Write t slot outcome)) in ⊎_elim
    (λ (h : OfWriter (λ w. Unit {0}) (tab_at v t)). let q = of_writer (λ w. Unit {0}) (tab_at v t) h in
    write_keeps k s i v so at pass t outcome q.0 (tab_was k s i v so.anchors so.slots at pass t (Writing q.0) may.0 q.1) may.2.0 (sym (ap turn_of q.1) ∙ may.2.1) v' (λ x c. c)
    (ap (λ (z : Tab X). set v.tabs t (rewrites z (is_kept outcome) (settled_by_write z outcome) (wrote (cell_held (turn_of z)) outcome (chosen_content k z)))) q.1))
    (λ (h : OfFreer (λ f. Unit {0}) (tab_at v t)). let q = of_freer (λ f. Unit {0}) (tab_at v t) h in
    wipe_keeps k s i v so at pass t outcome q.0 (tab_was k s i v so.anchors so.slots at pass t (Freeing q.0) may.0 q.1) may.2.0 (sym (ap turn_of q.1) ∙ may.2.1) v' (λ x c. c)
    (ap (λ (z : Tab X). set v.tabs t (rewrites z (is_kept outcome) (settled_by_write z outcome) (wrote (cell_held (turn_of z)) outcome (chosen_content k z)))) q.1))
    may.1

pub sync_cells : {X : Type 0} → (k : Setting X) (s : State X) (i : ℕ) (v : View X) → Sound k s → get_elem? s.views i ≡ some v → IsPass v → (t slot : ℕ) (kept : Bool) → Allowed k s v (Sync t slot kept)
    → CellsSound k (after k s i v (Sync t slot kept))
sync_cells {X} k s i v so at pass t slot kept may = let v' : View X = view_after v (Sync t slot kept) (finding k s v (Sync t slot kept)) in ⊎_elim
    (λ (h : OfWriter (λ w. Unit {0}) (tab_at v t)). let q = of_writer (λ w. Unit {0}) (tab_at v t) h in
    sync_keeps k s i v so at pass t kept q.0 (tab_was k s i v so.anchors so.slots at pass t (Writing q.0) may.0 q.1) may.2.0 (sym (ap turn_of q.1) ∙ may.2.1) v' (λ x c. c)
    (ap (λ (z : Tab X). set v.tabs t (rewrites z false (settled_by_sync z kept) (synced (cell_held (turn_of z)) kept))) q.1))
    (λ (h : OfFreer (λ f. Unit {0}) (tab_at v t)). let q = of_freer (λ f. Unit {0}) (tab_at v t) h in
    wipe_syncs k s i v so at pass t kept q.0 (tab_was k s i v so.anchors so.slots at pass t (Freeing q.0) may.0 q.1) may.2.0 (sym (ap turn_of q.1) ∙ may.2.1) v' (λ x c. c)
    (ap (λ (z : Tab X). set v.tabs t (rewrites z false (settled_by_sync z kept) (synced (cell_held (turn_of z)) kept))) q.1))
    may.1
