-- To try for a turn and to end one keeps what is sound of cells.
use Rattle.std.proofs.Common.{◌≡◌, ◌≢◌, inl, inr, ⊎_elim, ℕ, ◌*◌, ◌<◌, List, ◌∷◌, length, get_or, set, sym, refl, ap, ◌∙◌, subst, arith, sum_by, Some, None, Option, Bool, true, false, cond, ◌==◌, eq-eqb, get_or-set_same, get_or-set_other, ◌⊎◌}
use Rattle.std.proofs.lemmas.Bool.{eqb-true, false≢true}
use Rattle.std.specs.Prelude.{unwrap_or}
use mathlib.Core.Option.{some, some-injective}
use mathlib.Core.Logic.{dite}
use native.Mathlib.Decide.{ℕ_discrete}
use lib.ListN.{get_elem?}
use Rattle.link_word.specs.declared.link.Link.TheVariants.{NotWritten}
use Rattle.core_model.proofs.CellsFrame.{Sees, wipe_again, contains_later}
use Rattle.core_model.specs.Slots.{held_in}
use Rattle.core_model.specs.declared.tab.Freer.{Freer}
use Rattle.core_model.specs.declared.tab.Cell.{Cell}
use Rattle.core_model.specs.declared.tab.Hold.{Hold}
use Rattle.core_model.specs.declared.tab.Turn.TheVariants.{NoTurn, Has}
use Rattle.core_model.specs.declared.tab.Reader.{Reader}
use Rattle.core_model.specs.declared.tab.Writer.{Writer}
use Rattle.core_model.specs.declared.tab.Tab.{Tab}
use Rattle.core_model.specs.declared.tab.Tab.TheVariants.{Free, Retreating, Reading, Writing, Last, Freeing}
use Rattle.core_model.specs.declared.moves.Move.TheVariants.{TryTurn, EndTurn}
use Rattle.core_model.specs.declared.moves.Then.{Then}
use Rattle.core_model.specs.declared.moves.Then.TheVariants.{GoesOn, Stays, Wiped}
use Rattle.core_model.specs.declared.view.Place.TheVariants.{Turn}
use Rattle.core_model.specs.declared.view.View.{View}
use Rattle.core_model.specs.Layout.{Setting, index}
use Rattle.core_model.specs.State.{State, chain_of, turn_word}
use Rattle.core_model.specs.Chains.{times, rest_of}
use Rattle.core_model.specs.Tabs.{tab_at, has_turn, turn_of, holds_turn, count, IsPass}
use Rattle.core_model.specs.Steps.{finding, sights_found, view_after, after}
use Rattle.core_model.specs.Cells.{holds_at, OneHolder, TurnFits, IsCell, WriterPiece, TabPiece, CellsSound}
use Rattle.core_model.specs.Sound.{Sound}
use Rattle.core_model.proofs.Lists.{sum_some}
use Rattle.core_model.proofs.Spelling.{one_same}
use Rattle.core_model.proofs.Telling.{set_again}
use Rattle.core_model.proofs.SlotKinds.{OneTab}
use Rattle.core_model.proofs.ReservesKept.{of_reader, of_writer, tab_was, held_slot, of_freer}
use Rattle.core_model.proofs.FollowsKept.{at_times, followed}
use Rattle.core_model.proofs.CellsTab.{OneTurn, taken_turn, free_turn, same_slot, same_hold, no_hold, turn_none, turn_here, turn_else, turn_nowhere, turn_is, turn_tab, holders_after, Turned, of_holders, to_holders, turned, IsApart, cell_after, same_holders, cells_kept, read_slot, read_apart, written_apart, homes_else, homes_stay, held_unpublished, held_apart, held_alone, reserves_first, rests_first}
use Rattle.core_model.specs.Table.{Allowed}
use Rattle.core_model.specs.SlotMoves.{IsNext}
use Rattle.core_model.specs.CellMoves.{MayRead, MayWrite, turn_with, tries, was_written, was_settled, ends, cell_held, MayWipe, wiped_by}

not_some : (slot : ℕ) → None ≡ Some slot → ⊥
not_some slot e = cc

module _ {X : Type 0} where
  some_same : (a b : Cell X) → Some a ≡ Some b → a ≡ b
  some_same a b e = ap (λ o. unwrap_or o a) e

  none_here : (c : Cell X) → None ≡ Some c → ⊥
  none_here c e = cc

  -- what a turn that just was taken is
  abbrev taken : ℕ → Cell X → Hold X
  taken slot c = record { slot = slot; cell = c; is_out = false; is_written = false; is_settled = false }

module _ {X : Type 0} (k : Setting X) (s : State X) (i : ℕ) (v : View X) (so : Sound k s) (at : get_elem? s.views i ≡ some v) (pass : IsPass v) where
  -- a turn's word is behind those of anchors and beside them
  turn_low : (slot x p : ℕ) → p < 5 * k.anchors → get_or (set s.words (index k (Turn slot)) x) p 0 ≡ get_or s.words p 0
  turn_low slot x p lt = get_or-set_other s.words (index k (Turn slot)) p x 0 (λ e. omega arith)

  fits_none : (x : Tab X) → turn_of x ≡ NoTurn → TurnFits k s x
  fits_none Free e = tt
  fits_none (Retreating a) e = tt
  fits_none (Reading r) e = λ h q. absurd (no_hold h (sym e ∙ q))
  fits_none (Writing w) e = λ h q. absurd (no_hold h (sym e ∙ q))
  fits_none (Last a) e = tt
  fits_none (Freeing f) e = λ h q. absurd (no_hold h (sym e ∙ q))

  -- The slot of a tab that holds no turn.

  -- a tab that holds the turn of a slot reads there, or has the slot
  holder_is : (slot : ℕ) (x : Tab X) → TurnFits k s x → (h : Hold X) → turn_of x ≡ Has h → h.slot ≡ slot → ((r : Reader X) × (x ≡ Reading r) × (r.turn ≡ Has h)) ⊎ (0 < held_in slot x)
  holder_is slot (Reading r) fits h e same = inl (r, refl, e)
  holder_is slot (Writing w) fits h e same = inr (subst (λ (z : ℕ). 0 < held_in z (Writing w)) same (reserves_first w h.slot (fits h e).1))
  holder_is slot (Freeing f) fits h e same = inr (subst (λ (z : ℕ). 0 < held_in z (Freeing f)) same (rests_first f h.slot (fits h e).1.front))
  holder_is slot Free fits h e same = absurd (no_hold h e)
  holder_is slot (Retreating a) fits h e same = absurd (no_hold h e)
  holder_is slot (Last a) fits h e same = absurd (no_hold h e)

  module _ (t : ℕ) (y : Tab X) (was : get_elem? v.tabs t ≡ some y) (none : turn_of y ≡ NoTurn) (slot : ℕ) (has : 0 < held_in slot y) where
    -- nobody holds its turn: a tab that reads there finds it published, and any other one has it
    no_holder : (j : ℕ) (u : View X) → get_elem? s.views j ≡ some u → (p : ℕ) (x : Tab X) → get_elem? u.tabs p ≡ some x → 0 < holds_at slot x → ⊥
    no_holder j u ut p x is lt = let h = turn_is slot (turn_of x) lt in ⊎_elim (reads h.0 h.2) (owns h.0 h.1) (holder_is slot x (so.cells.turns j u ut p x is) h.0 h.1 h.2)
      where
        reads : (h : Hold X) → h.slot ≡ slot → (r : Reader X) × (x ≡ Reading r) × (r.turn ≡ Has h) → ⊥
        reads h same q = let there = is ∙ ap some q.1 in let f = so.cells.turns j u ut p (Reading q.0) there h q.2 in
            let e = read_slot k s i v so at j u ut p q.0 there h.slot f.1 f.2 in
            let z = at_times (chain_of s q.0.anchor).slots q.0.place slot (e ∙ ap some same) in
            let y = held_unpublished k s i v so at t y was slot has q.0.anchor in omega arith

        owns : (h : Hold X) → turn_of x ≡ Has h → 0 < held_in slot x → ⊥
        owns h turn some_ = dite (ℕ_discrete p t)
            (λ e. dite (ℕ_discrete j i) (λ e'. itself e e') (λ ne. other (λ z. absurd (ne z))))
            (λ ne. other (λ _. ne))
          where
            other : (j ≡ i → p ≢ t) → ⊥
            other ne = let z = held_apart k s i v so at t y was slot has j u ut p x is ne in omega arith

            itself : p ≡ t → j ≡ i → ⊥
            itself e e' = let view : u ≡ v = some-injective u v (sym ut ∙ ap (get_elem? s.views) e' ∙ at) in
                let tab : x ≡ y = some-injective x y (sym is ∙ ap (λ (z : View X). get_elem? z.tabs p) view ∙ ap (get_elem? v.tabs) e ∙ was) in
                no_hold h (sym none ∙ sym (ap turn_of tab) ∙ turn)

    held_inside : slot < k.slots
    held_inside = held_slot k s i v so.anchors so.slots at pass slot t y was has

    turn_is_free : turn_word k s slot ≡ 0
    turn_is_free = dite (ℕ_discrete (turn_word k s slot) 0) (λ e. e) (λ ne. absurd (let h = so.cells.holders.turns slot held_inside in
        let z = sum_some (count (holds_at slot)) s.views (omega arith) in let x = sum_some (holds_at slot) z.item.tabs z.some_ in no_holder z.i z.item z.at x.i x.item x.at x.some_))

  -- The turn of one slot goes from old to new.

  module _ (t slot : ℕ) (old new : Tab X) (v' : View X) (one : OneTab v v' t old new) (lt : slot < k.slots) where
    small : slot < length s.places
    small = let z = so.anchors.shaped.places in omega arith

    -- its word becomes n, and its cell at home c
    module _ (n : ℕ) (c : Option (Cell X)) where
      abbrev ws : List ℕ
      ws = set s.words (index k (Turn slot)) n

      abbrev ps : List (Option (Cell X))
      ps = set s.places slot c

      itself : OneTurn n (sum_by (count (holds_at slot)) (set s.views i v')) c → Turned k ws ps (set s.views i v') slot
      itself here = subst (λ (z : ℕ). OneTurn z (sum_by (count (holds_at slot)) (set s.views i v')) (get_or ps slot None)) (sym (get_or-set_same s.words (index k (Turn slot)) n 0 (let z = so.anchors.shaped.words in omega arith)))
          (subst (λ (z : Option (Cell X)). OneTurn n (sum_by (count (holds_at slot)) (set s.views i v')) z) (sym (get_or-set_same s.places slot c None small)) here)

      there : ((j : ℕ) → j ≢ slot → holds_at j new ≡ holds_at j old) → (j : ℕ) → j ≢ slot → j < k.slots → Turned k ws ps (set s.views i v') j
      there else j ne lj = let h = of_holders k s so.cells.holders j lj in record {
        turns = let a = word_same in let b = holders_after s.views i v v' at t old new one j in let d = else j ne in let e = h.turns in omega arith;
        few = let a = word_same in let e = h.few in omega arith;
        home = λ e. let q = h.home (sym word_same ∙ e) in (q.0, place_same ∙ q.1);
        away = λ e. place_same ∙ h.away (sym word_same ∙ e);
      }
        where
          word_same : get_or ws (index k (Turn j)) 0 ≡ get_or s.words (index k (Turn j)) 0
          word_same = get_or-set_other s.words (index k (Turn slot)) (index k (Turn j)) n 0 (λ e. ne (omega arith))

          place_same : get_or ps j None ≡ get_or s.places j None
          place_same = get_or-set_other s.places slot j c None ne

      one_changes : OneTurn n (sum_by (count (holds_at slot)) (set s.views i v')) c → ((j : ℕ) → j ≢ slot → holds_at j new ≡ holds_at j old) → OneHolder k (turned k s i ws ps v')
      one_changes here else = to_holders k (turned k s i ws ps v') (λ j lj. dite (ℕ_discrete j slot)
          (λ e. subst (λ (z : ℕ). Turned k ws ps (set s.views i v') z) (sym e) (itself here))
          (λ ne. there else j ne lj))

    -- The cell goes from home to the tab.

    module _ (c : Cell X) (none : turn_of old ≡ NoTurn) (has : turn_of new ≡ Has (taken slot c)) (free : turn_word k s slot ≡ 0) (home : get_or s.places slot None ≡ Some c) where
      abbrev s₁ : State X
      s₁ = turned k s i (set s.words (index k (Turn slot)) 1) (set s.places slot None) v'

      taken_holders : OneHolder k s₁
      taken_holders = one_changes 1 None
          (taken_turn 1 (sum_by (count (holds_at slot)) (set s.views i v')) None refl
          (let a = holders_after s.views i v v' at t old new one slot in let b = turn_here slot (turn_of new) (taken slot c) has refl in let d = turn_nowhere slot (turn_of old) none in let e = so.cells.holders.turns slot lt in omega arith) refl)
          (λ j ne. turn_else j (turn_of new) (taken slot c) has (λ e. ne (sym e)) ∙ sym (turn_nowhere j (turn_of old) none))

      taken_cells : (j : ℕ) (d : Cell X) → IsCell s₁ j d → IsCell s j d
      taken_cells j d is = ⊎_elim
          (λ (e : get_or (set s.places slot None) j None ≡ Some d). dite (ℕ_discrete j slot)
          (λ q. absurd (none_here d (sym (get_or-set_same s.places slot None None small) ∙ ap (λ (z : ℕ). get_or (set s.places slot None) z None) (sym q) ∙ e)))
          (λ ne. inl (sym (get_or-set_other s.places slot j None None ne) ∙ e)))
          (⊎_elim
          (λ (q : (g : Hold X) × (turn_of new ≡ Has g) × (g.slot ≡ j) × (g.cell ≡ d)). let same = sym has ∙ q.1 in
          inl (ap (λ (z : ℕ). get_or s.places z None) (sym q.2 ∙ sym (same_slot (taken slot c) q.0 same)) ∙ home ∙ ap Some (ap Hold.cell (same_hold (taken slot c) q.0 same) ∙ q.3)))
          inr)
          (cell_after k s i v so at (set s.words (index k (Turn slot)) 1) (set s.places slot None) v' t old new one j d is)

      taken_keeps : TabPiece k s₁ new → TurnFits k s new → IsApart k s i t slot → Sees v v' → CellsSound k s₁
      taken_keeps piece fits apart seen = cells_kept k s i v so at (set s.words (index k (Turn slot)) 1) (set s.places slot None) v' t old new record {
        one = one;
        seen = seen;
        low = turn_low slot 1;
        holders = taken_holders;
        fits = fits;
        cells = λ j d is. inl (taken_cells j d is);
        piece = piece;
        homes = homes_else k s i v so at (set s.words (index k (Turn slot)) 1) None v' t slot apart;
      }

    -- It goes from the tab to its home.

    module _ (h : Hold X) (has : turn_of old ≡ Has h) (is : h.slot ≡ slot) (none : turn_of new ≡ NoTurn) where
      abbrev s₀ : State X
      s₀ = turned k s i (set s.words (index k (Turn slot)) 0) (set s.places slot (Some h.cell)) v'

      ended_holders : OneHolder k s₀
      ended_holders = one_changes 0 (Some h.cell)
          (free_turn 0 (sum_by (count (holds_at slot)) (set s.views i v')) (Some h.cell) h.cell refl
          (let a = holders_after s.views i v v' at t old new one slot in let b = turn_here slot (turn_of old) h has is in let d = turn_nowhere slot (turn_of new) none in
          let e = so.cells.holders.turns slot lt in let f = so.cells.holders.few slot lt in omega arith) refl)
          (λ j ne. turn_nowhere j (turn_of new) none ∙ sym (turn_else j (turn_of old) h has (λ e. ne (sym e ∙ is))))

      ended_cells : (j : ℕ) (d : Cell X) → IsCell s₀ j d → IsCell s j d
      ended_cells j d is' = ⊎_elim
          (λ (e : get_or (set s.places slot (Some h.cell)) j None ≡ Some d). dite (ℕ_discrete j slot)
          (λ q. inr record {
            i = i;
            view = v;
            at = at;
            t = t;
            tab = old;
            there = one.was;
            hold = h;
            turn = has;
            slot_is = is ∙ sym q;
            cell_is = some_same h.cell d (sym (get_or-set_same s.places slot (Some h.cell) None small) ∙ ap (λ (z : ℕ). get_or (set s.places slot (Some h.cell)) z None) (sym q) ∙ e);
          })
          (λ ne. inl (sym (get_or-set_other s.places slot j (Some h.cell) None ne) ∙ e)))
          (⊎_elim
          (λ (q : (g : Hold X) × (turn_of new ≡ Has g) × (g.slot ≡ j) × (g.cell ≡ d)). absurd (no_hold q.0 (sym none ∙ q.1)))
          inr)
          (cell_after k s i v so at (set s.words (index k (Turn slot)) 0) (set s.places slot (Some h.cell)) v' t old new one j d is')

      ended_keeps : TabPiece k s₀ new → IsApart k s i t slot → Sees v v' → CellsSound k s₀
      ended_keeps piece apart seen = cells_kept k s i v so at (set s.words (index k (Turn slot)) 0) (set s.places slot (Some h.cell)) v' t old new record {
        one = one;
        seen = seen;
        low = turn_low slot 0;
        holders = ended_holders;
        fits = fits_none new none;
        cells = λ j d is'. inl (ended_cells j d is');
        piece = piece;
        homes = homes_else k s i v so at (set s.words (index k (Turn slot)) 0) (Some h.cell) v' t slot apart;
      }

  -- A try, of a tab that reads.

  module _ (t slot : ℕ) (v' : View X) (seen : Sees v v') (r : Reader X) (was : get_elem? v.tabs t ≡ some (Reading r)) (may : MayRead s slot r) (none : has_turn r.turn ≡ false) where
    read_inside : slot < k.slots
    read_inside = (followed k s i v so.anchors so.slots at pass t slot r was may.0).inside

    read_here : IsApart k s i t slot
    read_here j u ut p x is ne = read_apart k s i v so at r.anchor slot (at_times (chain_of s r.anchor).slots r.place slot (read_slot k s i v so at i v at t r was slot may.0 may.1)) j u ut p x is

    abbrev tried_reader : Bool → Tab X
    tried_reader hit = Reading record r { turn = cond hit (turn_with slot (get_or s.places slot None)) r.turn }

    try_reader : (hit : Bool) → hit ≡ (turn_word k s slot == 0) → v'.tabs ≡ set v.tabs t (tried_reader hit)
        → CellsSound k (turned k s i (set s.words (index k (Turn slot)) (cond hit 1 (turn_word k s slot))) (cond hit (set s.places slot None) s.places) v')
    try_reader true e tabs = let free = eqb-true (turn_word k s slot) 0 (sym e) in let c = so.cells.holders.home slot read_inside free in let has : turn_of (tried_reader true) ≡ Has (taken slot c.0) = ap (turn_with slot) c.1 in
        taken_keeps t slot (Reading r) (tried_reader true) v' record { was = was; becomes = tabs } read_inside c.0 (turn_none r.turn none) has free c.1 tt
        (λ g q. let same = same_slot (taken slot c.0) g (sym has ∙ q) in subst (λ (z : ℕ). (z < k.slots) × IsNext s z r × (r.found ≢ NotWritten)) same (read_inside, may.0, may.1))
        read_here seen
    try_reader false e tabs = subst (λ ws. CellsSound k (turned k s i ws s.places v')) (sym (set_again s.words (index k (Turn slot))))
        (cells_kept k s i v so at s.words s.places v' t (Reading r) (tried_reader false) record {
          one = one;
          seen = seen;
          low = λ p lt. refl;
          holders = same_holders k s i v so at s.words s.places v' t (Reading r) (tried_reader false) one (λ j. refl);
          fits = fits_none (tried_reader false) idle;
          cells = λ j d is. inl (⊎_elim inl (⊎_elim
              (λ (q : (g : Hold X) × (turn_of (tried_reader false) ≡ Has g) × (g.slot ≡ j) × (g.cell ≡ d)). absurd (no_hold q.0 (sym idle ∙ q.1)))
              inr)
              (cell_after k s i v so at s.words s.places v' t (Reading r) (tried_reader false) one j d is));
          piece = tt;
          homes = λ j u ut p w is ne q h. homes_stay k s i v so at s.words v' w q h;
        })
      where
        idle : turn_of (tried_reader false) ≡ NoTurn
        idle = turn_none r.turn none

        one : OneTab v v' t (Reading r) (tried_reader false)
        one = record { was = was; becomes = tabs }

  -- Of one that writes. It finds the turn free.

  module _ (t slot : ℕ) (v' : View X) (seen : Sees v v') (w : Writer X) (was : get_elem? v.tabs t ≡ some (Writing w)) (may : MayWrite slot w) (none : has_turn w.turn ≡ false) where
    abbrev tried_writer : Bool → Tab X
    tried_writer hit = Writing record w { is_written = cond hit false w.is_written; is_settled = cond hit false w.is_settled; turn = cond hit (turn_with slot (get_or s.places slot None)) w.turn }

    has_it : 0 < held_in slot (Writing w)
    has_it = reserves_first w slot may.first

    try_writer : (hit : Bool) → hit ≡ (turn_word k s slot == 0) → v'.tabs ≡ set v.tabs t (tried_writer hit)
        → CellsSound k (turned k s i (set s.words (index k (Turn slot)) (cond hit 1 (turn_word k s slot))) (cond hit (set s.places slot None) s.places) v')
    try_writer true e tabs = let free = turn_is_free t (Writing w) was (turn_none w.turn none) slot has_it in let inside = held_inside t (Writing w) was (turn_none w.turn none) slot has_it in let c = so.cells.holders.home slot inside free in
        let has : turn_of (tried_writer true) ≡ Has (taken slot c.0) = ap (turn_with slot) c.1 in let old : WriterPiece k s w = so.cells.writers i v at t (Writing w) was in
        taken_keeps t slot (Writing w) (tried_writer true) v' record { was = was; becomes = tabs } inside c.0 (turn_none w.turn none) has free c.1
        record {
          drawn = old.drawn;
          fits = old.fits;
          offer = old.offer;
          logged = λ e. absurd (not_some slot (sym (old.logged e).0 ∙ may.logged));
          home = λ q going written chosen. absurd (false≢true written);
          held = λ q g turn written chosen. absurd (false≢true (ap Hold.is_written (same_hold (taken slot c.0) g (sym has ∙ turn)) ∙ written));
          synced = λ g turn settled. absurd (false≢true (ap Hold.is_settled (same_hold (taken slot c.0) g (sym has ∙ turn)) ∙ settled));
        }
        (λ g q. let same = same_slot (taken slot c.0) g (sym has ∙ q) in subst (λ (z : ℕ). (z < k.slots) × (w.reserved ≡ z ∷ rest_of w.reserved)) same (inside, may.first))
        (held_alone k s i v so at t (Writing w) was slot has_it) seen
    try_writer false e tabs = absurd (false≢true (e ∙ eq-eqb (turn_word k s slot) 0 (turn_is_free t (Writing w) was (turn_none w.turn none) slot has_it)))

  -- Of one that frees. It finds the turn free too.

  module _ (t slot : ℕ) (v' : View X) (seen : Sees v v') (f : Freer X) (was : get_elem? v.tabs t ≡ some (Freeing f)) (may : MayWipe slot f) (none : has_turn f.turn ≡ false) where
    abbrev tried_freer : Bool → Tab X
    tried_freer hit = Freeing record f { turn = cond hit (turn_with slot (get_or s.places slot None)) f.turn }

    rests_it : 0 < held_in slot (Freeing f)
    rests_it = rests_first f slot may.front

    try_freer : (hit : Bool) → hit ≡ (turn_word k s slot == 0) → v'.tabs ≡ set v.tabs t (tried_freer hit)
        → CellsSound k (turned k s i (set s.words (index k (Turn slot)) (cond hit 1 (turn_word k s slot))) (cond hit (set s.places slot None) s.places) v')
    try_freer true e tabs = let free = turn_is_free t (Freeing f) was (turn_none f.turn none) slot rests_it in let inside = held_inside t (Freeing f) was (turn_none f.turn none) slot rests_it in let c = so.cells.holders.home slot inside free in
        let has : turn_of (tried_freer true) ≡ Has (taken slot c.0) = ap (turn_with slot) c.1 in
        taken_keeps t slot (Freeing f) (tried_freer true) v' record { was = was; becomes = tabs } inside c.0 (turn_none f.turn none) has free c.1 tt
        (λ g q. let same = same_slot (taken slot c.0) g (sym has ∙ q) in subst (λ (z : ℕ). (z < k.slots) × MayWipe z (record f { turn = turn_with slot (get_or s.places slot None) })) same (inside, wipe_again slot f (turn_with slot (get_or s.places slot None)) may))
        (held_alone k s i v so at t (Freeing f) was slot rests_it) seen
    try_freer false e tabs = absurd (false≢true (e ∙ eq-eqb (turn_word k s slot) 0 (turn_is_free t (Freeing f) was (turn_none f.turn none) slot rests_it)))

  -- The end of a turn.

  module _ (t : ℕ) (v' : View X) (seen : Sees v v') (h : Hold X) (then : Then) where
    abbrev s₂ : State X
    s₂ = turned k s i (set s.words (index k (Turn h.slot)) 0) (set s.places h.slot (Some h.cell)) v'

    end_reader : (r : Reader X) → get_elem? v.tabs t ≡ some (Reading r) → r.turn ≡ Has h → v'.tabs ≡ set v.tabs t (ends (Reading r) then) → CellsSound k s₂
    end_reader r was has tabs = let f = so.cells.turns i v at t (Reading r) was h has in
        ended_keeps t h.slot (Reading r) (ends (Reading r) then) v' record { was = was; becomes = tabs } f.0 h has refl (idle then) (piece then)
        (λ j u ut p x is ne. read_apart k s i v so at r.anchor h.slot (at_times (chain_of s r.anchor).slots r.place h.slot (read_slot k s i v so at i v at t r was h.slot f.1 f.2)) j u ut p x is) seen
      where
        idle : (z : Then) → turn_of (ends (Reading r) z) ≡ NoTurn
        idle Stays = refl
        idle GoesOn = refl
        idle Wiped = refl

        piece : (z : Then) → TabPiece k s₂ (ends (Reading r) z)
        piece Stays = tt
        piece GoesOn = tt
        piece Wiped = tt

    end_writer : (w : Writer X) → get_elem? v.tabs t ≡ some (Writing w) → w.turn ≡ Has h → v'.tabs ≡ set v.tabs t (ends (Writing w) then) → CellsSound k s₂
    end_writer w was has tabs = let f = so.cells.turns i v at t (Writing w) was h has in let old : WriterPiece k s w = so.cells.writers i v at t (Writing w) was in
        ended_keeps t h.slot (Writing w) (ends (Writing w) then) v' record { was = was; becomes = tabs } f.0 h has refl refl
        record {
          drawn = old.drawn;
          fits = old.fits;
          offer = old.offer;
          logged = λ e. ((old.logged e).0, refl);
          home = λ q going written chosen. record {
            slot = h.slot;
            first = f.1;
            cell = h.cell;
            home = get_or-set_same s.places h.slot (Some h.cell) None (let z = so.anchors.shaped.places in let y = f.0 in omega arith);
            written = old.held q h has (sym (ap was_written has) ∙ written) chosen;
            settled = λ e. old.synced h has (sym (ap was_settled has) ∙ e);
          };
          held = λ q g turn written chosen. absurd (no_hold g turn);
          synced = λ g turn settled. absurd (no_hold g turn);
        }
        (written_apart k s i v so at t w was h.slot (let c : times h.slot w.reserved ≡ times h.slot (h.slot ∷ rest_of w.reserved) = ap (times h.slot) f.1 in let o = one_same h.slot in omega arith)) seen

    end_freer : (f : Freer X) → get_elem? v.tabs t ≡ some (Freeing f) → f.turn ≡ Has h → v'.tabs ≡ set v.tabs t (ends (Freeing f) then) → CellsSound k s₂
    end_freer f was has tabs = let q = so.cells.turns i v at t (Freeing f) was h has in
        ended_keeps t h.slot (Freeing f) (ends (Freeing f) then) v' record { was = was; becomes = tabs } q.0 h has refl refl tt
        (held_alone k s i v so at t (Freeing f) was h.slot (rests_first f h.slot q.1.front)) seen

pub try_turn_cells : {X : Type 0} → (k : Setting X) (s : State X) (i : ℕ) (v : View X) → Sound k s → get_elem? s.views i ≡ some v → IsPass v → (t slot : ℕ) → Allowed k s v (TryTurn t slot) → CellsSound k (after k s i v (TryTurn t slot))
try_turn_cells {X} k s i v so at pass t slot may = let v' : View X = view_after v (TryTurn t slot) (finding k s v (TryTurn t slot)) in
    let see : Sees v v' = contains_later (sights_found k s v (TryTurn t slot)) v.seen in ⊎_elim
    (λ h. let q = of_reader (MayRead s slot) (tab_at v t) h in try_reader k s i v so at pass t slot v' see q.0 (tab_was k s i v so.anchors so.slots at pass t (Reading q.0) may.0 q.1) q.2 (subst (λ (z : Tab X). holds_turn z ≡ false) q.1 may.1)
    (turn_word k s slot == 0) refl (ap (λ (z : Tab X). set v.tabs t (tries z slot (turn_word k s slot) (get_or s.places slot None))) q.1))
    (⊎_elim
    (λ h. let q = of_writer (MayWrite slot) (tab_at v t) h in try_writer k s i v so at pass t slot v' see q.0 (tab_was k s i v so.anchors so.slots at pass t (Writing q.0) may.0 q.1) q.2 (subst (λ (z : Tab X). holds_turn z ≡ false) q.1 may.1)
    (turn_word k s slot == 0) refl (ap (λ (z : Tab X). set v.tabs t (tries z slot (turn_word k s slot) (get_or s.places slot None))) q.1))
    (λ h. let q = of_freer (MayWipe slot) (tab_at v t) h in try_freer k s i v so at pass t slot v' see q.0 (tab_was k s i v so.anchors so.slots at pass t (Freeing q.0) may.0 q.1) q.2 (subst (λ (z : Tab X). holds_turn z ≡ false) q.1 may.1)
    (turn_word k s slot == 0) refl (ap (λ (z : Tab X). set v.tabs t (tries z slot (turn_word k s slot) (get_or s.places slot None))) q.1)))
    may.2

pub end_turn_cells : {X : Type 0} → (k : Setting X) (s : State X) (i : ℕ) (v : View X) → Sound k s → get_elem? s.views i ≡ some v → IsPass v → (t slot : ℕ) (then : Then) → Allowed k s v (EndTurn t slot then)
    → CellsSound k (after k s i v (EndTurn t slot then))
end_turn_cells {X} k s i v so at pass t slot then may = let h = may.1.0 in let v' : View X = view_after v (EndTurn t slot then) (finding k s v (EndTurn t slot then)) in
    let see : Sees v v' = contains_later (wiped_by (tab_at v t) slot then) v.seen in
    subst (λ (z : Option (Cell X)). CellsSound k (turned k s i (set s.words (index k (Turn slot)) 0) (set s.places slot z) v')) (sym (ap cell_held may.1.1))
    (subst (λ (z : ℕ). CellsSound k (turned k s i (set s.words (index k (Turn z)) 0) (set s.places z (Some h.cell)) v')) may.1.2
    (⊎_elim
    (λ (q : (r : Reader X) × (tab_at v t ≡ Reading r) × (r.turn ≡ Has h)). end_reader k s i v so at pass t v' see h then q.0 (tab_was k s i v so.anchors so.slots at pass t (Reading q.0) may.0 q.1) q.2 (ap (λ (z : Tab X). set v.tabs t (ends z then)) q.1))
    (⊎_elim
    (λ (q : (w : Writer X) × (tab_at v t ≡ Writing w) × (w.turn ≡ Has h)). end_writer k s i v so at pass t v' see h then q.0 (tab_was k s i v so.anchors so.slots at pass t (Writing q.0) may.0 q.1) q.2 (ap (λ (z : Tab X). set v.tabs t (ends z then)) q.1))
    (λ (q : (f : Freer X) × (tab_at v t ≡ Freeing f) × (f.turn ≡ Has h)). end_freer k s i v so at pass t v' see h then q.0 (tab_was k s i v so.anchors so.slots at pass t (Freeing q.0) may.0 q.1) q.2 (ap (λ (z : Tab X). set v.tabs t (ends z then)) q.1)))
    (turn_tab (tab_at v t) h may.1.1)))
