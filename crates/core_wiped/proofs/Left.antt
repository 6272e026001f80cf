-- What a crash may leave of a cell after a step it might leave before, or it is the piece that a tab chose which writes the cell,
-- or it is blank.
use Rattle.std.proofs.Common.{◌≡◌, ◌⊎◌, inl, inr, ⊎_elim, ℕ, List, get_or, Option, Some, None, refl, sym, ap, ◌∙◌, subst, Contains}
use mathlib.Core.Option.{some}
use lib.ListN.{get_elem?}
use Rattle.core_model.specs.declared.moves.Move.{Move}
use Rattle.core_model.specs.declared.tab.Cell.{Cell}
use Rattle.core_model.specs.declared.tab.Freer.{Freer}
use Rattle.core_model.specs.declared.tab.Hold.{Hold}
use Rattle.core_model.specs.declared.tab.Piece.{Piece}
use Rattle.core_model.specs.declared.tab.Reader.{Reader}
use Rattle.core_model.specs.declared.tab.Tab.{Tab}
use Rattle.core_model.specs.declared.tab.Tab.TheVariants.{Freeing, Reading, Writing}
use Rattle.core_model.specs.declared.tab.Turn.TheVariants.{Has}
use Rattle.core_model.specs.declared.tab.Writer.{Writer}
use Rattle.core_model.specs.declared.view.LoggedPiece.{LoggedPiece}
use Rattle.core_model.specs.declared.view.View.{View}
use Rattle.core_model.specs.CellMoves.{chosen_content}
use Rattle.core_model.specs.Cells.{IsCell, IsHeldCell}
use Rattle.core_model.specs.Holders.{IsTab}
use Rattle.core_model.specs.Layout.{Setting}
use Rattle.core_model.specs.Sound.{Sound}
use Rattle.core_model.specs.State.{State}
use Rattle.core_model.specs.Steps.{after}
use Rattle.core_model.specs.Table.{Allowed}
use Rattle.core_model.specs.Tabs.{tab_at, turn_of}
use Rattle.core_model.proofs.CellsTab.{turn_tab}
use Rattle.core_log.specs.Logged.{CellsLogged, HasLogged}
use Rattle.core_log.proofs.Changes.{Goes, HoldWas, WasHome}
use Rattle.core_log.proofs.Kept.{chosen_some, home_was, mine, one_slot, tab_was, there_at}

module _ {X : Type 0} (k : Setting X) (s : State X) where
  -- a crash might leave it
  pub record IsPossible (slot : ℕ) (x : X) : Type 0 where
    pub cell : Cell X
    pub is : IsCell s slot cell
    pub possible : Contains cell.possible x

  -- a tab holds the turn at the slot, and chose the piece
  pub record IsChosenAt (slot : ℕ) (x : X) : Type 0 where
    pub i : ℕ
    pub t : ℕ
    pub writer : Writer X
    pub tab : IsTab s i t (Writing writer)
    pub hold : Hold X
    pub turn : writer.turn ≡ Has hold
    pub slot_is : hold.slot ≡ slot
    pub piece : Piece
    pub chosen : writer.chosen ≡ Some piece
    pub is : x ≡ k.image piece

  abbrev pub WasLeft : ℕ → X → Type 0
  WasLeft slot x = IsPossible slot x ⊎ IsChosenAt slot x ⊎ (x ≡ k.blank)

  -- the piece was logged for the slot
  pub chosen_logged : (log : List LoggedPiece) → CellsLogged k s log → (slot : ℕ) (x : X) (c : IsChosenAt slot x)
      → HasLogged log slot c.piece
  chosen_logged log cl slot x c = let found = cl.chosen c.i c.t c.writer c.piece c.tab c.chosen in
      subst (λ (n : ℕ). HasLogged log n c.piece)
      (one_slot found.0 c.hold.slot (sym found.1.slot_is ∙ cl.turn c.i c.t c.writer c.hold c.tab c.turn) ∙ c.slot_is) found.1.logged

  -- what a tab writes that holds the turn at the slot
  pub written_by : (i t slot : ℕ) (y : Tab X) (h : Hold X) (x : X) → IsTab s i t y → turn_of y ≡ Has h → h.slot ≡ slot
      → chosen_content k y ≡ Some x → WasLeft slot x
  written_by i t slot y h x tab turn slot_is e = of_tab (turn_tab y h turn)
    where
      none : ◌≡◌ {A = Option X} None (Some x) → ⊥
      none e = cc

      one_content : (z : X) → Some z ≡ Some x → x ≡ z
      one_content z e = cc

      of_tab : ((r : Reader X) × (y ≡ Reading r) × (r.turn ≡ Has h)) ⊎ ((w : Writer X) × (y ≡ Writing w) × (w.turn ≡ Has h))
          ⊎ ((f : Freer X) × (y ≡ Freeing f) × (f.turn ≡ Has h)) → WasLeft slot x
      of_tab (inl r) = absurd (none (sym (ap (chosen_content k) r.1) ∙ e))
      of_tab (inr (inl w)) = let c = chosen_some k w.0 x (sym (ap (chosen_content k) w.1) ∙ e) in
          inr (inl record {
            i = i;
            t = t;
            writer = w.0;
            tab = subst (IsTab s i t) w.1 tab;
            hold = h;
            turn = w.2;
            slot_is = slot_is;
            piece =
                c.0;
            chosen = c.1;
            is = c.2;
          })
      of_tab (inr (inr f)) = inr (inr (one_content k.blank (sym (ap (chosen_content k) f.1) ∙ e)))

module _ {X : Type 0} (k : Setting X) (s : State X) (log : List LoggedPiece) (i : ℕ) (v : View X) (so : Sound k s)
    (cl : CellsLogged k s log) (at : get_elem? s.views i ≡ some v) (m : Move) (may : Allowed k s v m) where
  pub was_left : (slot : ℕ) (c : Cell X) (x : X) → IsCell (after k s i v m) slot c → Contains c.possible x → WasLeft k s slot x
  was_left slot c x (inl e) q = inl (⊎_elim
      (λ (z : get_or s.places slot None ≡ Some c). record { cell = c; is = inl z; possible = q })
      (λ (z : IsHeldCell s slot c). record { cell = c; is = inr z; possible = q })
      (home_was k s log i v so cl at m may slot c e))
  was_left slot c x (inr h) q = ⊎_elim
      (λ (z : (h.i ≡ i) × Goes k s m h.t (tab_at v h.t) h.tab). ⊎_elim
      (λ (w : HoldWas k s (tab_at v h.t) h.hold). held_was w)
      (λ (w : WasHome k s h.hold). inl record {
        cell = h.hold.cell;
        is = inl
            (subst (λ (n : ℕ). get_or s.places n None ≡ Some h.hold.cell) h.slot_is w);
        possible = here;
      })
      (z.1.0 h.hold h.turn))
      (λ (z : IsTab s h.i h.t h.tab). inl record {
        cell = h.hold.cell;
        is = inr record {
          i = h.i;
          view = z.view;
          at = z.at;
          t = h.t;
          tab = h.tab;
          there = z.there;
          hold =
              h.hold;
          turn = h.turn;
          slot_is = h.slot_is;
          cell_is = refl;
        };
        possible = here;
      })
      (tab_was k s log i v so cl at m may h.i h.t h.tab record { view = h.view; at = h.at; there = h.there })
    where
      here : Contains h.hold.cell.possible x
      here = subst (λ (d : Cell X). Contains d.possible x) (sym h.cell_is) q

      my_tab : (w : HoldWas k s (tab_at v h.t) h.hold) → IsTab s i h.t (tab_at v h.t)
      my_tab w = record { view = v; at = at; there = there_at v.tabs h.t w.hold w.turn }

      held_was : HoldWas k s (tab_at v h.t) h.hold → WasLeft k s slot x
      held_was w = let is : IsCell s slot w.hold.cell = inr
          (subst (λ (n : ℕ). IsHeldCell s n w.hold.cell) (w.slot_is ∙ h.slot_is) (mine k s log i v so cl at h.t w.hold w.turn)) in ⊎_elim
          (λ (p : Contains w.hold.cell.possible x). inl record { cell = w.hold.cell; is = is; possible = p })
          (⊎_elim
          (λ (p : x ≡ w.hold.cell.now). inl record {
            cell = w.hold.cell;
            is = is;
            possible = subst (Contains w.hold.cell.possible) (sym p)
                (so.cells.contents.possible slot w.hold.cell is);
          })
          (λ (p : chosen_content k (tab_at v h.t) ≡ Some x). written_by k s i h.t slot (tab_at v h.t) w.hold x (my_tab w) w.turn
          (w.slot_is ∙ h.slot_is) p))
          (w.possible x here)
