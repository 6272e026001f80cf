-- Each step keeps that a crash may leave of a slot what the opening had there, or a piece that was logged for it.
use Rattle.std.proofs.Common.{◌≡◌, ◌⊎◌, inl, inr, ⊎_elim, ℕ, zero, suc, List, [], ◌∷◌, ◌++◌, get_or, set, sym, refl, ap, ◌∙◌, subst, arith, Bool, true, false, cond, ◌==◌, Option, Some, None, Contains, get_or-set_other}
use mathlib.Core.Option.{some, some-ne-none}
use mathlib.Core.Logic.{dite}
use native.Mathlib.Decide.{ℕ_discrete}
use lib.ListN.{get_elem?}
use Rattle.core_model.specs.declared.tab.Freer.{Freer}
use Rattle.core_model.specs.declared.view.LoggedPiece.{LoggedPiece}
use Rattle.core_model.specs.declared.moves.Move.{Move}
use Rattle.core_model.specs.declared.moves.Move.TheVariants.{Look, Enter, Leave, Count, Draw, Take, Evict, Raise, Doom, LoadSide, StoreSide, Own, Disown, Publish, Loosen, GetLink, TryTurn, EndTurn, CellOut, CellIn, Note, Learn, Write, Sync, LookMap, LogPiece}
use Rattle.core_model.specs.declared.tab.Cell.{Cell}
use Rattle.core_model.specs.declared.tab.Hold.{Hold}
use Rattle.core_model.specs.declared.tab.Piece.{Piece}
use Rattle.core_model.specs.declared.tab.Reader.{Reader}
use Rattle.core_model.specs.declared.tab.Turn.TheVariants.{NoTurn, Has}
use Rattle.core_model.specs.declared.tab.Writer.{Writer}
use Rattle.core_model.specs.declared.tab.Tab.{Tab}
use Rattle.core_model.specs.declared.tab.Tab.TheVariants.{Free, Reading, Writing, Freeing}
use Rattle.core_model.specs.declared.view.View.{View}
use Rattle.core_model.specs.Layout.{Setting, word_in}
use Rattle.core_model.specs.State.{State, turn_word}
use Rattle.core_model.specs.Tabs.{tab_at, turn_of}
use Rattle.core_model.specs.CellMoves.{cell_held, chosen_content, map_some, note_of, piece_of}
use Rattle.core_model.specs.Cells.{IsCell, IsHeldCell}
use Rattle.core_model.specs.Holders.{IsTab}
use Rattle.core_model.specs.Sound.{Sound}
use Rattle.core_model.specs.Steps.{finding, view_after, after}
use Rattle.core_model.specs.Table.{Allowed}
use Rattle.core_model.proofs.Choices.{view_was}
use Rattle.core_model.proofs.CellsTab.{turn_tab}
use Rattle.core_log.specs.Logged.{HasLogged, IsKnown, ChoseLogged, CellsLogged, logged_now, logged_with}
use Rattle.core_log.proofs.Changes.{HoldWas, ChoiceWas, ChoiceNow, TurnWas, TurnUnlogged, Goes, WasHome, tabs_go}
use Rattle.core_model.specs.declared.view.Place.TheVariants.{LogCounter}

contains_later : {A : Type 0} (xs ys : List A) (y : A) → Contains ys y → Contains (xs ++ ys) y
contains_later [] ys y h = h
contains_later (x ∷ xs) ys y h = let r = contains_later xs ys y h in (suc r.0, (let z = r.1 in omega arith), r.2)

-- what was logged stays
later : (new log : List LoggedPiece) (slot : ℕ) (p : Piece) → HasLogged log slot p → HasLogged (new ++ log) slot p
later new log slot p h = record { link = h.link; among = contains_later new log h.link h.among; slot_is = h.slot_is; piece_is = h.piece_is }

pub one_slot : (a b : ℕ) → Some a ≡ Some b → a ≡ b
one_slot a b e = cc

no_slot : (a : ℕ) → None ≡ Some a → ⊥
no_slot a e = cc

module _ {X : Type 0} where
  known_later : (k : Setting X) (new log : List LoggedPiece) (slot : ℕ) (x : X) → IsKnown k log slot x → IsKnown k (new ++ log) slot x
  known_later k new log slot x (inl e) = inl e
  known_later k new log slot x (inr (inl q)) = inr (inl (q.0, later new log slot q.0 q.1, q.2))
  known_later k new log slot x (inr (inr e)) = inr (inr e)

  pub not_has : (h : Hold X) → NoTurn ≡ Has h → ⊥
  not_has h e = cc

  pub some_cell : (c d : Cell X) → Some c ≡ Some d → c ≡ d
  some_cell c d e = cc

  pub no_cell : (c : Cell X) → None ≡ Some c → ⊥
  no_cell c e = cc

  -- a tab that holds a turn is among the tabs
  pub there_at : (xs : List (Tab X)) (t : ℕ) (h : Hold X) → turn_of (get_or xs t Free) ≡ Has h → get_elem? xs t ≡ some (get_or xs t Free)
  there_at [] t h e = absurd (not_has h e)
  there_at (x ∷ xs) zero h e = refl
  there_at (x ∷ xs) (suc t) h e = there_at xs t h e

  pub writes_at : (xs : List (Tab X)) (t : ℕ) (w : Writer X) → get_or xs t Free ≡ Writing w → get_elem? xs t ≡ some (Writing w)
  writes_at [] t w e = absurd (not_free e)
    where
      not_free : ◌≡◌ {A = Tab X} Free (Writing w) → ⊥
      not_free e = cc
  writes_at (x ∷ xs) zero w e = ap some e
  writes_at (x ∷ xs) (suc t) w e = writes_at xs t w e

  one_content : (x y : X) → Some x ≡ Some y → y ≡ x
  one_content x y e = cc

  -- the content of the piece that a tab chose
  pub chosen_some : (k : Setting X) (w : Writer X) (x : X) → chosen_content k (Writing w) ≡ Some x → (p : Piece) × (w.chosen ≡ Some p) × (x ≡ k.image p)
  chosen_some k w x e = of_option w.chosen refl e
    where
      one : (y : X) → Some y ≡ Some x → x ≡ y
      one y e = cc

      none : ◌≡◌ {A = Option X} None (Some x) → ⊥
      none e = cc

      of_option : (c : Option Piece) → w.chosen ≡ c → map_some k.image c ≡ Some x → (p : Piece) × (w.chosen ≡ Some p) × (x ≡ k.image p)
      of_option None c e = absurd (none e)
      of_option (Some p) c e = (p, c, one (k.image p) e)

module _ {X : Type 0} (k : Setting X) (s : State X) (log : List LoggedPiece) (i : ℕ) (v : View X) (so : Sound k s) (st : CellsLogged k s log) (at : get_elem? s.views i ≡ some v) where
  -- A tab of the pass, and what it holds.

  pub mine : (t : ℕ) (h : Hold X) → turn_of (tab_at v t) ≡ Has h → IsHeldCell s h.slot h.cell
  mine t h e = record { i = i; view = v; at = at; t = t; tab = tab_at v t; there = there_at v.tabs t h e; hold = h; turn = e; slot_is = refl; cell_is = refl }

  my_tab : (t : ℕ) (w : Writer X) → tab_at v t ≡ Writing w → IsTab s i t (Writing w)
  my_tab t w e = record { view = v; at = at; there = writes_at v.tabs t w e }

  -- the piece that a tab with a turn chose was logged for the slot of the turn
  held_logged : (t : ℕ) (w : Writer X) (h : Hold X) (p : Piece) → tab_at v t ≡ Writing w → w.turn ≡ Has h → w.chosen ≡ Some p → HasLogged log h.slot p
  held_logged t w h p is turn chosen = let found = st.chosen i t w p (my_tab t w is) chosen in
      subst (λ (n : ℕ). HasLogged log n p) (one_slot found.0 h.slot (sym found.1.slot_is ∙ st.turn i t w h (my_tab t w is) turn)) found.1.logged

  -- each content that a crash may leave of a cell that the tab held before the step
  was_known : (t : ℕ) (h : Hold X) → HoldWas k s (tab_at v t) h → (x : X) → Contains h.cell.possible x → IsKnown k log h.slot x
  was_known t h w x c = subst (λ (n : ℕ). IsKnown k log n x) w.slot_is (⊎_elim
      (λ (q : Contains w.hold.cell.possible x). st.possible w.hold.slot w.hold.cell x (inr held) q)
      (⊎_elim
      (λ (q : x ≡ w.hold.cell.now). st.possible w.hold.slot w.hold.cell x (inr held) (subst (Contains w.hold.cell.possible) (sym q) (so.cells.contents.possible w.hold.slot w.hold.cell (inr held))))
      (λ (q : chosen_content k (tab_at v t) ≡ Some x). of_tab (turn_tab (tab_at v t) w.hold w.turn) q))
      (w.possible x c))
    where
      held : IsHeldCell s w.hold.slot w.hold.cell
      held = mine t w.hold w.turn

      no_content : (r : Reader X) → tab_at v t ≡ Reading r → chosen_content k (tab_at v t) ≡ Some x → ⊥
      no_content r e q = absurd (none (sym (ap (chosen_content k) e) ∙ q))
        where
          none : ◌≡◌ {A = Option X} None (Some x) → ⊥
          none e = cc

      of_tab : ((r : Reader X) × (tab_at v t ≡ Reading r) × (r.turn ≡ Has w.hold)) ⊎ ((y : Writer X) × (tab_at v t ≡ Writing y) × (y.turn ≡ Has w.hold)) ⊎ ((f : Freer X) × (tab_at v t ≡ Freeing f) × (f.turn ≡ Has w.hold)) → chosen_content k (tab_at v t) ≡ Some x → IsKnown k log w.hold.slot x
      of_tab (inl r) q = absurd (no_content r.0 r.1 q)
      of_tab (inr (inl y)) q = let c = chosen_some k y.0 x (sym (ap (chosen_content k) y.1) ∙ q) in inr (inl (c.0, held_logged t y.0 w.hold c.0 y.1 y.2 c.1, c.2))
      of_tab (inr (inr f)) q = inr (inr (one_content k.blank x (sym (ap (chosen_content k) f.1) ∙ q)))

  -- A cell that is home afterwards was home, or in the hands of a tab.

  none_there : (c : Cell X) (a : ℕ) (xs : List (Option (Cell X))) → get_or (set xs a None) a None ≡ Some c → ⊥
  none_there c a [] e = no_cell c e
  none_there c zero (x ∷ xs) e = no_cell c e
  none_there c (suc a) (x ∷ xs) e = none_there c a xs e

  put_there : (c d : Cell X) (a : ℕ) (xs : List (Option (Cell X))) → get_or (set xs a (Some d)) a None ≡ Some c → d ≡ c
  put_there c d a [] e = absurd (no_cell c e)
  put_there c d zero (x ∷ xs) e = some_cell d c e
  put_there c d (suc a) (x ∷ xs) e = put_there c d a xs e

  turned_home : (slot j : ℕ) (hit : Bool) (c : Cell X) → get_or (cond hit (set s.places slot None) s.places) j None ≡ Some c → get_or s.places j None ≡ Some c
  turned_home slot j true c e = dite (ℕ_discrete j slot)
      (λ q. absurd (none_there c slot s.places (ap (λ (n : ℕ). get_or (set s.places slot None) n None) (sym q) ∙ e)))
      (λ ne. sym (get_or-set_other s.places slot j None None ne) ∙ e)
  turned_home slot j false c e = e

  ended_home : (t slot j : ℕ) (h : Hold X) → turn_of (tab_at v t) ≡ Has h → h.slot ≡ slot → (c : Cell X) → get_or (set s.places slot (Some h.cell)) j None ≡ Some c
      → (get_or s.places j None ≡ Some c) ⊎ IsHeldCell s j c
  ended_home t slot j h e is c q = dite (ℕ_discrete j slot)
      (λ same. inr (subst (λ (n : ℕ). IsHeldCell s n c) (is ∙ sym same) (subst (IsHeldCell s h.slot) (put_there c h.cell slot s.places (ap (λ (n : ℕ). get_or (set s.places slot (Some h.cell)) n None) (sym same) ∙ q)) (mine t h e))))
      (λ ne. inl (sym (get_or-set_other s.places slot j (Some h.cell) None ne) ∙ q))

  -- by the kind of the step
  pub home_was : (m : Move) → Allowed k s v m → (j : ℕ) (c : Cell X) → get_or (after k s i v m).places j None ≡ Some c → (get_or s.places j None ≡ Some c) ⊎ IsHeldCell s j c
  home_was (Look a) may j c e = inl e
  home_was (Enter t a) may j c e = inl e
  home_was (Leave t) may j c e = inl e
  home_was Count may j c e = inl e
  home_was Draw may j c e = inl e
  home_was (Take t a u) may j c e = inl e
  home_was (Evict t a) may j c e = inl e
  home_was (Raise t to) may j c e = inl e
  home_was (Doom t) may j c e = inl e
  home_was (LoadSide t side) may j c e = inl e
  home_was (StoreSide t side value) may j c e = inl e
  home_was (Own t slot) may j c e = inl e
  home_was (Disown t slot) may j c e = inl e
  home_was (LookMap t word) may j c e = inl e
  home_was (LogPiece t slot is_durable) may j c e = inl e
  home_was (Publish t slot link) may j c e = inl e
  home_was (Loosen t slot) may j c e = inl e
  home_was (GetLink t slot) may j c e = inl e
  home_was (TryTurn t slot) may j c e = inl (turned_home slot j (turn_word k s slot == 0) c e)
  home_was (EndTurn t slot then) may j c e = let h = may.1.0 in
      ended_home t slot j h may.1.1 may.1.2 c (subst (λ (o : Option (Cell X)). get_or (set s.places slot o) j None ≡ Some c) (ap cell_held may.1.1) e)
  home_was (CellOut t slot) may j c e = inl e
  home_was (CellIn t slot) may j c e = inl e
  home_was Note may j c e = inl e
  home_was (Learn note) may j c e = inl e
  home_was (Write t slot outcome) may j c e = inl e
  home_was (Sync t slot kept) may j c e = inl e

  module _ (m : Move) (may : Allowed k s v m) where
    abbrev more : List LoggedPiece
    more = logged_now k s v m ++ log

    -- a tab afterwards is the pass's own, or was there
    pub tab_was : (j t : ℕ) (x : Tab X) → IsTab (after k s i v m) j t x → ((j ≡ i) × Goes k s m t (tab_at v t) x) ⊎ IsTab s j t x
    tab_was j t x is = ⊎_elim
        (λ (q : (j ≡ i) × (is.view ≡ view_after v m (finding k s v m))). inl (q.0, tabs_go k s v m may t x (subst (λ (z : View X). get_elem? z.tabs t ≡ some x) q.1 is.there)))
        (λ (q : (get_elem? s.views j ≡ some is.view) ⊎ (is.view ≡ note_of is.view)). ⊎_elim
        (λ (r : get_elem? s.views j ≡ some is.view). inr record { view = is.view; at = r; there = is.there })
        (λ (r : is.view ≡ note_of is.view). absurd (some-ne-none x (sym (subst (λ (z : View X). get_elem? z.tabs t ≡ some x) r is.there))))
        q)
        (view_was k s i v m j is.view is.at)

    held_known : (slot : ℕ) (c : Cell X) (x : X) → IsHeldCell (after k s i v m) slot c → Contains c.possible x → IsKnown k log slot x
    held_known slot c x h q = subst (λ (n : ℕ). IsKnown k log n x) h.slot_is (⊎_elim
        (λ (z : (h.i ≡ i) × Goes k s m h.t (tab_at v h.t) h.tab). ⊎_elim
        (λ (w : HoldWas k s (tab_at v h.t) h.hold). was_known h.t h.hold w x here)
        (λ (w : WasHome k s h.hold). st.possible h.hold.slot h.hold.cell x (inl w) here)
        (z.1.0 h.hold h.turn))
        (λ (z : IsTab s h.i h.t h.tab). st.possible h.hold.slot h.hold.cell x (inr record { i = h.i; view = z.view; at = z.at; t = h.t; tab = h.tab; there = z.there; hold = h.hold; turn = h.turn; slot_is = refl; cell_is = refl }) here)
        (tab_was h.i h.t h.tab record { view = h.view; at = h.at; there = h.there }))
      where
        here : Contains h.hold.cell.possible x
        here = subst (λ (d : Cell X). Contains d.possible x) (sym h.cell_is) q

    possible : (slot : ℕ) (c : Cell X) (x : X) → IsCell (after k s i v m) slot c → Contains c.possible x → IsKnown k log slot x
    possible slot c x (inl e) q = ⊎_elim (λ (z : get_or s.places slot None ≡ Some c). st.possible slot c x (inl z) q) (λ (z : IsHeldCell s slot c). st.possible slot c x (inr z) q) (home_was m may slot c e)
    possible slot c x (inr h) q = held_known slot c x h q

    -- the piece that the step chooses is logged by it
    now_logged : (t slot : ℕ) (is_durable : Bool) (w : Writer X) → m ≡ LogPiece t slot is_durable → tab_at v t ≡ Writing w → HasLogged more slot (piece_of w)
    now_logged t slot is_durable w is tab = subst (λ (n : Move). HasLogged (logged_now k s v n ++ log) slot (piece_of w)) (sym is)
        (subst (λ (y : Tab X). HasLogged (logged_with slot is_durable (word_in k s.words LogCounter) y ++ log) slot (piece_of w)) (sym tab)
        record { link = _; among = (0, omega arith, refl); slot_is = refl; piece_is = refl })

    chosen : (j t : ℕ) (w : Writer X) (p : Piece) → IsTab (after k s i v m) j t (Writing w) → w.chosen ≡ Some p → (slot : ℕ) × ChoseLogged more slot p w.logged_in
    chosen j t w p is c = ⊎_elim
        (λ (z : (j ≡ i) × Goes k s m t (tab_at v t) (Writing w)). ⊎_elim
        (λ (q : ChoiceWas k s (tab_at v t) w p). let f = st.chosen i t q.writer p (my_tab t q.writer q.is) q.chosen in (f.0, record { slot_is = q.slot_same ∙ f.1.slot_is; logged = later (logged_now k s v m) log f.0 p f.1.logged }))
        (λ (q : ChoiceNow k s m t (tab_at v t) w p). (q.slot, record { slot_is = q.slot_is; logged = subst (HasLogged more q.slot) (sym q.piece) (now_logged t q.slot q.is_durable q.writer q.logs_it q.is) }))
        (z.1.1.0 p c))
        (λ (z : IsTab s j t (Writing w)). let f = st.chosen j t w p z c in (f.0, record { slot_is = f.1.slot_is; logged = later (logged_now k s v m) log f.0 p f.1.logged }))
        (tab_was j t (Writing w) is)

    -- a turn is of the slot that the tab's piece was logged for
    turn_of_piece : Sound k (after k s i v m) → (j t : ℕ) (w : Writer X) (h : Hold X) → IsTab (after k s i v m) j t (Writing w) → w.turn ≡ Has h → w.logged_in ≡ Some h.slot
    turn_of_piece so' j t w h is turn = by_choice w.chosen refl
      where
        by_choice : (o : Option Piece) → w.chosen ≡ o → w.logged_in ≡ Some h.slot
        by_choice None e = absurd (not_has h (sym ((so'.cells.writers j is.view is.at t (Writing w) is.there).logged e).1 ∙ turn))
        by_choice (Some p) e = ⊎_elim
            (λ (z : (j ≡ i) × Goes k s m t (tab_at v t) (Writing w)). ⊎_elim
            (λ (q : TurnWas k s (tab_at v t) w h). q.slot_same ∙ st.turn i t q.writer q.hold (my_tab t q.writer q.is) q.turn ∙ ap Some q.same)
            (⊎_elim
            (λ (q : w.logged_in ≡ Some h.slot). q)
            (λ (q : TurnUnlogged k s (tab_at v t) h). let my = my_tab t q.writer q.is in absurd (not_has h (sym ((so.cells.writers i my.view my.at t (Writing q.writer) my.there).logged q.none).1 ∙ q.turn))))
            (z.1.1.1 h p turn e))
            (λ (z : IsTab s j t (Writing w)). st.turn j t w h z turn)
            (tab_was j t (Writing w) is)

    pub cells_logged : Sound k (after k s i v m) → CellsLogged k (after k s i v m) (logged_now k s v m ++ log)
    cells_logged so' = record { possible = λ slot c x is q. known_later k (logged_now k s v m) log slot x (possible slot c x is q); chosen = chosen; turn = turn_of_piece so' }
