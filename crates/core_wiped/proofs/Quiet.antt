-- Words and chains stay, what was seen is what is seen, and no cell has more that a crash may leave: what holds of wiped slots
-- stays. So it is where notes come and go, and where a cell in the hands of a tab becomes another one.
use Rattle.std.proofs.Common.{◌≡◌, ◌≢◌, ◌⊎◌, inl, inr, ⊎_elim, ℕ, List, [], ◌∷◌, ◌++◌, set, length, Some, refl, sym, ap, ◌∙◌, subst, arith}
use Rattle.std.proofs.Common.{Contains}
use Rattle.std.proofs.lemmas.List.Elements.{Contains-append_left}
use mathlib.Core.Option.{some, some-injective, some-ne-none}
use mathlib.Core.Logic.{dite}
use native.Mathlib.Decide.{ℕ_discrete}
use lib.ListN.{get_elem?}
use Rattle.core_model.specs.declared.tab.Cell.{Cell}
use Rattle.core_model.specs.declared.tab.Freer.{Freer}
use Rattle.core_model.specs.declared.tab.Hold.{Hold}
use Rattle.core_model.specs.declared.tab.Piece.{Piece}
use Rattle.core_model.specs.declared.tab.Tab.{Tab}
use Rattle.core_model.specs.declared.tab.Tab.TheVariants.{Freeing, Writing}
use Rattle.core_model.specs.declared.tab.Turn.{Turn}
use Rattle.core_model.specs.declared.tab.Turn.TheVariants.{Has}
use Rattle.core_model.specs.declared.tab.Writer.{Writer}
use Rattle.core_model.specs.declared.view.Deed.{Deed}
use Rattle.core_model.specs.declared.view.Item.{Item}
use Rattle.core_model.specs.declared.view.LoggedPiece.{LoggedPiece}
use Rattle.core_model.specs.declared.view.Sight.{Sight}
use Rattle.core_model.specs.declared.view.Sight.TheVariants.{Stood, Wiped}
use Rattle.core_model.specs.declared.view.View.{View}
use Rattle.core_model.specs.CellMoves.{map_some, note_of, spent}
use Rattle.core_model.specs.Cells.{IsCell}
use Rattle.core_model.specs.Holders.{IsTab}
use Rattle.core_model.specs.Layout.{Setting}
use Rattle.core_model.specs.Sound.{Sound}
use Rattle.core_model.specs.State.{State}
use Rattle.core_model.specs.TableForms.{IsNoteAt, IsSpentAt, MayBlank, MayRewrite, learned_from, learns, noted_at, noted_behind, renewed}
use Rattle.core_model.specs.TableForms.{with_held, with_wiped}
use Rattle.core_model.specs.Tabs.{IsPass, turn_of}
use Rattle.core_model.proofs.Lists.{at_length, at_set, contains_none, set_else, set_here}
use Rattle.core_model.proofs.NotesCells.{renews_sound}
use Rattle.core_model.proofs.NotesFrame.{Before, IsSeen as Knows, Renews, SightsKnown, known_both, known_none, known_view, still_seen}
use Rattle.core_model.proofs.NotesFrame.{was_seen}
use Rattle.core_model.proofs.NotesRenewed.{Quiet, learns_goes, new_note_renews, note_renews, pass_renews}
use Rattle.core_log.specs.Logged.{LogStands}
use Rattle.core_log.specs.Seen.{IsSeen}
use Rattle.core_log.proofs.Kept.{chosen_some}
use Rattle.core_wiped.specs.Wipes.{ChoicesOwn, IsOfOther, IsWiped, WipesStand}
use Rattle.core_wiped.proofs.Left.{IsChosenAt, IsPossible, WasLeft}
use Rattle.core_wiped.proofs.WipesKept.{chosen_other}

-- a deed of one of these views
pub record HasDeed {X : Type 0} (views : List (View X)) (d : Deed) : Type 0 where
  pub i : ℕ
  pub view : View X
  pub at : get_elem? views i ≡ some view
  pub done : Contains view.deeds d

module _ {X : Type 0} (k : Setting X) (s : State X) (log : List LoggedPiece) (views : List (View X)) (ws : WipesStand k s log)
    (now : (x : Sight) → IsSeen s.views x → IsSeen views x) (then : (x : Sight) → IsSeen views x → IsSeen s.views x)
    (deeds : (d : Deed) → HasDeed views d → HasDeed s.views d)
    (left : (a version slot : ℕ) → IsWiped k s log a version slot → (c : Cell X) (x : X) → IsCell (renewed s views) slot c
    → Contains c.possible x → IsOfOther k log version slot x)
    (choices : ChoicesOwn (renewed s views)) where
  still_wiped : (a version slot : ℕ) → IsWiped k s log a version slot → IsWiped k (renewed s views) log a version slot
  still_wiped a version slot is = record {
    freed = record {
      epoch = is.freed.epoch;
      seen = now (Stood a is.freed.epoch) is.freed.seen;
      version_is = is.freed.version_is;
      stage_is =
          is.freed.stage_is;
      doom_is = is.freed.doom_is;
    };
    inside = is.inside;
    first = is.first;
    left = left a version slot is;
  }

  pub quiet_wipes : WipesStand k (renewed s views) log
  quiet_wipes = record {
    each = λ a version slot h. still_wiped a version slot (ws.each a version slot (then (Wiped a version slot) h));
    starts = ws.starts;
    deeds = λ i v at d c changes. let q = deeds d record { i = i; view = v; at = at; done = c } in
        now (Stood d.anchor d.epoch) (ws.deeds q.i q.view q.at d q.done changes);
    choices = choices;
    filled = ws.filled;
  }

-- Notes.

module _ {X : Type 0} (k : Setting X) (s : State X) (log : List LoggedPiece) (views : List (View X)) (r : Renews k s views)
    (ws : WipesStand k s log) where
  tab_was : (j t : ℕ) (x : Tab X) → IsTab (renewed s views) j t x → IsTab s j t x
  tab_was j t x is = ⊎_elim
      (λ (b : Before s.views j is.view). record {
        view = b.0;
        at = b.1;
        there = subst
            (λ (z : List (Tab X)). get_elem? z t ≡ some x) b.2.tabs is.there;
      })
      (λ (e : is.view ≡ note_of is.view). absurd (some-ne-none x (sym (subst (λ (z : View X). get_elem? z.tabs t ≡ some x) e is.there))))
      (r.now j is.view is.at)

  cell_was : (slot : ℕ) (c : Cell X) → IsCell (renewed s views) slot c → IsCell s slot c
  cell_was slot c (inl e) = inl e
  cell_was slot c (inr h) = let q = tab_was h.i h.t h.tab record { view = h.view; at = h.at; there = h.there } in
      inr record {
        i = h.i;
        view = q.view;
        at = q.at;
        t = h.t;
        tab = h.tab;
        there = q.there;
        hold = h.hold;
        turn = h.turn;
        slot_is =
            h.slot_is;
        cell_is = h.cell_is;
      }

  deed_was : (d : Deed) → HasDeed views d → HasDeed s.views d
  deed_was d h = ⊎_elim
      (λ (b : Before s.views h.i h.view). record {
        i = h.i;
        view = b.0;
        at = b.1;
        done = subst
            (λ (z : List Deed). Contains z d) b.2.deeds h.done;
      })
      (λ (e : h.view ≡ note_of h.view). absurd (contains_none d (subst (λ (z : View X). Contains z.deeds d) e h.done)))
      (r.now h.i h.view h.at)

  pub renews_wipes : WipesStand k (renewed s views) log
  renews_wipes = quiet_wipes k s log views ws
      (λ x h. let q = still_seen k s views r x record { i = h.i; view = h.view; at = h.at; seen = h.seen } in
      record { i = q.i; view = q.view; at = q.at; seen = q.seen })
      (λ x h. let q = was_seen k s views r h.i h.view h.at x h.seen in record { i = q.i; view = q.view; at = q.at; seen = q.seen })
      deed_was
      (λ a version slot is c x cell q. is.left c x (cell_was slot c cell) q)
      (λ i t w p is. ws.choices i t w p (tab_was i t (Writing w) is))

module _ {X : Type 0} (k : Setting X) (s : State X) (log : List LoggedPiece) (ws : WipesStand k s log) (i : ℕ) (v : View X) (so : Sound k s)
    (at : get_elem? s.views i ≡ some v) (pass : IsPass v) (item : Item) (quiet : Quiet item.kind) where
  -- a view without tabs is not that of the pass
  elsewhere : (n : ℕ) (u : View X) → IsNoteAt s n u → n ≢ i
  elsewhere n u note e = let same : v ≡ u = some-injective v u (sym at ∙ subst (λ (z : ℕ). get_elem? s.views z ≡ some u) e note.at) in
      absurd (let l = pass in let z = ap length (ap View.tabs same ∙ note.no_tabs) in omega arith)

  abbrev noting : View X
  noting = learns v [] item

  abbrev noting_state : State X
  noting_state = renewed s (set s.views i noting)

  noting_renews : Renews k s (set s.views i noting)
  noting_renews = pass_renews k s so i v noting at pass (learns_goes v [] item quiet) (known_view k s so.anchors.seen i v at)

  noting_sound : Sound k noting_state
  noting_sound = renews_sound k s (set s.views i noting) noting_renews so

  noting_wipes : WipesStand k noting_state log
  noting_wipes = renews_wipes k s log (set s.views i noting) noting_renews ws

  noting_known : SightsKnown k noting_state v.seen
  noting_known = known_view k noting_state noting_sound.anchors.seen i noting (set_here s.views i noting (at_length s.views i v at))

  pub noted_behind_wipes : WipesStand k (noted_behind s i v item) log
  noted_behind_wipes = renews_wipes k noting_state log (noting_state.views ++ note_of v ∷ [])
      (new_note_renews k noting_state noting_sound v noting_known) noting_wipes

  pub noted_at_wipes : (n : ℕ) (u : View X) → IsSpentAt s n u → WipesStand k (noted_at s i v item n) log
  noted_at_wipes n u free = renews_wipes k noting_state log (set noting_state.views n (note_of v))
      (note_renews k noting_state noting_sound n u v
      (set_else s.views i n noting (elsewhere n u free.note) ∙ free.note.at)
      (so.anchors.shaped.notes n u free.note.at free.note.no_tabs)
      (λ x h. absurd (contains_none x (subst (λ z. Contains z x) free.unseen h)))
      noting_known)
      noting_wipes

  module _ (n : ℕ) (u : View X) (note : IsNoteAt s n u) where
    abbrev learning : View X
    learning = learns v u.seen item

    abbrev learning_state : State X
    learning_state = renewed s (set s.views i learning)

    learning_renews : Renews k s (set s.views i learning)
    learning_renews = pass_renews k s so i v learning at pass (learns_goes v u.seen item quiet)
        (known_both k s u.seen v.seen (known_view k s so.anchors.seen n u note.at) (known_view k s so.anchors.seen i v at))

    still_known : (x : Sight) → Contains u.seen x → Knows (set learning_state.views n spent) x
    still_known x h = record {
      i = i;
      view = learning;
      at = set_else learning_state.views n i spent (λ e. elsewhere n u note (sym e))
          ∙ set_here s.views i learning (at_length s.views i v at);
      seen = Contains-append_left u.seen v.seen x h;
    }

    pub learned_from_wipes : WipesStand k (learned_from s i v item n u) log
    learned_from_wipes = let sound = renews_sound k s (set s.views i learning) learning_renews so in
        renews_wipes k learning_state log (set learning_state.views n spent)
        (note_renews k learning_state sound n u spent (set_else s.views i n learning (elsewhere n u note) ∙ note.at)
        (so.anchors.shaped.notes n u note.at note.no_tabs) still_known (known_none k learning_state))
        (renews_wipes k s log (set s.views i learning) learning_renews ws)

-- Cells in the hands of a tab.

-- the tab t of the view becomes this one
abbrev pub with_turned : {X : Type 0} → View X → ℕ → Tab X → View X
with_turned v t y = record v { tabs = set v.tabs t y }

module _ {X : Type 0} (k : Setting X) (s : State X) (log : List LoggedPiece) (i t : ℕ) (v : View X) (x y : Tab X) (old new : Hold X)
    (so : Sound k s) (st : LogStands k s log) (ws : WipesStand k s log) (at : get_elem? s.views i ≡ some v)
    (there : get_elem? v.tabs t ≡ some x) (turn : turn_of x ≡ Has old) (turned : turn_of y ≡ Has new) (slot_is : new.slot ≡ old.slot)
    (within : (z : X) → Contains new.cell.possible z → WasLeft k s old.slot z)
    (own : (w : Writer X) (p : Piece) → y ≡ Writing w → w.chosen ≡ Some p → p.version ≡ w.version) where
  abbrev w : View X
  w = with_turned v t y

  abbrev s' : State X
  s' = renewed s (set s.views i w)

  one_turn : (g h : Hold X) → ◌≡◌ {A = Turn X} (Has g) (Has h) → g ≡ h
  one_turn g h e = cc

  turned_was : (j u : ℕ) (z : Tab X) → IsTab s' j u z → IsTab s j u z ⊎ (y ≡ z)
  turned_was j u z h = ⊎_elim
      (λ (q : (j ≡ i) × (w ≡ h.view)). ⊎_elim
      (λ (r : (u ≡ t) × (y ≡ z)). inr r.1)
      (λ (r : (u ≢ t) × (get_elem? v.tabs u ≡ some z)). inl
      (subst (λ (n : ℕ). IsTab s n u z) (sym q.0) record { view = v; at = at; there = r.1 }))
      (at_set v.tabs t u y z (subst (λ (a : View X). get_elem? a.tabs u ≡ some z) (sym q.1) h.there)))
      (λ (q : (j ≢ i) × (get_elem? s.views j ≡ some h.view)). inl record { view = h.view; at = q.1; there = h.there })
      (at_set s.views i j w h.view h.at)

  -- what a crash may leave it might leave before, or the tab wrote it
  left_was : (slot : ℕ) (c : Cell X) (z : X) → IsCell s' slot c → Contains c.possible z → WasLeft k s slot z
  left_was slot c z (inl e) q = inl record { cell = c; is = inl e; possible = q }
  left_was slot c z (inr h) q = ⊎_elim
      (λ (a : IsTab s h.i h.t h.tab). inl record {
        cell = c;
        is = inr record {
          i = h.i;
          view = a.view;
          at = a.at;
          t = h.t;
          tab = h.tab;
          there = a.there;
          hold = h.hold;
          turn =
              h.turn;
          slot_is = h.slot_is;
          cell_is = h.cell_is;
        };
        possible = q;
      })
      (λ (e : y ≡ h.tab). let same = one_turn new h.hold (sym turned ∙ ap turn_of e ∙ h.turn) in
      subst (λ (n : ℕ). WasLeft k s n z) (sym slot_is ∙ ap Hold.slot same ∙ h.slot_is)
      (within z (subst (λ (d : Cell X). Contains d.possible z) (sym h.cell_is ∙ ap Hold.cell (sym same)) q)))
      (turned_was h.i h.t h.tab record { view = h.view; at = h.at; there = h.there })

  seen_before : (z : Sight) → IsSeen s'.views z → IsSeen s.views z
  seen_before z h = ⊎_elim
      (λ (q : (h.i ≡ i) × (w ≡ h.view)). record {
        i = i;
        view = v;
        at = at;
        seen = subst
            (λ (a : View X). Contains a.seen z) (sym q.1) h.seen;
      })
      (λ (q : (h.i ≢ i) × (get_elem? s.views h.i ≡ some h.view)). record { i = h.i; view = h.view; at = q.1; seen = h.seen })
      (at_set s.views i h.i w h.view h.at)

  seen_after : (z : Sight) → IsSeen s.views z → IsSeen s'.views z
  seen_after z h = dite (ℕ_discrete h.i i)
      (λ e. record {
        i = i;
        view = w;
        at = set_here s.views i w (at_length s.views i v at);
        seen = subst
            (λ (a : View X). Contains a.seen z) (some-injective h.view v (sym h.at ∙ ap (get_elem? s.views) e ∙ at)) h.seen;
      })
      (λ ne. record { i = h.i; view = h.view; at = set_else s.views i h.i w ne ∙ h.at; seen = h.seen })

  deed_before : (d : Deed) → HasDeed s'.views d → HasDeed s.views d
  deed_before d h = ⊎_elim
      (λ (q : (h.i ≡ i) × (w ≡ h.view)). record {
        i = i;
        view = v;
        at = at;
        done = subst
            (λ (a : View X). Contains a.deeds d) (sym q.1) h.done;
      })
      (λ (q : (h.i ≢ i) × (get_elem? s.views h.i ≡ some h.view)). record { i = h.i; view = h.view; at = q.1; done = h.done })
      (at_set s.views i h.i w h.view h.at)

  pub turned_wipes : WipesStand k s' log
  turned_wipes = quiet_wipes k s log (set s.views i w) ws seen_after seen_before deed_before
      (λ a version slot is c z cell q. ⊎_elim
      (λ (p : IsPossible k s slot z). is.left p.cell z p.is p.possible)
      (⊎_elim
      (λ (p : IsChosenAt k s slot z). chosen_other k s log so st ws a version slot slot z is p)
      (λ (p : z ≡ k.blank). inl p))
      (left_was slot c z cell q))
      (λ j u z p is c. ⊎_elim (λ (a : IsTab s j u (Writing z)). ws.choices j u z p a c)
      (λ (e : y ≡ Writing z). own z p e c) (turned_was j u (Writing z) is))

module _ {X : Type 0} (k : Setting X) (s : State X) (log : List LoggedPiece) (i t : ℕ) (v : View X) (old new : Hold X) (so : Sound k s)
    (st : LogStands k s log) (ws : WipesStand k s log) (at : get_elem? s.views i ≡ some v) where
  held : (x : Tab X) → get_elem? v.tabs t ≡ some x → turn_of x ≡ Has old → IsCell s old.slot old.cell
  held x there turn = inr record {
    i = i;
    view = v;
    at = at;
    t = t;
    tab = x;
    there = there;
    hold = old;
    turn = turn;
    slot_is =
        refl;
    cell_is = refl;
  }

  same_writer : (w z : Writer X) → ◌≡◌ {A = Tab X} (Writing w) (Writing z) → w ≡ z
  same_writer w z e = ap as_writer e
    where
      as_writer : Tab X → Writer X
      as_writer (Writing a) = a
      as_writer _ = w

  not_writer : (f : Freer X) (w : Writer X) → ◌≡◌ {A = Tab X} (Freeing f) (Writing w) → ⊥
  not_writer f w e = cc

  pub written_wipes : (w : Writer X) → MayRewrite k v t w old new → WipesStand k (with_held s i v t w new) log
  written_wipes w may = turned_wipes k s log i t v (Writing w)
      (Writing record w { turn = Has new }) old new so st ws at may.writes may.turn refl may.slot_is
      (λ z c. ⊎_elim
      (λ (q : Contains old.cell.possible z). inl record { cell = old.cell; is = held (Writing w) may.writes may.turn; possible = q })
      (λ (q : map_some k.image w.chosen ≡ Some z). let p = chosen_some k w z q in
      inr (inl record {
        i = i;
        t = t;
        writer = w;
        tab = record { view = v; at = at; there = may.writes };
        hold = old;
        turn =
            may.turn;
        slot_is = refl;
        piece = p.0;
        chosen = p.1;
        is = p.2;
      }))
      (may.within z c))
      (λ z p e c. let same = same_writer (record w { turn = Has new }) z e in
      ws.choices i t w p record { view = v; at = at; there = may.writes } (ap Writer.chosen same ∙ c) ∙ ap Writer.version same)

  pub blanked_wipes : (f : Freer X) → MayBlank k v t f old new → WipesStand k (with_wiped s i v t f new) log
  blanked_wipes f may = turned_wipes k s log i t v (Freeing f)
      (Freeing record f { turn = Has new }) old new so st ws at may.frees may.turn refl may.slot_is
      (λ z c. ⊎_elim
      (λ (q : Contains old.cell.possible z). inl record { cell = old.cell; is = held (Freeing f) may.frees may.turn; possible = q })
      (λ (q : z ≡ k.blank). inr (inr q))
      (may.within z c))
      (λ z p e c. absurd (not_writer (record f { turn = Has new }) z e))
