-- A slot has one cell, wherever it is.
use Rattle.std.proofs.Common.{◌≡◌, inl, inr, ℕ, ◌<◌, List, length, sym, refl, ap, ◌∙◌, subst, arith, Some, None}
use Rattle.std.specs.Prelude.{slice_index_or}
use mathlib.Core.Option.{some, some-injective}
use mathlib.Core.Logic.{dite}
use native.Mathlib.Decide.{ℕ_discrete}
use lib.ListN.{get_elem?}
use Rattle.core_model.specs.declared.tab.Cell.{Cell}
use Rattle.core_model.specs.declared.tab.Hold.{Hold}
use Rattle.core_model.specs.declared.tab.Turn.{Turn}
use Rattle.core_model.specs.declared.tab.Turn.TheVariants.{Has}
use Rattle.core_model.specs.declared.view.View.{View}
use Rattle.core_model.specs.Cells.{IsCell, IsHeldCell}
use Rattle.core_model.specs.Holders.{IsTab}
use Rattle.core_model.specs.Sound.{Sound}
use Rattle.core_model.specs.State.{turn_word}
use Rattle.core_model.specs.Tabs.{turn_of}
use Rattle.core_model.proofs.Holders.{one_holder, is_away, has_holder}
use Rattle.core_table.specs.declared.content.Content.{Content}
use Rattle.core_table.specs.Machine.{Machine, setting_of, state_of}
use Rattle.core_lives.specs.Crash.{IsHeldIn}
use Rattle.core_lives.proofs.Seeking.{at_contains, contains_at}

one_hold : (g h : Hold Content) → ◌≡◌ {A = Turn Content} (Has g) (Has h) → g ≡ h
one_hold g h e = cc

same_cell : (c d : Cell Content) → Some c ≡ Some d → c ≡ d
same_cell c d e = cc

no_cell : (c : Cell Content) → None ≡ Some c → ⊥
no_cell c e = cc

module _ (m : Machine) where
  pub held_cell : (slot : ℕ) (c : Cell Content) → IsHeldIn m.views slot c → IsHeldCell (state_of m) slot c
  held_cell slot c h = let v = at_contains m.views h.view h.among in let t = at_contains h.view.tabs h.held.tab h.held.among in record {
    i = v.0;
    view = h.view;
    at = v.1;
    t = t.0;
    tab = h.held.tab;
    there = t.1;
    hold = h.held.holds.hold;
    turn = h.held.holds.has;
    slot_is = h.held.holds.slot_is;
    cell_is = h.held.holds.cell_is;
  }

  module _ (so : Sound (setting_of m) (state_of m)) where
    pub many_places : (slot : ℕ) → slot < m.slots → slot < length m.places
    many_places slot lt = let n = so.anchors.shaped.places in omega arith

    is_tab : (slot : ℕ) (c : Cell Content) (h : IsHeldCell (state_of m) slot c) → IsTab (state_of m) h.i h.t h.tab
    is_tab slot c h = record { view = h.view; at = h.at; there = h.there }

    away : (slot : ℕ) (c d : Cell Content) → slice_index_or m.places slot None ≡ Some c → IsHeldCell (state_of m) slot d → ⊥
    away slot c d home h = let out = (is_away (setting_of m) (state_of m) so h.i h.t h.tab h.hold (is_tab slot d h) h.turn).1.empty in
        no_cell c (sym (subst (λ (s : ℕ). slice_index_or m.places s None ≡ None) h.slot_is out) ∙ home)

    same_item : {X : Type 0} (xs : List X) (i j : ℕ) (x y : X) → i ≡ j → get_elem? xs i ≡ some x → get_elem? xs j ≡ some y → x ≡ y
    same_item xs i j x y e p q = some-injective x y (sym p ∙ ap (get_elem? xs) e ∙ q)

    pub one_cell : (slot : ℕ) (c d : Cell Content) → IsCell (state_of m) slot c → IsCell (state_of m) slot d → c ≡ d
    one_cell slot c d (inl p) (inl q) = same_cell c d (sym p ∙ q)
    one_cell slot c d (inl p) (inr q) = absurd (away slot c d p q)
    one_cell slot c d (inr p) (inl q) = absurd (away slot d c q p)
    one_cell slot c d (inr p) (inr q) =
        let e = one_holder (setting_of m) (state_of m) so p.i q.i p.t q.t p.tab q.tab p.hold q.hold (is_tab slot c p) (is_tab slot d q) p.turn q.turn (p.slot_is ∙ sym q.slot_is) in
        let views : p.view ≡ q.view = same_item m.views p.i q.i p.view q.view e.0 p.at q.at in
        let tabs : p.tab ≡ q.tab = same_item q.view.tabs p.t q.t p.tab q.tab e.1 (subst (λ (v : View Content). get_elem? v.tabs p.t ≡ some p.tab) views p.there) q.there in
        let holds : p.hold ≡ q.hold = one_hold p.hold q.hold (sym p.turn ∙ ap turn_of tabs ∙ q.turn) in
        sym p.cell_is ∙ ap (λ (h : Hold Content). h.cell) holds ∙ q.cell_is

    -- a cell that is not home is at a tab
    pub not_lost : (slot : ℕ) → slot < m.slots → slice_index_or m.places slot None ≡ None → ((c : Cell Content) → IsHeldIn m.views slot c → ⊥) → ⊥
    not_lost slot lt home none = dite (ℕ_discrete (turn_word (setting_of m) (state_of m) slot) 0)
        (λ e. let h = so.cells.holders.home slot lt e in no_cell h.0 (sym home ∙ h.1))
        (λ ne. let h = has_holder (setting_of m) (state_of m) so slot lt ne in none h.hold.cell record {
          view = h.is_tab.view;
          among = contains_at m.views h.i h.is_tab.view h.is_tab.at;
          held = record {
            tab = h.tab;
            among = contains_at h.is_tab.view.tabs h.t h.tab h.is_tab.there;
            holds = record { hold = h.hold; has = h.turn; slot_is = h.slot_is; cell_is = refl };
          };
        })
