-- A slot has one cell, at home or in the hands of a tab.
use Rattle.std.proofs.Common.{◌≡◌, inl, inr, ℕ, List, get_or, sym, ap, ◌∙◌, subst, Some, None}
use mathlib.Core.Option.{some, some-injective}
use lib.ListN.{get_elem?}
use Rattle.core_model.specs.declared.tab.Cell.{Cell}
use Rattle.core_model.specs.declared.tab.Hold.{Hold}
use Rattle.core_model.specs.declared.tab.Turn.{Turn}
use Rattle.core_model.specs.declared.tab.Turn.TheVariants.{Has}
use Rattle.core_model.specs.declared.view.View.{View}
use Rattle.core_model.specs.Cells.{IsCell, IsHeldCell}
use Rattle.core_model.specs.Holders.{IsTab}
use Rattle.core_model.specs.Layout.{Setting}
use Rattle.core_model.specs.Sound.{Sound}
use Rattle.core_model.specs.State.{State}
use Rattle.core_model.specs.Tabs.{turn_of}
use Rattle.core_model.proofs.Holders.{is_away, one_holder}
use Rattle.core_log.proofs.Kept.{no_cell, some_cell}

same_item : {A : Type 0} (xs : List A) (i j : ℕ) (x y : A) → i ≡ j → get_elem? xs i ≡ some x → get_elem? xs j ≡ some y → x ≡ y
same_item xs i j x y e p q = some-injective x y (sym p ∙ ap (get_elem? xs) e ∙ q)

module _ {X : Type 0} (k : Setting X) (s : State X) (so : Sound k s) where
  one_hold : (g h : Hold X) → ◌≡◌ {A = Turn X} (Has g) (Has h) → g ≡ h
  one_hold g h e = cc

  is_tab : (slot : ℕ) (c : Cell X) (h : IsHeldCell s slot c) → IsTab s h.i h.t h.tab
  is_tab slot c h = record { view = h.view; at = h.at; there = h.there }

  away : (slot : ℕ) (c d : Cell X) → get_or s.places slot None ≡ Some c → IsHeldCell s slot d → ⊥
  away slot c d home h = let out = (is_away k s so h.i h.t h.tab h.hold (is_tab slot d h) h.turn).1.empty in
      no_cell c (sym (subst (λ (j : ℕ). get_or s.places j None ≡ None) h.slot_is out) ∙ home)

  pub one_cell : (slot : ℕ) (c d : Cell X) → IsCell s slot c → IsCell s slot d → c ≡ d
  one_cell slot c d (inl p) (inl q) = some_cell c d (sym p ∙ q)
  one_cell slot c d (inl p) (inr q) = absurd (away slot c d p q)
  one_cell slot c d (inr p) (inl q) = absurd (away slot d c q p)
  one_cell slot c d (inr p) (inr q) =
      let e = one_holder k s so p.i q.i p.t q.t p.tab q.tab p.hold q.hold (is_tab slot c p) (is_tab slot d q) p.turn q.turn
      (p.slot_is ∙ sym q.slot_is) in
      let views : p.view ≡ q.view = same_item s.views p.i q.i p.view q.view e.0 p.at q.at in
      let tabs : p.tab ≡ q.tab = same_item q.view.tabs p.t q.t p.tab q.tab e.1
      (subst (λ (v : View X). get_elem? v.tabs p.t ≡ some p.tab) views p.there) q.there in
      let holds : p.hold ≡ q.hold = one_hold p.hold q.hold (sym p.turn ∙ ap turn_of tabs ∙ q.turn) in
      sym p.cell_is ∙ ap (λ (h : Hold X). h.cell) holds ∙ q.cell_is
