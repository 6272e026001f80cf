-- The piece that a tab chose is of the version that the tab writes: a step keeps it.
use Rattle.std.proofs.Common.{◌≡◌, ◌⊎◌, inl, inr, ⊎_elim, ℕ, Some, None, sym, ap, ◌∙◌, subst}
use mathlib.Core.Option.{some, some-injective, some-ne-none}
use lib.ListN.{get_elem?}
use Rattle.core_model.specs.declared.moves.Move.{Move}
use Rattle.core_model.specs.declared.tab.Piece.{Piece}
use Rattle.core_model.specs.declared.tab.Tab.{Tab}
use Rattle.core_model.specs.declared.tab.Tab.TheVariants.{Free, Writing}
use Rattle.core_model.specs.declared.tab.Writer.{Writer}
use Rattle.core_model.specs.declared.view.View.{View}
use Rattle.core_model.specs.CellMoves.{note_of}
use Rattle.core_model.specs.Entries.{ChoiceAfter, IsNowChosen, IsStillChosen}
use Rattle.core_model.specs.Holders.{IsTab}
use Rattle.core_model.specs.Layout.{Setting}
use Rattle.core_model.specs.State.{State}
use Rattle.core_model.specs.Steps.{after, finding, view_after}
use Rattle.core_model.specs.Table.{Allowed}
use Rattle.core_model.specs.Tabs.{tab_at}
use Rattle.core_model.proofs.Choices.{choice_after, view_was}
use Rattle.core_model.proofs.Lists.{at_or}
use Rattle.core_log.proofs.Follows.{Follow, tabs_follow}
use Rattle.core_wiped.specs.Wipes.{ChoicesOwn}

none_some : (p : Piece) → None ≡ Some p → ⊥
none_some p e = cc

module _ {X : Type 0} (k : Setting X) (s : State X) (i : ℕ) (v : View X) (at : get_elem? s.views i ≡ some v) (m : Move)
    (may : Allowed k s v m) (own : ChoicesOwn s) where
  same_writer : (w x : Writer X) → ◌≡◌ {A = Tab X} (Writing w) (Writing x) → w.version ≡ x.version
  same_writer w x e = ap version_in e
    where
      version_in : Tab X → ℕ
      version_in (Writing y) = y.version
      version_in _ = 0

  -- of a tab of the pass
  mine : (t : ℕ) (x : Writer X) (p : Piece) → x.chosen ≡ Some p → Follow k s v m t (tab_at v t) (Writing x)
      → (a : ChoiceAfter s i m i t x p) → p.version ≡ x.version
  mine t x p c (inl b) a = absurd (none_some p (sym b.none ∙ c))
  mine t x p c (inr q) a = ⊎_elim
      (λ (z : IsStillChosen a.old x p). own i t z.writer p (subst (IsTab s i t) z.is a.was) z.chosen
      ∙ same_writer z.writer q.writer (sym z.is ∙ was) ∙ sym q.version)
      (λ (z : (i ≡ i) × IsNowChosen m t a.old x p). ap Piece.version z.1.piece ∙ same_writer z.1.writer q.writer (sym z.1.is ∙ was)
      ∙ sym q.version)
      a.so
    where
      was : a.old ≡ Writing q.writer
      was = let here : get_elem? v.tabs t ≡ some a.old = subst
          (λ (u : View X). get_elem? u.tabs t ≡ some a.old) (some-injective a.was.view v (sym a.was.at ∙ at)) a.was.there in
          sym (at_or v.tabs t a.old Free here) ∙ q.is

  pub choices_kept : ChoicesOwn (after k s i v m)
  choices_kept j t x p is c = ⊎_elim
      (λ (q : (j ≡ i) × (is.view ≡ view_after v m (finding k s v m))). mine t x p c
      (tabs_follow k s v m may t (Writing x) (subst (λ (z : View X). get_elem? z.tabs t ≡ some (Writing x)) q.1 is.there))
      (subst (λ (n : ℕ). ChoiceAfter s i m n t x p) q.0 (choice_after k s i v m at may j t x p is c)))
      (λ (q : (get_elem? s.views j ≡ some is.view) ⊎ (is.view ≡ note_of is.view)). ⊎_elim
      (λ (r : get_elem? s.views j ≡ some is.view). own j t x p record { view = is.view; at = r; there = is.there } c)
      (λ (r : is.view ≡ note_of is.view). absurd
      (some-ne-none (Writing x) (sym (subst (λ (z : View X). get_elem? z.tabs t ≡ some (Writing x)) r is.there))))
      q)
      (view_was k s i v m j is.view is.at)
