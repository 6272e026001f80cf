-- Entries that were given up go no further where views change by no step: notes come and go, a pass comes to have seen more, or a tab has
-- another cell in its hands.
use Rattle.std.proofs.Common.{◌≡◌, ◌≢◌, ◌⊎◌, inl, inr, ⊎_elim, ℕ, zero, suc, List, [], ◌∷◌, ◌++◌, set, sym, refl, ap, ◌∙◌, subst, Contains}
use Rattle.std.proofs.lemmas.List.Elements.{Contains-append_right}
use mathlib.Core.Option.{some, some-injective, some-ne-none}
use lib.ListN.{get_elem?}
use Rattle.core_model.specs.declared.tab.Freer.{Freer}
use Rattle.core_model.specs.declared.tab.Hold.{Hold}
use Rattle.core_model.specs.declared.tab.Writer.{Writer}
use Rattle.core_model.specs.declared.view.Item.{Item}
use Rattle.core_model.specs.declared.view.Kind.{Kind}
use Rattle.core_model.specs.declared.view.Kind.TheVariants.{Followed, Learned, Looked, Noted}
use Rattle.core_model.specs.declared.view.Sight.{Sight}
use Rattle.core_model.specs.declared.view.Sight.TheVariants.{Stood}
use Rattle.core_model.specs.declared.view.View.{View}
use Rattle.lock_word.specs.Words.{epoch_of}
use Rattle.core_model.specs.CellMoves.{note_of, spent}
use Rattle.core_model.specs.State.{State}
use Rattle.core_model.specs.TableForms.{learned_from, learns, noted_at, noted_behind, renewed, with_held, with_hold, with_wiped, with_wiper}
use Rattle.core_model.proofs.Lists.{at_set, cons_contains, contains_none}
use Rattle.core_halts.specs.Halts.{FoundEnd, HaltsStand, HasEnd, HasHalted, SawNoLink}

-- an item of such a kind is of a step that looked at no anchor and at no link
pub record LooksNowhere (kind : Kind) : Type 0 where
  pub no_anchor : kind ≢ Looked
  pub no_link : kind ≢ Followed

pub noted_nowhere : LooksNowhere Noted
noted_nowhere = record { no_anchor = λ e. cc; no_link = λ e. cc }

pub learned_nowhere : LooksNowhere Learned
learned_nowhere = record { no_anchor = λ e. cc; no_link = λ e. cc }

-- A view found no more than another one did, and has seen no less.
pub record FoundNoMore {X : Type 0} (u w : View X) : Type 0 where
  pub looks : (x : Item) → Contains w.trail x → x.kind ≡ Looked → Contains u.trail x
  pub ends : (a version slot : ℕ) → FoundEnd w a version slot → FoundEnd u a version slot
  pub seen : (x : Sight) → Contains u.seen x → Contains w.seen x

module _ {X : Type 0} where
  -- it has the same trail, and has seen the same
  same_trail : (u w : View X) → w.trail ≡ u.trail → w.seen ≡ u.seen → FoundNoMore u w
  same_trail u w trail seen = record {
    looks = λ x c is. subst (λ (z : List Item). Contains z x) trail c;
    ends = λ a version slot f. subst (HasEnd a version slot) trail f;
    seen = λ x c. subst (λ (z : List Sight). Contains z x) (sym seen) c;
  }

  same_view : (u : View X) → FoundNoMore u u
  same_view u = same_trail u u refl refl

  -- a pass has seen more, and its trail has an item that tells nothing of it
  learns_no_more : (v : View X) (sights : List Sight) (item : Item) → LooksNowhere item.kind → FoundNoMore v (learns v sights item)
  learns_no_more v sights item quiet = record {
    looks = λ x c is. ⊎_elim
        (λ (e : item ≡ x). absurd (quiet.no_anchor (ap Item.kind e ∙ is)))
        (λ (d : Contains v.trail x). d)
        (cons_contains item x v.trail c);
    ends = λ a version slot f. older a version slot f;
    seen = λ x c. Contains-append_right sights v.seen x c;
  }
    where
      older : (a version slot : ℕ) → (SawNoLink slot item × HasHalted a version v.trail) ⊎ HasEnd a version slot v.trail
          → HasEnd a version slot v.trail
      older a version slot (inl q) = absurd (quiet.no_link q.0.kind)
      older a version slot (inr q) = q

module _ {X : Type 0} (s : State X) where
  -- the view was there and found no more, or it made no step
  abbrev WasThere : View X → Type 0
  WasThere w = ((j : ℕ) × (u : View X) × (get_elem? s.views j ≡ some u) × FoundNoMore u w) ⊎ (w.trail ≡ [])

  module _ (views : List (View X)) (h : HaltsStand s) (now : (j : ℕ) (w : View X) → get_elem? views j ≡ some w → WasThere w) where
    pub halts_renewed : HaltsStand (renewed s views)
    halts_renewed = record {
      looks = λ j w wat x c is. ⊎_elim
          (λ (q : (p : ℕ) × (u : View X) × (get_elem? s.views p ≡ some u) × FoundNoMore u w).
          q.3.seen (Stood x.at (epoch_of x.found)) (h.looks q.0 q.1 q.2 x (q.3.looks x c is) is))
          (λ (none : w.trail ≡ []). absurd (contains_none x (subst (λ (z : List Item). Contains z x) none c)))
          (now j w wat);
      ends = λ j w wat a version slot says f c. ⊎_elim
          (λ (q : (p : ℕ) × (u : View X) × (get_elem? s.views p ≡ some u) × FoundNoMore u w).
          h.ends q.0 q.1 q.2 a version slot says (q.3.ends a version slot f) c)
          (λ (none : w.trail ≡ []). subst (HasEnd a version slot) none f)
          (now j w wat);
    }

  -- a view that made no step comes behind the others
  pub halts_appended : (n : View X) → n.trail ≡ [] → HaltsStand s → HaltsStand (renewed s (s.views ++ n ∷ []))
  halts_appended n none h = halts_renewed (s.views ++ n ∷ []) h (λ j w wat. by_place j w (at_more s.views n j w wat))
    where
      at_more : (xs : List (View X)) (y : View X) (j : ℕ) (z : View X) → get_elem? (xs ++ y ∷ []) j ≡ some z
          → (get_elem? xs j ≡ some z) ⊎ (y ≡ z)
      at_more [] y zero z e = inr (some-injective y z e)
      at_more [] y (suc j) z e = absurd (some-ne-none z (sym e))
      at_more (x ∷ xs) y zero z e = inl e
      at_more (x ∷ xs) y (suc j) z e = at_more xs y j z e

      by_place : (j : ℕ) (w : View X) → (get_elem? s.views j ≡ some w) ⊎ (n ≡ w) → WasThere w
      by_place j w (inl e) = inl (j, w, e, same_view w)
      by_place j w (inr e) = inr (subst (λ (z : View X). z.trail ≡ []) e none)

  -- or in place of another one
  pub halts_emptied : (p : ℕ) (n : View X) → n.trail ≡ [] → HaltsStand s → HaltsStand (renewed s (set s.views p n))
  halts_emptied p n none h = halts_renewed (set s.views p n) h (λ j w wat. by_place j w (at_set s.views p j n w wat))
    where
      by_place : (j : ℕ) (w : View X) → ((j ≡ p) × (n ≡ w)) ⊎ ((j ≢ p) × (get_elem? s.views j ≡ some w)) → WasThere w
      by_place j w (inl q) = inr (subst (λ (z : View X). z.trail ≡ []) q.1 none)
      by_place j w (inr q) = inl (j, w, q.1, same_view w)

  module _ (i : ℕ) (v : View X) (at : get_elem? s.views i ≡ some v) where
    -- the view i becomes another one, which found no more
    halts_changed : (w : View X) → FoundNoMore v w → HaltsStand s → HaltsStand (renewed s (set s.views i w))
    halts_changed w no_more h = halts_renewed (set s.views i w) h (λ j u uat. by_place j u (at_set s.views i j w u uat))
      where
        by_place : (j : ℕ) (u : View X) → ((j ≡ i) × (w ≡ u)) ⊎ ((j ≢ i) × (get_elem? s.views j ≡ some u)) → WasThere u
        by_place j u (inl q) = inl (i, v, at, subst (FoundNoMore v) q.1 no_more)
        by_place j u (inr q) = inl (j, u, q.1, same_view u)

    pub halts_learned : (sights : List Sight) (item : Item) → LooksNowhere item.kind → HaltsStand s
        → HaltsStand (renewed s (set s.views i (learns v sights item)))
    halts_learned sights item quiet h = halts_changed (learns v sights item) (learns_no_more v sights item quiet) h

    -- the hold of a tab that writes is another one, and that of a tab that frees
    pub halts_rewritten : (t : ℕ) (w : Writer X) (new : Hold X) → HaltsStand s → HaltsStand (with_held s i v t w new)
    halts_rewritten t w new h = halts_changed (with_hold v t w new) (same_trail v (with_hold v t w new) refl refl) h

    pub halts_wiped : (t : ℕ) (f : Freer X) (new : Hold X) → HaltsStand s → HaltsStand (with_wiped s i v t f new)
    halts_wiped t f new h = halts_changed (with_wiper v t f new) (same_trail v (with_wiper v t f new) refl refl) h

-- Notes.

module _ {X : Type 0} (s : State X) (i : ℕ) (v : View X) (at : get_elem? s.views i ≡ some v) (item : Item)
    (quiet : LooksNowhere item.kind) (h : HaltsStand s) where
  pub noted_behind_halts : HaltsStand (noted_behind s i v item)
  noted_behind_halts =
      halts_appended (renewed s (set s.views i (learns v [] item))) (note_of v) refl (halts_learned s i v at [] item quiet h)

  pub noted_at_halts : (n : ℕ) → HaltsStand (noted_at s i v item n)
  noted_at_halts n =
      halts_emptied (renewed s (set s.views i (learns v [] item))) n (note_of v) refl (halts_learned s i v at [] item quiet h)

  pub learned_from_halts : (n : ℕ) (u : View X) → HaltsStand (learned_from s i v item n u)
  learned_from_halts n u =
      halts_emptied (renewed s (set s.views i (learns v u.seen item))) n spent refl (halts_learned s i v at u.seen item quiet h)
