-- A pass has seen more, a note becomes another one, and a new note comes: each is a change of views that leaves a sound state.
use Rattle.std.proofs.Common.{◌≡◌, ◌≢◌, ◌⊎◌, inl, inr, ⊎_elim, ℕ, zero, suc, List, [], ◌∷◌, ◌++◌, length, set, sym, refl, ap, ◌∙◌, subst, arith, false, Contains}
use Rattle.std.proofs.lemmas.List.Elements.{Contains-append_right}
use Rattle.std.proofs.lemmas.List.Sums.{sum_by-append}
use mathlib.Core.Option.{some, some-injective, some-ne-none}
use mathlib.Core.Logic.{dite}
use native.Mathlib.Decide.{ℕ_discrete}
use lib.ListN.{get_elem?}
use Rattle.core_model.specs.declared.view.Kind.{Kind}
use Rattle.core_model.specs.declared.view.Kind.TheVariants.{Counted as Looks, Drew, Noted, Learned as LearnedKind}
use Rattle.core_model.specs.declared.view.Item.{Item}
use Rattle.core_model.specs.declared.view.Sight.{Sight}
use Rattle.core_model.specs.declared.view.View.{View}
use Rattle.core_model.specs.Layout.{Setting}
use Rattle.core_model.specs.State.{State}
use Rattle.core_model.specs.Trails.{tells_word, is_draw, counted_in, last_count}
use Rattle.core_model.specs.Sound.{Sound}
use Rattle.core_model.proofs.Lists.{at_set, at_length, set_here, set_else, sum_at, cons_contains}
use Rattle.core_model.proofs.NotesFrame.{Goes, IsSeen, SightsKnown, Learned, Renews, goes_same, seen_right, known_view}
use Rattle.core_model.specs.Tabs.{IsPass}
use Rattle.core_model.specs.CellMoves.{note_of}
use Rattle.core_model.specs.TableForms.{learns}

-- an item of this kind tells no number of a word
pub record Quiet (kind : Kind) : Type 0 where
  pub no_word : tells_word kind ≡ false
  pub no_draw : is_draw kind ≡ false
  pub no_count : (found before : ℕ) → counted_in kind found before ≡ before
  pub not_looked : kind ≢ Looks
  pub not_drew : kind ≢ Drew

pub noted : Quiet Noted
noted = record { no_word = refl; no_draw = refl; no_count = λ found before. refl; not_looked = λ e. cc; not_drew = λ e. cc }

pub learned : Quiet LearnedKind
learned = record { no_word = refl; no_draw = refl; no_count = λ found before. refl; not_looked = λ e. cc; not_drew = λ e. cc }

pub learns_goes : {X : Type 0} (v : View X) (sights : List Sight) (item : Item) → Quiet item.kind → Goes v (learns v sights item)
learns_goes v sights item q = record {
  pass = refl;
  tabs = refl;
  held = refl;
  mirror = refl;
  deeds = refl;
  met = refl;
  find = λ a. rw q.no_word refl;
  since = λ version a. rw (q.no_word, q.no_draw) refl;
  before = λ version a. rw q.no_draw refl;
  as_drawn = λ version. rw q.no_draw (omega arith);
  as_draws = rw q.no_draw (omega arith);
  as_vain = rw q.no_draw (omega arith);
  as_count = q.no_count item.found (last_count v.trail);
  looked = λ x h e. ⊎_elim (λ (z : item ≡ x). absurd (q.not_looked (ap Item.kind z ∙ e))) (λ (z : Contains v.trail x). z) (cons_contains item x v.trail h);
  drew = λ x h e. ⊎_elim (λ (z : item ≡ x). absurd (q.not_drew (ap Item.kind z ∙ e))) (λ (z : Contains v.trail x). z) (cons_contains item x v.trail h);
  sees = λ a. seen_right a sights v.seen;
  keeps = λ x h. Contains-append_right sights v.seen x h;
}

module _ {X : Type 0} (k : Setting X) (s : State X) (so : Sound k s) where
  module _ (i : ℕ) (v w : View X) (at : get_elem? s.views i ≡ some v) (pass : IsPass v) (g : Goes v w) (known : SightsKnown k s w.seen) where
    tabs_w : w.tabs ≢ []
    tabs_w z = absurd (let l = pass in let e = ap length (sym g.tabs ∙ z) in omega arith)

    -- the view of a pass goes on
    pub pass_renews : Renews k s (set s.views i w)
    pass_renews = record {
      now = λ j u uat. ⊎_elim
          (λ (t : (j ≡ i) × (w ≡ u)). inl (v, subst (λ (z : ℕ). get_elem? s.views z ≡ some v) (sym t.0) at, subst (Goes v) t.1 g))
          (λ (t : (j ≢ i) × (get_elem? s.views j ≡ some u)). inl (u, t.1, goes_same u))
          (at_set s.views i j w u uat);
      sights = λ j u uat. ⊎_elim
          (λ (t : (j ≡ i) × (w ≡ u)). subst (λ (z : View X). SightsKnown k s z.seen) t.1 known)
          (λ (t : (j ≢ i) × (get_elem? s.views j ≡ some u)). known_view k s so.anchors.seen j u t.1)
          (at_set s.views i j w u uat);
      notes = λ j u uat. ⊎_elim
          (λ (t : (j ≡ i) × (w ≡ u)). subst (λ (z : View X). z.tabs ≡ [] → z ≡ note_of z) t.1 (λ z. absurd (tabs_w z)))
          (λ (t : (j ≢ i) × (get_elem? s.views j ≡ some u)). so.anchors.shaped.notes j u t.1)
          (at_set s.views i j w u uat);
      later = λ j u uat. dite (ℕ_discrete j i)
          (λ e. inl (
            w,
            subst (λ (z : ℕ). get_elem? (set s.views i w) z ≡ some w) (sym e) (set_here s.views i w (at_length s.views i v at)),
            subst (λ (z : View X). Goes z w) (some-injective v u (sym at ∙ subst (λ (z : ℕ). get_elem? s.views z ≡ some u) e uat)) g,
          ))
          (λ ne. inl (u, set_else s.views i j w ne ∙ uat, goes_same u));
      sums = λ f goes none. let q = sum_at f s.views i v w at in let e = goes v w g in omega arith;
    }

  -- A note becomes another one, or comes at the end.

  module _ (n : ℕ) (old m : View X) (at : get_elem? s.views n ≡ some old) (is_note : old ≡ note_of old) (kept : (x : Sight) → Contains old.seen x → IsSeen (set s.views n (note_of m)) x) (known : SightsKnown k s m.seen) where
    pub note_renews : Renews k s (set s.views n (note_of m))
    note_renews = record {
      now = λ j u uat. ⊎_elim
          (λ (t : (j ≡ n) × (note_of m ≡ u)). inr (subst (λ (z : View X). z ≡ note_of z) t.1 refl))
          (λ (t : (j ≢ n) × (get_elem? s.views j ≡ some u)). inl (u, t.1, goes_same u))
          (at_set s.views n j (note_of m) u uat);
      sights = λ j u uat. ⊎_elim
          (λ (t : (j ≡ n) × (note_of m ≡ u)). subst (λ (z : View X). SightsKnown k s z.seen) t.1 known)
          (λ (t : (j ≢ n) × (get_elem? s.views j ≡ some u)). known_view k s so.anchors.seen j u t.1)
          (at_set s.views n j (note_of m) u uat);
      notes = λ j u uat. ⊎_elim
          (λ (t : (j ≡ n) × (note_of m ≡ u)). subst (λ (z : View X). z.tabs ≡ [] → z ≡ note_of z) t.1 (λ z. refl))
          (λ (t : (j ≢ n) × (get_elem? s.views j ≡ some u)). so.anchors.shaped.notes j u t.1)
          (at_set s.views n j (note_of m) u uat);
      later = λ j u uat. dite (ℕ_discrete j n)
          (λ e. inr (subst (Learned (set s.views n (note_of m))) (some-injective old u (sym at ∙ subst (λ (z : ℕ). get_elem? s.views z ≡ some u) e uat)) (is_note, kept)))
          (λ ne. inl (u, set_else s.views n j (note_of m) ne ∙ uat, goes_same u));
      sums = λ f goes none. let q = sum_at f s.views n old (note_of m) at in let e = ap f is_note in let o = none old in let h = none m in omega arith;
    }

  at_append : (xs : List (View X)) (y : View X) (j : ℕ) (u : View X) → get_elem? (xs ++ y ∷ []) j ≡ some u → (get_elem? xs j ≡ some u) ⊎ (y ≡ u)
  at_append [] y zero u h = inr (some-injective y u h)
  at_append [] y (suc j) u h = absurd (some-ne-none u (sym h))
  at_append (x ∷ xs) y zero u h = inl h
  at_append (x ∷ xs) y (suc j) u h = at_append xs y j u h

  pub append_at : (xs : List (View X)) (y : View X) (j : ℕ) (u : View X) → get_elem? xs j ≡ some u → get_elem? (xs ++ y ∷ []) j ≡ some u
  append_at [] y j u h = absurd (some-ne-none u (sym h))
  append_at (x ∷ xs) y zero u h = h
  append_at (x ∷ xs) y (suc j) u h = append_at xs y j u h

  module _ (m : View X) (known : SightsKnown k s m.seen) where
    pub new_note_renews : Renews k s (s.views ++ note_of m ∷ [])
    new_note_renews = record {
      now = λ j u uat. ⊎_elim (λ (h : get_elem? s.views j ≡ some u). inl (u, h, goes_same u)) (λ (e : note_of m ≡ u). inr (subst (λ (z : View X). z ≡ note_of z) e refl)) (at_append s.views (note_of m) j u uat);
      sights = λ j u uat. ⊎_elim (λ (h : get_elem? s.views j ≡ some u). known_view k s so.anchors.seen j u h) (λ (e : note_of m ≡ u). subst (λ (z : View X). SightsKnown k s z.seen) e known)
          (at_append s.views (note_of m) j u uat);
      notes = λ j u uat. ⊎_elim (λ (h : get_elem? s.views j ≡ some u). so.anchors.shaped.notes j u h) (λ (e : note_of m ≡ u). subst (λ (z : View X). z.tabs ≡ [] → z ≡ note_of z) e (λ z. refl))
          (at_append s.views (note_of m) j u uat);
      later = λ j u uat. inl (u, append_at s.views (note_of m) j u uat, goes_same u);
      sums = λ f goes none. let q = sum_by-append f s.views (note_of m ∷ []) in let h = none m in omega arith;
    }
